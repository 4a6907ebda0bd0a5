pub mod Gathering
pub mod Feeds
pub mod Receiving
pub mod Genuinely
pub mod Undamages
pub mod Moving
pub mod Meanings
