pub mod Answers
pub mod Good
pub mod Lines
pub mod Reports
pub mod Written
