pub mod Has
pub use Rattle.bits.specs.Bits
