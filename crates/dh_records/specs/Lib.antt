pub mod Values
pub mod Approved
pub mod Access
pub use Rattle.dh_changes.specs.Facts
pub use Rattle.dh_changes.specs.World
