pub mod Meaning
pub mod Applied
pub mod Given
pub mod Code
pub mod Correct
pub mod Emitted
