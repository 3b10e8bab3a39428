pub mod Check
pub mod Known
pub mod Run
pub mod Body
