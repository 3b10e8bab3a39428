pub mod Code
pub mod Words
pub mod Shown
pub mod Outcome
pub mod Session
pub mod Serve
pub mod Run
