pub mod Records
pub mod Faults
pub mod Told
pub mod File
pub mod Text
pub mod Read
pub mod Line
