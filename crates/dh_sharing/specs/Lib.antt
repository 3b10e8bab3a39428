pub mod Access
pub mod Ranges
pub mod Rule
