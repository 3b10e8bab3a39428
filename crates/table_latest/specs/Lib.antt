pub mod Keys
pub mod Latest
pub mod Merged
pub mod Later
