pub mod Codes
pub mod Decimals
pub mod Fractions
pub mod Memory
pub mod Uid
pub mod Limits
