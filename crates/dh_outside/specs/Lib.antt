pub mod Faults
pub mod Files
pub mod Keeper
pub mod Memory
pub mod Pieces
pub mod Talk
