pub mod Running
pub mod Patch
pub mod Stored
pub mod Agreed
pub mod Meanings
pub mod Places
pub mod Alone
