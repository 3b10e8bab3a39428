pub mod Search
pub mod Rights
pub mod Units
pub mod Decisions
