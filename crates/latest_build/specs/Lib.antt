pub mod Places
pub mod Covers
pub mod Touches
pub mod Found
pub mod Leads
pub mod Held
pub mod Told
