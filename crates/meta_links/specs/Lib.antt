pub mod Reference
pub mod Table
pub mod Held
pub mod Groups
pub mod Told
