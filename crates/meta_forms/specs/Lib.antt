pub mod Both
pub mod Fields
pub mod Objects
pub mod Entries
pub mod Sharing
pub mod Table
pub mod Parts
