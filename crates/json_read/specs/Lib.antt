pub mod Forms
pub mod Given
pub mod Reference
pub mod Meant
pub mod Bytes
pub mod Views
