pub mod Replies
pub mod Views
pub mod Steps
pub mod Serving
pub mod Unseen
pub mod Links
pub mod OverFile
