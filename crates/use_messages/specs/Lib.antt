pub mod Replies
pub mod Service
