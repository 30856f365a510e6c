pub mod Accepted
pub mod OwnReplies
pub mod Places
mod Rows
pub mod SameReports
