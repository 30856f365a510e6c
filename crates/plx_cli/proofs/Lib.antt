pub mod Given
pub mod Statuses
pub mod Told
