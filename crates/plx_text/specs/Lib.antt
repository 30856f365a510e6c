pub mod Commands
pub mod Events
pub mod Once
pub mod Readings
pub mod Replies
pub mod Schedules
pub mod Stops
pub mod Traces
