mod Found
mod OnceSchedule
mod OnceTrace
pub mod Readings
pub mod Rows
pub mod ScheduleFiles
pub mod Worlds
