pub mod Walks
pub mod Unbusy
pub mod Takes
pub mod Devices
pub mod Phases
pub mod Kept
pub mod QuietProved
