pub mod Descriptors
pub mod Entries
pub mod Images
pub mod Leases
