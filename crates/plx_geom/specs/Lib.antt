pub mod Geometry
pub mod Limits
pub mod Places
pub mod Superblock
