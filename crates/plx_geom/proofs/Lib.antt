pub mod Places
pub mod Superblocks
