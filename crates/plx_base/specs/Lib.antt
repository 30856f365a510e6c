pub mod Blocks
pub mod Canonical
pub mod Fields
pub mod Labels
pub mod Payload
pub mod Pointers
pub mod Sectors
pub mod Spelling
