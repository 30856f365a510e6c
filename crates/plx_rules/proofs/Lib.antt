pub mod Holds
pub mod Maps
pub mod Nested
pub mod InUse
