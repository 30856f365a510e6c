pub mod Links
pub mod Roots
