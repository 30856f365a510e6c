pub mod Cause
pub mod Effects
pub mod Shown
pub mod Tables
