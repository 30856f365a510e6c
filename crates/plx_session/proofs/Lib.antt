pub mod Contents
pub mod Known
pub mod Machines
pub mod Numbers
pub mod PlacedBlocks
pub mod Places
pub mod Reached
