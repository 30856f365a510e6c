pub mod Clean
mod Cuts
mod Digits
pub mod Heads
pub mod Nested
pub mod Once
mod Parts
pub mod Pushes
pub mod SameWords
pub mod Spaced
mod Splits
pub mod Taken
pub mod Values
