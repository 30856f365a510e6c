pub mod Batches
pub mod Program
