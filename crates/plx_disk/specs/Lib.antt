pub mod Filled
pub mod Landing
pub mod Lending
pub mod Missing
pub mod Standing
pub mod Stored
pub mod Writes
