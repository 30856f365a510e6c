pub mod Landing
pub mod Maps
