pub mod Foreign
pub mod Images
pub mod ModelFacts
pub mod Owners
pub mod Replied
