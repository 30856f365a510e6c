pub mod FirstDevice
pub mod TakenOver
