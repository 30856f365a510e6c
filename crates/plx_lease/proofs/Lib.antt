pub mod Asking
pub mod Commands
pub mod Held
pub mod Holding
pub mod Own
pub mod Rereads
pub mod Shells
