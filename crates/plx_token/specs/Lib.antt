pub mod Grants
pub mod Confirming
