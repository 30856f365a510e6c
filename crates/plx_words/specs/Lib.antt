pub mod Candidates
pub mod Files
pub mod Pieces
pub mod Texts
pub mod Words
pub mod Written
