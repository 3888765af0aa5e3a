pub mod Digits
pub mod Pieces
pub mod Shown
pub mod Told
pub mod Writing
