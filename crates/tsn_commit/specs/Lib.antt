pub mod Lines
pub mod Resting
