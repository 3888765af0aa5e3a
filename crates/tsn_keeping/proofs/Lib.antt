pub mod Entering
pub mod Stamped
