pub mod Noting
pub mod Talking
