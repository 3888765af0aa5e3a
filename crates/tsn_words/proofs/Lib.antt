pub mod Given
pub mod OneValue
pub mod Worked
