pub mod Checking
pub mod Lines
pub mod Listing
pub mod Program
