pub mod Failures
pub mod Output
pub mod Starting
