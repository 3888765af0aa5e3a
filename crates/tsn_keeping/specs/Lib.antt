pub mod Buffered
pub mod Keeping
pub mod Stamps
