pub mod Histories
pub mod Mirrors
pub mod Starting
pub mod Workers
