pub mod Crossed
pub mod Index
pub mod Kept
pub mod Latest
pub mod Newest
pub mod Touched
