pub mod Documents
pub mod Entries
pub mod Exports
pub mod Joined
pub mod Lines
pub mod Setups
pub mod Tables
pub mod Utf8
