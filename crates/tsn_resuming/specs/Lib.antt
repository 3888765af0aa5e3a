pub mod First
pub mod Joining
pub mod Resuming
pub mod Standing
