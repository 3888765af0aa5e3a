pub mod Begins
pub mod Cycles
pub mod Filled
pub mod Keeps
pub mod Meaning
pub mod Numbers
pub mod Recur
pub mod Restored
