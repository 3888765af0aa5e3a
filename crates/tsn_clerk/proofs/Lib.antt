pub mod Going
pub mod Noting
pub mod Telling
