pub mod Gathering
pub mod Entered
pub mod Having
