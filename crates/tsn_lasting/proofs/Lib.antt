pub mod Answering
pub mod Entering
pub mod GoingOn
pub mod Reading
pub mod Windows
