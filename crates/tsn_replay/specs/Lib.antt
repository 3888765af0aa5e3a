pub mod Answering
pub mod Forms
pub mod Handling
pub mod Lasting
pub mod Recorder
pub mod Recording
pub mod Replaying
