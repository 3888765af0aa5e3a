pub mod Carrying
pub mod Alike
pub mod Recorded
pub mod Exact
pub mod LeadingBack
pub mod Forms
pub mod Running
pub mod Lost
