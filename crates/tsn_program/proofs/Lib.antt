pub mod Listing
pub mod Looking
pub mod Seen
