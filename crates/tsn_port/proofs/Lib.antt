pub mod Acting
pub mod Asking
pub mod Following
pub mod Openings
pub mod Ports
pub mod Taking
pub mod Working
pub mod Crossing
