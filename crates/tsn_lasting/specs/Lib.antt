pub mod Exchanges
pub mod Parts
pub mod Running
pub mod Standing
