pub mod Bucket
pub mod Colours
pub mod Examples
pub mod Rates
