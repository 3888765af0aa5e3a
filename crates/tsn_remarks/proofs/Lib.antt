pub mod Kept
pub mod Referred
pub mod Written
