pub mod Along
pub mod Lists
pub mod Named
pub mod Opens
pub mod Pushed
pub mod Whole
pub mod Written
