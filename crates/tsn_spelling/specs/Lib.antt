pub mod Examples
pub mod Growing
pub mod Laws
pub mod Line
