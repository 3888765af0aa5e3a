pub mod Examples
pub mod Going
pub mod Text
