pub mod Examples
pub mod Remarks
