pub mod Firsts
pub mod Going
pub mod Joining
pub mod Starting
pub mod Finding
