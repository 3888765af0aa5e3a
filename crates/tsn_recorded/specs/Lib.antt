pub mod Text
pub mod Reading
pub mod Reader
pub mod Collisions
