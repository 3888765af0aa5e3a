pub mod Entries
pub mod Finding
pub mod Marks
pub mod Tests
