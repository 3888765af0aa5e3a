pub mod Desks
pub mod Rule
pub mod Seats
pub mod Steps
