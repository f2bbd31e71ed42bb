pub mod CodesHeld
pub mod Seats
