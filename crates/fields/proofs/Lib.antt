pub mod Numbers
pub mod Binary
pub mod Strays
