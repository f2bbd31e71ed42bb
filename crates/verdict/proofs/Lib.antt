pub mod Works
pub mod Longest
pub mod Earliest
pub mod Told
pub mod Judge
pub mod Text
