pub mod Cells
pub mod Lists
pub mod FaultLines
