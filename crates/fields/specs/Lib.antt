pub mod Bits
pub mod Padding
pub mod Faults
pub mod Layout
pub mod Readers
pub mod Line
pub mod FaultText
