pub mod Sizes
pub mod Plan
pub mod File
pub mod Decode
pub mod Held
pub mod Law
pub mod Builtin
pub mod Reading
