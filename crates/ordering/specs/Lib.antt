pub mod Strict
pub mod Keys
pub mod Groups
pub mod First
