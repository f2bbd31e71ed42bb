pub mod Orders
pub mod ByMode
pub mod ByModeStrict
pub mod Lawful
