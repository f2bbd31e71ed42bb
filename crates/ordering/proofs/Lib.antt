pub mod Keyed
pub mod Grouped
pub mod Ranks
pub mod Firsts
