pub mod Tables
pub mod Bound
pub mod Enabling
pub mod Verdict
pub mod Sound
pub mod Answers
pub mod EarlierFirst
pub mod Text
