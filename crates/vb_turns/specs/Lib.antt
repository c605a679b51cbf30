pub mod Ran
pub mod Stage
