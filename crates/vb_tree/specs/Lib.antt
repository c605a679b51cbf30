pub mod Lines
pub mod Build
pub mod Excluded
