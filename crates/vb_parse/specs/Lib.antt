pub mod Where
pub mod Modifiers
pub mod Options
pub mod RowRules
pub mod Broken
pub mod UpTo
pub mod Rules
pub mod Excluded
