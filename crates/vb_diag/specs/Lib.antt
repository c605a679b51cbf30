pub mod Broken
pub mod Rules
