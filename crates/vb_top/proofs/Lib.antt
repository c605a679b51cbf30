pub mod Uncaught
pub mod Kept
pub mod Named
pub mod Compiled
pub mod Calls
pub mod Refusals
