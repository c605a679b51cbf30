pub mod Enders
pub mod Brackets
pub mod Counts
pub mod Stack
pub mod OpenBlocks
pub mod Roles
pub mod Depth
pub mod Reading
