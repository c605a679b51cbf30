pub mod Orders
pub mod Told
pub mod TreeJoints
pub mod LineJoints
pub mod TreeExcludes
pub mod UpTo
