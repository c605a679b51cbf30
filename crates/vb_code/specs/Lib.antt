pub mod Code
pub mod Machine
pub mod Shapes
pub mod Local
pub mod Failing
