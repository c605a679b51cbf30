pub mod Steps
pub mod Tops
pub mod Names
pub mod First
pub mod Failing
