pub mod Stages
pub mod Finishes
