pub mod Words
pub mod Types
pub mod Expressions
pub mod Fronts
pub mod Reading
pub mod TypeReading
pub mod MachineReading
pub mod Placing
