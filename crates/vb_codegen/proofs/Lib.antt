pub mod Texts
pub mod Emission
pub mod Placed
pub mod Simulation
pub mod Standing
pub mod Shaped
