pub mod States
pub mod Moves
pub mod Turning
pub mod Dues
