pub mod Fronts
pub mod Cuts
pub mod Stacks
pub mod Tracked
pub mod PieceRows
pub mod PieceDepths
pub mod LineRows
pub mod Counts
pub mod MoreLines
pub mod FilesRead
pub mod OneList
mod Produced
