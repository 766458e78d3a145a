pub mod Lanes
pub mod Theorems
pub mod Draws
