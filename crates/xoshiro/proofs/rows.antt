pub mod Lanes
pub mod Theorems
