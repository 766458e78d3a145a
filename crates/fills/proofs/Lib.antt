-- The law behind every fill, draw by draw, buffered, and several groups at a time; words of many draws at once; how large the groups of each kind are;
-- bytes against elements; a byte fill refused and not; and the theorems.
pub mod Filling
pub mod Draws
pub mod Buffered
pub mod Runs
pub mod Ahead
pub mod Sounds
pub mod Rounding
pub mod Bytes
pub mod Handed
pub mod Theorems
