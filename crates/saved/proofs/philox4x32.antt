pub mod Form
pub mod Moves
pub mod Moved
pub mod Widths
pub mod Theorems
pub mod Sound
