pub mod Form
pub mod Moves
pub mod Claims
