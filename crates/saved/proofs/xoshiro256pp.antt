pub mod Form
pub mod Sound
pub mod Theorems
