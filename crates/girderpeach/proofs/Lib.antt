pub mod Host
pub mod Draws
pub mod Engines
pub mod Few
pub mod Numbered
pub mod Words
pub mod Refusals
pub mod Theorems
