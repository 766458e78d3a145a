pub mod Numbers
pub mod Ahead
pub mod Parts
