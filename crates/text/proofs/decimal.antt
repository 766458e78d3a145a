-- The laws of numbers in a text, of texts put one behind another, and the theorems.
pub mod Decimal
pub mod Backward
pub mod Reading
pub mod Written
pub mod Sound
pub mod Theorems
