-- The laws of lines: how they are read and written, and the theorems.
pub mod Values
pub mod Laws
pub mod Theorems
