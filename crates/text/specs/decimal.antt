-- Decimal numbers in a text: how one is written, and what is read as one.
pub mod Decimal
pub mod Number
pub mod Long
pub mod Claims
