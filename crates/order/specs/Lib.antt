pub mod Words
pub mod Faults
pub mod Order
pub mod Claims
