pub mod Delivery
pub mod Claims
