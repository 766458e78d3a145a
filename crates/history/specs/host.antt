pub mod Answers
pub mod Xoshiro
pub mod Philox
pub mod Shipped
