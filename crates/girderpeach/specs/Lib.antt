pub mod Host
pub mod Xoshiro
pub mod Philox
pub mod Claims
