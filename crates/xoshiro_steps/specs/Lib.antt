pub mod Xoshiro256pp
pub mod Claims
