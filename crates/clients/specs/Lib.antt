pub mod Refused
pub mod philox4x32
pub mod xoshiro256pp
