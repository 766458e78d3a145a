pub mod fields
pub mod xoshiro256pp
pub mod philox4x32
