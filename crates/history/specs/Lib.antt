pub mod Says
pub mod Draws
pub mod Rows
pub mod xoshiro256pp
pub mod philox4x32
pub mod host
