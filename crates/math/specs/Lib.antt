pub mod Ln
pub mod Sqrt
pub mod Turns
pub mod BoxMuller
pub mod Claims
pub mod Lanes
pub mod Calls
pub mod Accepted
