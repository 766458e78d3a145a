pub mod splitmix64
pub mod scalar
pub mod rows
pub mod x8
pub mod powers
