pub mod Laws
pub mod Reading
pub mod Past
pub mod Theorems
