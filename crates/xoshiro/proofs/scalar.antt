pub mod Jumping
pub mod Seeding
pub mod Theorems
pub mod Leaping
