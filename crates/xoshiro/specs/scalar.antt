pub mod Seeded
pub mod Calls
pub mod Claims
