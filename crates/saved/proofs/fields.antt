pub mod Fields
pub mod Bounds
pub mod Tests
pub mod Saved
