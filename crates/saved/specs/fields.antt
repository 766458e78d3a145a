pub mod Fields
pub mod Saved
