pub mod Flats
pub mod Eight
