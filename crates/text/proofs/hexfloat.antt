-- How long the texts are, how they are written piece by piece, how they are read, and the theorems.
pub mod Laws
pub mod Reading
pub mod Same
pub mod Denotes
pub mod Theorems
