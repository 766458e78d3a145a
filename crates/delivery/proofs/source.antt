-- That a source draws as its engine does; where the words of its draws stand; and the theorems.
pub mod Engines
pub mod Places
pub mod Theorems
