-- The parts make the whole.
pub mod Whole
