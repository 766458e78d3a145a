-- How the loops' parts make the whole.
pub mod Whole
