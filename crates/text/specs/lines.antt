-- The values of a fill's bytes as text, one to a line.
pub mod Lines
pub mod Claims
