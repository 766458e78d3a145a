-- What many draws at once hand out, and what fills leave, row by row.
pub mod Draws
pub mod Rows
