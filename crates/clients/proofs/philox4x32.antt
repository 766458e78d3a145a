-- The calls of `simulate` as a list, and what the theorem over lists of calls says of it.
pub mod Calls
