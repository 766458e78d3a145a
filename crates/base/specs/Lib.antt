-- What the other crates' definitions are made of: tables, iterates, a test of every element, four words and eight columns of them,
-- stores into a list, texts put into one, little-endian bytes, engines and their draws, lists of calls, what a refusal leaves.
pub mod Table
pub mod Iterate
pub mod Every
pub mod Quad
pub mod Zip
pub mod Stored
pub mod Bytes
pub mod Put
pub mod Engine
pub mod Refused
pub mod Refusal
pub mod Lists
