-- A byte fill that is refused or not, in one equation; its draws fit a word.
pub mod Bytes
