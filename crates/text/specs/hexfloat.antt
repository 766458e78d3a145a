-- The text of a float in C's exact hexadecimal notation, and the value that such a text denotes.
pub mod Text
pub mod Value
pub mod Claims
