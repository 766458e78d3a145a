-- Values that are their own rounding; the order of negative patterns, and the square root's guess; products with 1 or -1; the quarter's
-- law, and that it is a whole number; how the lists of Box-Muller's loops compose; and the theorems.
pub mod Values
pub mod Order
pub mod Guess
pub mod Signs
pub mod Quarter
pub mod Whole
pub mod Halves
pub mod Theorems
pub mod Answered
pub mod Accepted
