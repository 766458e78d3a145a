-- What an answer tells on any engine; each engine's lists; the theorems.
pub mod Answers
pub mod XoshiroLists
pub mod PhiloxLists
pub mod Theorems
