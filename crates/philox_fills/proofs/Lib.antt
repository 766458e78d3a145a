-- What a fill promises with its label.
pub mod Labelled
pub mod Refused
