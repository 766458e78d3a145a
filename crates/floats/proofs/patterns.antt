-- What the tests of the casts tell.
pub mod Nan
