pub mod Numbers
pub mod Domains
pub mod Polynomial
