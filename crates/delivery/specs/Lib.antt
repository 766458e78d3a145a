pub mod source
pub mod parts
pub mod claims
