pub mod Source
pub mod Places
pub mod Claims
