pub mod Fill
pub mod Kinds
pub mod Numbers
pub mod FillBytes
pub mod Handed
pub mod Buffer
pub mod Claims
