-- The bytes of a group, and four groups at a time.
pub mod Four
