pub mod patterns
pub mod units
