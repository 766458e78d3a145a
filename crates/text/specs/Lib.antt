pub mod decimal
pub mod hexfloat
pub mod lines
