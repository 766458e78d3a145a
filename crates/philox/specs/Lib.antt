pub mod block
pub mod x8
pub mod draws
