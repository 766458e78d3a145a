pub mod ln
pub mod sincos_turns
pub mod box_muller_x32
