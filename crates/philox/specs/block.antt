pub mod Philox
