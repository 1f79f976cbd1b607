pub mod Clocks
pub mod Samples
