pub mod Frames
pub mod Growth
pub mod Standing
pub mod Stepping
pub mod Runs
pub mod Beginning
pub mod Memory
