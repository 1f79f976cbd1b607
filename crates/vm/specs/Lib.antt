pub mod Standing
pub mod Running
