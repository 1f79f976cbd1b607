pub mod Judge
pub mod Registers
pub mod Exec
pub mod Runs
pub mod Onward
pub mod Wraps
pub mod Samples
