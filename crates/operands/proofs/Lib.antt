pub mod Slots
pub mod Naming
