pub mod Slots
pub mod Globals
pub mod Answering
