pub mod Tokens
pub mod Reading
pub mod Closing
pub mod Steps
pub mod Complete
pub mod Whole
pub mod Notes
pub mod Samples
