pub mod Applying
pub mod Passing
pub mod Frames
pub mod Calling
