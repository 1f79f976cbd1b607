pub mod Walking
pub mod Chaining
pub mod Storing
pub mod Appending
