pub mod Trees
pub mod Methods
pub mod Refusal
