pub mod Fitting
pub mod Accepted
pub mod Spelled
pub mod CodeSize
pub mod Law
