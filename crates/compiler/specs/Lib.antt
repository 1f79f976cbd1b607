pub mod Layout
pub mod Pieces
pub mod Body
pub mod Builtins
pub mod Whole
pub mod Samples
