pub mod Bytes
pub mod Forms
pub mod Lines
