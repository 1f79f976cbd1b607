pub mod Tables
pub mod Rows
pub mod Filing
pub mod Counting
