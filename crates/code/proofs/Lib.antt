pub mod Fetching
pub mod Laying
