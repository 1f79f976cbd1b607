pub mod Laying
pub mod Spends
