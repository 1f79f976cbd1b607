pub mod Programs
pub mod Laying
