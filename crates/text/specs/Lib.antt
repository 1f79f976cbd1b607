pub mod Memory
pub mod Agree
pub mod First
pub mod Meanings
