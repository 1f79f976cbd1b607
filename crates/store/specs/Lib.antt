pub mod Limits
pub mod Words
pub mod Val
pub mod Tables
pub mod Answers
pub mod Filed
pub mod ValuesLemmas
