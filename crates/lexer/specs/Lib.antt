pub mod Byte
pub mod Keyword
pub mod Token
pub mod Lexing
pub mod Tokens
pub mod Law
