pub mod Local
pub mod Acting
