pub mod Laid
pub mod Spending
