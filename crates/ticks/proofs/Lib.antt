pub mod Ints
pub mod Order
pub mod Extremes
pub mod Raised
pub mod Words
