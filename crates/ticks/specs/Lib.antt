pub mod Extremes
pub mod Inside
