pub mod Flow
pub mod Bounds
pub mod Walk
pub mod Rank
pub mod Path
pub mod Inside
