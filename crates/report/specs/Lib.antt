pub mod Limits
pub mod Ascii
pub mod Decimal
pub mod Text
pub mod Promise
pub mod Inside
