pub mod Numbers
pub mod Windows
pub mod Lines
pub mod Text
pub mod Layout
pub mod Inside
