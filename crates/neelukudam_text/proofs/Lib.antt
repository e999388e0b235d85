-- The laws behind the program's promise.
pub mod Whole
