pub mod Layout
pub mod Circuits
pub mod Holds
pub mod Answers
pub mod Written
