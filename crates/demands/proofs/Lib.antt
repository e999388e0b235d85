-- The laws that show the demands.
pub mod Reading
pub mod ByAnswer
pub mod Narrowing
pub mod Turning
pub mod OneOutcome
pub mod SomeOutcome
pub mod Loops
pub mod Explains
pub mod Refusals
pub mod Demands
pub mod Exchange
pub mod ForC
pub mod TextToImage
