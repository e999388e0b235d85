-- The laws of circuits, in the order in which they build on each other.
pub mod RulesInWords
pub mod Sound
pub mod Shifts
pub mod Ranges
pub mod Solved
pub mod Unique
pub mod Exchange
pub mod ExchangeRefused
pub mod Sizes
pub mod Narrowing
pub mod Changes
