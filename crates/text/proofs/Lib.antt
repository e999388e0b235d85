mod Steps
mod Storing
mod Reading
mod Finishing
pub mod OneOutcome
pub mod SomeOutcome
