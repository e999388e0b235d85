-- The laws that the proofs of the C calls share, and what their promises are worth.
pub mod Copying
-- what the promises leave open
pub mod OneOutcome
-- what C can read back, and what it means
pub mod Reading
pub mod Exactly
pub mod ExactlyText
