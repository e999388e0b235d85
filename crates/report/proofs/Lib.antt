-- The laws that the report's proofs share, and what the promise is worth.
-- writing
pub mod Digits
pub mod Signs
pub mod Writes
pub mod Rows
-- how long a report can be
pub mod Lengths
pub mod Refusals
pub mod Rings
pub mod Fits
-- the call, and what its promise leaves open
pub mod FromTiming
pub mod OneOutcome
-- what the text says
pub mod Printed
pub mod Determined
pub mod Decoded
pub mod LinesTell
