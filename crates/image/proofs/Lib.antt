-- The laws about images that the crates above cite.
pub mod Alike
pub mod Enough
pub mod Found
pub mod Handing
pub mod ReaderSteps
pub mod Keys
pub mod KindNumbers
pub mod FirstBad
pub mod OneOutcome
pub mod Orders
pub mod Refusing
pub mod RuleNumbers
pub mod Tests
pub mod Validity
pub mod WalkSteps
pub mod Words
pub mod Lists
