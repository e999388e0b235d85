-- What only the proofs of this crate and of those above it lean on. No promise of a public call names it.
pub mod Net
pub mod Models
pub mod Trail
pub mod Listing
pub mod Raise
pub mod Parents
pub mod Passing
pub mod Ranks
pub mod Filled
pub mod Sizes
