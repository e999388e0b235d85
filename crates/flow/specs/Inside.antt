-- What only the proofs of this crate and of those above it lean on. No promise of a public call names it.
pub mod Updates
pub mod Within
pub mod Same
pub mod WalkBack
pub mod Rounds
