-- What only the proofs of this crate and of those above it lean on. No promise of a public call names it.
pub mod Page
pub mod Written
pub mod Pieces
