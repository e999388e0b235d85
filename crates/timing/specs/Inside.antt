-- What only the proofs of this crate and of those above it lean on. No promise of a public call names it.
pub mod Loaded
pub mod Results
pub mod Ring
pub mod Told
pub mod Traceable
pub mod Web
pub mod Walk
