-- The laws that tie the tables to the flows.
pub mod WalksOverArcs
pub mod Models
pub mod Filled
pub mod NearestArc
pub mod Trails
pub mod Orders
pub mod Raising
pub mod Stamping
pub mod Trying
pub mod Passes
pub mod Rooting
pub mod Climbing
pub mod Ranking
