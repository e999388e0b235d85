pub mod Circuit
pub mod Clock
pub mod Times
pub mod Narrows
pub mod Exchange
pub mod Changes
