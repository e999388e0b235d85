pub mod Buffers
pub mod Rings
pub mod Rules
pub mod Demands
pub mod Requests
