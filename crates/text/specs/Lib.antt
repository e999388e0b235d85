pub mod TextPromise
pub mod Inside
