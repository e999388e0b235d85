pub mod TimingPromise
pub mod PathPromise
pub mod Inside
