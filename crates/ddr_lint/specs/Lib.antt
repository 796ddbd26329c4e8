pub mod Bound
pub mod BoundText
pub mod Lint
