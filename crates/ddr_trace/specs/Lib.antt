pub mod Banks
pub mod Bus
pub mod Commands
pub mod Rules
pub mod Spacing
pub mod Legality
pub mod Names
pub mod Traces
