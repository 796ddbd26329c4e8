pub mod Courses
pub mod Drained
pub mod Growth
pub mod LineLemmas
pub mod QuietLemmas
pub mod Reached
pub mod RunLemmas
