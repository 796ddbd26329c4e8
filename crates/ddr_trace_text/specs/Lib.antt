pub mod Table
pub mod Text
pub mod Numbers
pub mod Parse
pub mod Reader
