pub mod Asks
pub mod Line
pub mod Next
pub mod Requests
pub mod Stream
pub mod View
pub mod Waiting
