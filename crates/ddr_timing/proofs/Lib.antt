pub mod BankNumbers
pub mod Orders
pub mod Ranges
