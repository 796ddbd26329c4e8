mod Addresses
mod Blocks
mod Bursts
pub mod Cells
mod Entered
mod Fresh
mod Opened
mod Places
mod Slots
mod Tables
mod Words
