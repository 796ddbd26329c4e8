mod BankLemmas
mod CountLemmas
mod HazardLemmas
mod Lines
mod Order
mod SlotLemmas
mod Soundness
