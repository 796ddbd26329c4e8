pub mod BackLemmas
pub mod FieldLemmas
pub mod NumberLemmas
pub mod ReadLemmas
pub mod RefusalLemmas
pub mod TextLemmas
