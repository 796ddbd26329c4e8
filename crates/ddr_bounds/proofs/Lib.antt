pub mod ColumnLemmas
pub mod ApartLemmas
pub mod OvertakerLemmas
