pub mod AdmittedLemmas
