pub mod HostLemmas
pub mod LegalLemmas
pub mod OutcomeLemmas
pub mod StartLemmas
pub mod ThreadLemmas
