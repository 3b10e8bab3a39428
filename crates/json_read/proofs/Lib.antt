pub mod MeantLemmas
pub mod BytesLemmas
pub mod LookLemmas
pub mod FormLemmas
