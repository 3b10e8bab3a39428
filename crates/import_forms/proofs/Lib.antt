pub mod BothLemmas
pub mod OwnedLemmas
