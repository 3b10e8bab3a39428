pub mod KeyLemmas
pub mod LoopLemmas
pub mod MapLemmas
pub mod IndexLemmas
pub mod HangingLemmas
pub mod OrderLemmas
pub mod FactsLemmas
