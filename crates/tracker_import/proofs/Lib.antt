mod PairLemmas
mod LoopLemmas
mod OrderLemmas
mod ListLemmas
pub mod ConditionLemmas
pub mod FitLemmas
mod SaidLemmas
mod WriteLemmas
