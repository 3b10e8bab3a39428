pub mod FirstLemmas
pub mod SaidLemmas
pub mod NameLemmas
pub mod JudgedLemmas
pub mod TextSizes
pub mod DayLemmas
pub mod WriteLemmas
mod LoopLemmas
