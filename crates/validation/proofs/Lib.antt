pub mod CheckLemmas
pub mod KnownLemmas
pub mod OrderLemmas
mod RuleLemmas
pub mod SideLemmas
pub mod BodyLemmas
pub mod UnseenLemmas
pub mod LoopLemmas
