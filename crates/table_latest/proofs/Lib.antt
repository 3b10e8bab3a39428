pub mod OrderLemmas
pub mod MergeLemmas
pub mod SearchLemmas
pub mod GapLemmas
pub mod GroupLemmas
pub mod OverLemmas
pub mod LaterLemmas
pub mod ReplacedLemmas
