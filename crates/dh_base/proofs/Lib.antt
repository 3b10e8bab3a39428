pub mod DecimalLemmas
pub mod FractionLemmas
pub mod GcdLemmas
pub mod MillionthLemmas
pub mod ReadBackLemmas
pub mod RoundingLemmas
