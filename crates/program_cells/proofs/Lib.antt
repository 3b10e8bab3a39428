pub mod OrderLemmas
mod DayLemmas
pub mod CellLemmas
pub mod ValueLemmas
pub mod LoopLemmas
pub mod SeenLemmas
pub mod SortLemmas
pub mod GroupLemmas
pub mod PlaceLemmas
pub mod SumLemmas
pub mod JoinLemmas
pub mod MeasureLemmas
pub mod TallyLemmas
pub mod MicroLemmas
