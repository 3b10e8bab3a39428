pub mod SeenLemmas
pub mod LevelLemmas
pub mod ReadLemmas
pub mod MadeLemmas
pub mod StageLemmas
pub mod LoopLemmas
pub mod DayLemmas
pub mod BothLemmas
