pub mod StatusLemmas
pub mod SummaryLemmas
pub mod ApprovalLemmas
mod ReportLemmas
pub mod AfterLemmas
pub mod Steps
pub mod Days
pub mod Orders
pub mod HistoryLaws
pub mod LoadLemmas
mod LoopLemmas
pub mod StandLemmas
pub mod SlotLemmas
