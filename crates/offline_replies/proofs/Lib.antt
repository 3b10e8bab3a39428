pub mod AskLemmas
pub mod ReplyLemmas
pub mod UnseenLemmas
pub mod StepLemmas
pub mod LoadLemmas
pub mod CountLemmas
pub mod ReportLemmas
pub mod GeneratedLemmas
