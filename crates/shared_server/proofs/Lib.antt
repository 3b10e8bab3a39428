pub mod ViewLemmas
pub mod StatusLemmas
pub mod ReplyLemmas
pub mod TextLemmas
pub mod StepLemmas
pub mod AlongLemmas
pub mod OverLemmas
pub mod ShareLemmas
mod UnseenLemmas
pub mod ServingLemmas
