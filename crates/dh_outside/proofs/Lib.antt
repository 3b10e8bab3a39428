pub mod KeepLemmas
pub mod PieceLemmas
mod ReadLemmas
pub mod TalkLemmas
