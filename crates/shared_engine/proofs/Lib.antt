pub mod PlaceLemmas
pub mod ApartLemmas
pub mod Histories
mod Moves
pub mod Growth
pub mod Calls
mod BackLemmas
pub mod ShareLemmas
pub mod BuildLemmas
pub mod UnseenLemmas
