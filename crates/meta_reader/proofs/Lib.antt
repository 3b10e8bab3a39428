pub mod KnownLemmas
pub mod LinkedLemmas
pub mod IdLemmas
pub mod FaultLemmas
pub mod ReadyLemmas
pub mod ValueLemmas
pub mod OneMetadata
