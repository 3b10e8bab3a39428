pub mod RunLemmas
pub mod HeldLemmas
pub mod ServeLemmas
