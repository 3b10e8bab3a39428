pub mod Combos
pub mod Held
pub mod Single
