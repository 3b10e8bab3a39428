pub mod ComboLemmas
