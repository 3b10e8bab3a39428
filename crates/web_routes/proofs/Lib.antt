pub mod CallLaws
pub mod Refusals
