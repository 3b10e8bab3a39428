pub mod ApprovedCases
pub mod AccessLaws
