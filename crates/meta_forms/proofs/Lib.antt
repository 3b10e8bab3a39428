pub mod MemberLemmas
pub mod ObjectLemmas
