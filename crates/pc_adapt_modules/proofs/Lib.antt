-- what held definitions name, they named before
mod BackLemmas
-- modules of a good split are grouped
pub mod GroupedLemmas
-- lists that are put together one by one
mod RecordLemmas
-- as what is imported what is planned
pub mod EntityLemmas
pub mod MemberLemmas
