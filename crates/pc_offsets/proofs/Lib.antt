-- running sums
pub mod LayoutLemmas
-- the fields of a context
pub mod ContextLemmas
-- the intrinsics that are used
pub mod UsedLemmas
