-- Whether two types or core values are the same.
pub mod SameTypeLemmas
pub mod SameValueLemmas
-- What a reading is but for its total.
mod UncountedRows
mod UncountedNodes
pub mod UncountedLemmas
