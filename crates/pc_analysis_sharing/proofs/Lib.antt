-- The core instances that steps make, by their numbers.
mod CoreLemmas
-- Those of a graph, and those of its plan.
mod PlaceLemmas
pub mod SharingLemmas
