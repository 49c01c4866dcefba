-- what is in lists
mod ListLemmas
-- which values use a context
mod ContextLemmas
-- the opaque component instances of a reading, as lists
mod ListedLemmas
-- they are those of the graph
mod AlikeLemmas
-- and so are the transparent adapters
pub mod ReadLemmas
