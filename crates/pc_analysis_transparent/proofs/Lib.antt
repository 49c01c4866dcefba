-- What the functions of this crate rest on; the public ones serve crates above too.
-- sets with more numbers
mod SetLemmas
-- which definitions use a context
mod ContextLemmas
-- what function types tell
pub mod TypeLemmas
-- what the lists hold
pub mod OpenedLemmas
-- which adapters are transparent
mod TransparentLemmas
