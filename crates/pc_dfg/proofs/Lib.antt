-- The layers above rest on these too.
-- lists and graphs that have only grown
pub mod AllLemmas
pub mod GrowLemmas
-- a definition keeps its value, and has one
pub mod KeptLemmas
pub mod UniqueLemmas
-- what has a value has one number
mod EntryLemmas
mod TellLemmas
pub mod SameLemmas
pub mod ZipLemmas
pub mod TraceLemmas
pub mod NodeLemmas
-- what is held stays held, and names what it named
pub mod HeldLemmas
mod NameLemmas
-- the order is kept
pub mod AddLemmas
pub mod PushLemmas
mod EffectLemmas
pub mod IntrinsicLemmas
pub mod EmptyLemmas
-- the join of instantiations
mod JoinLemmas
