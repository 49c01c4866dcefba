-- what held definitions name, they named before
pub mod BackLemmas
-- graphs that have got slots and trampolines
pub mod AddsLemmas
-- and nothing but what imports ask for
mod OnlyLemmas
-- slots and full lists
mod SlotLemmas
-- what helpers stand for
mod HelperLemmas
-- definitions for imports one after the other
pub mod ArgumentLemmas
-- what stands in the imports of an adapter
pub mod OwnLemmas
-- what they add slots for, and take from core instances
pub mod OwnSlotLemmas
-- how many entries the imports of an adapter cost
pub mod FewLemmas
