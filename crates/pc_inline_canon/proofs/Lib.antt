-- What the functions of this crate rest on, and those of the crates above: the public ones are theirs too.
pub mod MarkLemmas
pub mod KeptLemmas
pub mod AdapterKeptLemmas
pub mod WorldLemmas
pub mod RoomLemmas
mod WrittenLemmas
pub mod StepLemmas
pub mod PassedLemmas
pub mod FrameLemmas
pub mod TypeLemmas
pub mod OptionLemmas
pub mod DefinitionLemmas
mod LiftLemmas
mod LowerLemmas
pub mod TreeLemmas
pub mod LogLemmas
pub mod SlotLemmas
pub mod MemoryLemmas
pub mod OptionsEntryLemmas
mod EntryLemmas
pub mod UsedLemmas
pub mod UsesLemmas
pub mod LoweredLemmas
mod LowerHostLemmas
pub mod ItemLemmas
pub mod ResourceLemmas
pub mod CoreInstanceLemmas
pub mod HoldsLemmas
pub mod ThereLemmas
pub mod GotLemmas
pub mod ConvertedLemmas
mod CalleeLemmas
mod IntrinsicLemmas
-- adapters: equal ones have one number, and the graph has those that the log of the reading makes
mod SameMarkLemmas
pub mod NumberLemmas
mod OnceLemmas
pub mod ToldLemmas
mod MadeLemmas
mod SideLemmas
mod SideMeansLemmas
mod MakingLemmas
mod AdapterLemmas
mod LiftedLemmas
mod GottenLemmas
