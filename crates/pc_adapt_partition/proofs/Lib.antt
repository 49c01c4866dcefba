-- slices, and lists of what is imported
mod PartLemmas
-- how many imports there are
mod CountLemmas
-- what stands for imports
mod GivenLemmas
-- a module while it is gathered
mod GatherLemmas
-- a module, once it is gathered
mod CloseLemmas
-- groups, one after the other
mod CutLemmas
mod MakeLemmas
-- the fewest runs, and the places of adapters
mod SplitLemmas
mod PlaceLemmas
-- what the graph is after it: told, apart and wired
pub mod ToldLemmas
mod ApartLemmas
mod WiredLemmas
mod PartitionLemmas
-- one step of each loop
mod StepLemmas
-- how much is added at most, however it ends
mod MostLemmas
-- and how much a module imports at most
pub mod LongLemmas
-- which adapter is told to lack an option
mod RefusalLemmas
-- modules of adapters by the values of the adapters
mod RecordLemmas
mod AdaptedLemmas
-- they are wired
mod SaidLemmas
mod WiredModuleLemmas
