pub mod CountLemmas
pub mod StepLemmas
pub mod ContinueLemmas
pub mod AllLemmas
pub mod DefLemmas
-- the order: what an id leads to is lower, and is ready where it is named
pub mod PartLemmas
mod RankLemmas
pub mod HeldLemmas
-- what is held has a value
pub mod ValueLemmas
pub mod NumberLemmas
pub mod GainLemmas
-- the stack
mod OpenLemmas
mod SumLemmas
mod WorkLemmas
mod StackLemmas
-- numbers are given once
pub mod NoteLemmas
pub mod FillLemmas
pub mod FullLemmas
pub mod SoundLemmas
pub mod TakeLemmas
pub mod StepNameLemmas
pub mod RepresentedLemmas
pub mod EntryLemmas
-- the steps are those of the graph
pub mod ThereLemmas
mod StepsLemmas
pub mod OneStepLemmas
mod GrownLemmas
mod SlotLemmas
mod KindLemmas
pub mod ClosedSlotLemmas
-- where the steps stand
mod NumberedLemmas
mod OptionsLemmas
pub mod TrampolineLemmas
mod IntrinsicLemmas
mod LoweringLemmas
mod ModuleLemmas
