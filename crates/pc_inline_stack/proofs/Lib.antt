-- What the functions of this crate rest on, and those of the crates above: the public ones are theirs too.
mod EnclosedLemmas
pub mod ReadLemmas
pub mod RowLemmas
mod RowItemLemmas
mod ThenLemmas
mod ResumeLemmas
pub mod LoopAddsLemmas
pub mod WeightLemmas
mod WorkLemmas
mod WeighsLemmas
mod LeftLemmas
mod StackLemmas
mod BeginsLemmas
mod MoveLemmas
mod BegunLemmas
mod CurrentLemmas
mod EnterLemmas
mod LeaveLemmas
mod NamesLemmas
mod ChildLemmas
mod DriveLemmas
mod CallLemmas
mod MovesLemmas
mod TurnLemmas
mod GivesLemmas
mod SoundLemmas
mod EndLemmas
