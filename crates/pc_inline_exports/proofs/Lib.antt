-- What the functions of this crate rest on, and those of the crates above: the public ones are theirs too.
mod WithinLemmas
mod NamesLemmas
mod UnderLemmas
pub mod GrownLemmas
pub mod PushLemmas
pub mod ViewLemmas
mod LeafLemmas
mod InstanceLemmas
mod ClimbLemmas
mod TurnLemmas
mod LeaveLemmas
mod ItemLemmas
mod PartLemmas
mod ApartLemmas
mod GoesLemmas
mod RootLemmas
mod FoundLemmas
mod NamedLemmas
mod OnwardLemmas
mod ExportAllLemmas
mod CountedLemmas
