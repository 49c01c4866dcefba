-- Laws of the words of `specs/`, for the layers above too.
pub use Rattle.pc_types_lists.proofs.Growth
pub use Rattle.pc_types_lists.proofs.KeptTypes
pub use Rattle.pc_types_convert.proofs.OneNumber
pub use Rattle.pc_types_convert.proofs.OneTree
pub use Rattle.pc_types_lists.proofs.FewLemmas
pub mod TreeLemmas
pub mod SameTrees
pub mod KnownLemmas
-- What the functions of this crate rest on.
mod AskedLemmas
mod ConvertedLemmas
mod CountLemmas
mod EntryInversion
mod KindLemmas
mod PartInversion
mod PlainLemmas
mod ReadyLemmas
mod RefusalLemmas
mod Simulation
mod StepLemmas
mod TreeInversion
