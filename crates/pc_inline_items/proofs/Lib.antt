-- What the functions of this crate rest on, and those of the crates above: the public ones are theirs too.
mod NameLemmas
pub mod ItemLemmas
pub mod TakesLemmas
pub mod MemberLemmas
pub mod FollowLemmas
mod CaptureLemmas
mod ComponentLemmas
mod OuterLemmas
mod ExportStepLemmas
mod AliasLemmas
mod HostAliasLemmas
mod IntrinsicLemmas
mod MadeLemmas
mod TakenLemmas
pub mod LocalLemmas
mod KindLemmas
mod BuiltinLemmas
mod WholeLemmas
