-- What the functions of this crate rest on, and those of the crates above: the public ones are theirs too.
pub mod KnownLemmas
pub mod PlaceLemmas
mod RegisterLemmas
mod DeclareLemmas
mod DestructorLemmas
mod IdentityLemmas
mod ValueLemmas
mod AlongLemmas
mod WalkedLemmas
mod StepLemmas
mod LearnsLemmas
mod EachLemmas
mod LoopLemmas
mod TakenLemmas
