-- What the functions of this crate rest on.
mod NameLemmas
mod StructureLemmas
mod StandLemmas
mod PassLemmas
mod IntrinsicLemmas
pub mod KindLemmas
