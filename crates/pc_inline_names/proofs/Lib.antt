-- What the functions of this crate rest on, and those of the crates above: the public ones are theirs too.
pub mod ZipLemmas
pub mod NumberedLemmas
mod LookupLemmas
mod ListLemmas
mod AddedLemmas
mod PlaceLemmas
mod TableLemmas
