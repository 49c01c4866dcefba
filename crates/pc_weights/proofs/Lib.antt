-- What the functions of this crate rest on.
mod CappedLemmas
mod CountedLemmas
mod GreatestLemmas
mod NamesLemmas
mod SumLemmas
mod WeightLemmas
