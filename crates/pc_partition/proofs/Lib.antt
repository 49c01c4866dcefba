-- What the functions of this crate rest on.
mod ClassLemmas
mod FirstLemmas
mod LawLemmas
mod LookUpLemmas
mod MeetLemmas
mod PairLemmas
