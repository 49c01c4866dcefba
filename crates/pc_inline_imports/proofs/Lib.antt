-- What the functions of this crate rest on.
mod FewLemmas
mod EntityLemmas
mod LearnLemmas
mod BringLemmas
mod GiveLemmas
mod ApartLemmas
mod ImportedLemmas
mod MomentLemmas
mod TrimLemmas
