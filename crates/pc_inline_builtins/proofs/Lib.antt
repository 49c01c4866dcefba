-- What the functions of this crate rest on.
mod RowLemmas
mod CostLemmas
mod HandleLemmas
mod ValueLemmas
mod TypeLemmas
mod TupleLemmas
mod PartLemmas
mod YieldLemmas
mod TableLemmas
mod DeclaredLemmas
mod MadeLemmas
mod ContextLemmas
