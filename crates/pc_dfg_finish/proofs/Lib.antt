mod ArgumentLemmas
mod NamedLemmas
mod RefusedLemmas
-- the order: what an id leads to is lower, and is ready where it is named
mod ReadyLemmas
-- the exports
mod NamingLemmas
mod FurtherLemmas
mod HereLemmas
mod PushedLemmas
mod InstanceLemmas
mod NextLemmas
mod ResolveLemmas
mod ResourceLemmas
mod EffectLemmas
mod ItemLemmas
mod NodeLemmas
mod TakenLemmas
-- numbers are given once
mod OutgrownLemmas
mod CopyLemmas
mod SharedLemmas
mod TwiceLemmas
mod UsedLemmas
mod SlotUseLemmas
mod HeadedLemmas
mod LoweringUseLemmas
mod RangeLemmas
mod LiftedLemmas
mod DefinitionUseLemmas
-- the steps are those of the graph
mod StageLemmas
mod InstantiatedLemmas
mod DoneLemmas
mod StartLemmas
mod OwnedLemmas
mod ApartLemmas
-- where the steps stand
mod PieceLemmas
pub mod SealedLemmas
mod RiseLemmas
mod StandingLemmas
mod ExportPieceLemmas
mod AdapterOnceLemmas
mod DistinctLemmas
mod SlotApartLemmas
mod WholeLemmas
mod OnlyLemmas
