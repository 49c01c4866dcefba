-- What the functions of this crate rest on.
mod ErasureLemmas
mod ListLemmas
-- a graph and its plan do what the reading says
mod MarkLemmas
mod RunLemmas
mod WiredLemmas
-- what a plan has beside its steps
mod AskedLemmas
mod DeclaredLemmas
mod HeldLemmas
mod HeldModuleLemmas
mod ToldLemmas
-- the modules of its adapters
mod GroupLemmas
mod WidthLemmas
mod MemberLemmas
mod FewestLemmas
mod AdaptedLemmas
-- what the run of the plan gives stays within component instances
mod HandedInLemmas
mod OwnModuleLemmas
mod SaidLemmas
mod ConfinedLemmas
-- nothing is seen of what is recorded of modules
mod ViewLemmas
-- what is recorded of them is what the plan gives
mod DefinedLemmas
mod NumberedLemmas
mod FollowedLemmas
mod ExportedItemLemmas
mod ExportsSameLemmas
mod FactsLemmas
-- so it is the translation of the payloads
mod TranslatesLemmas
-- what an answer says where the types builder is not asked for
pub mod SomeTypesLemmas
-- the types of handed-in modules
mod ModuleTypeLemmas
mod ModuleTreeLemmas
mod AddsModulesLemmas
mod FewPlacesLemmas
-- the adapters of a graph, and those of the reading
mod PartitionLemmas
mod LackingLemmas
-- a graph that knows which of its adapters are transparent
mod TransparentFieldLemmas
mod TransparentLemmas
mod MarkedLemmas
-- a graph with too many entries
mod CrowdedLemmas
-- a body has a plan, or a cause for want of one
mod PassingLemmas
mod PlanningLemmas
-- why payloads are refused
mod AnswerLemmas
mod CauseLemmas
