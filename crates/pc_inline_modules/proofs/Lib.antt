-- What the functions of this crate rest on, and those of the crates above: the public ones are theirs too.
pub mod BagLemmas
pub mod WholeLemmas
mod GroupLemmas
mod ModuleTreeLemmas
mod CoreExportsLemmas
mod ExportedLemmas
mod CoreAliasLemmas
mod ModuleLemmas
mod SourceLemmas
mod AddedInstanceLemmas
mod InstantiationLemmas
mod ModuleArgumentsLemmas
mod HostArgumentsLemmas
mod HostInstanceLemmas
