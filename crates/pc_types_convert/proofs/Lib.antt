-- Laws of the words of `specs/`, for the layer above too.
pub mod AddsLemmas
pub mod AmongLemmas
pub mod LikeLemmas
pub mod OneNumber
pub mod OneTree
pub mod PartLemmas
pub mod SoundLemmas
-- What the functions of this crate rest on.
mod ForgetLemmas
mod FuncLemmas
mod HeldLemmas
mod KindAdds
mod LayerLemmas
mod NeededLemmas
mod NotedLemmas
mod TabulatedLemmas
mod ThereLemmas
