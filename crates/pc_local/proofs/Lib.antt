-- What the functions of this crate rest on.
mod PlaceLemmas
mod CaptureLemmas
mod StandLemmas
mod PartLemmas
mod EntryLemmas
mod ReadLemmas
mod StateLemmas
mod EndLemmas
mod PassLemmas
mod NextLemmas
mod RoomLemmas
-- The layers above rest on these too.
pub mod NameLemmas
pub mod SoundLemmas
