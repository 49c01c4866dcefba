-- What the functions of this crate rest on, and those of the crates above: the public ones are theirs too.
mod CountLemmas
mod PrepareAllLemmas
mod RootLemmas
mod FreshLemmas
mod WidthLemmas
mod SkipLemmas
mod TotalLemmas
mod DriverLemmas
mod InlineLemmas
mod RootFewLemmas
mod InstantiateLemmas
mod RunLemmas
