-- What the functions of this crate rest on.
mod Lists
mod PlacesLemmas
