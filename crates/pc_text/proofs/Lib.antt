-- What the functions of this crate rest on.
mod AdapterLemmas
mod Appending
mod ByNumber
mod Counts
mod Entries
mod ExportLemmas
mod Modules
mod Sorting
mod TrampolineLemmas
