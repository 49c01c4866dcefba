-- What the laws rest on, beside the words of `pc_spec_wiring`.
pub mod Renumbered
