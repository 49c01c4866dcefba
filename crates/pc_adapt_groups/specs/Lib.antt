-- What the public contract rests on, beside the splits of `pc_spec_adapt`.
pub mod Needs
pub mod Lengths
-- What the functions inside promise each other.
pub mod Reaches
pub mod Needed
