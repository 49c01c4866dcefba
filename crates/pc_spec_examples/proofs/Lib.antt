-- What the answers unfold.
pub mod OnLiterals
