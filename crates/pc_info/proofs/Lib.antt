-- the trees of export items, one by one
pub mod TreeLemmas
