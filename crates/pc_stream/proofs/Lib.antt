mod PieceLemmas
mod StreamLemmas
