-- What the tests rest on.
mod NumberLemmas
