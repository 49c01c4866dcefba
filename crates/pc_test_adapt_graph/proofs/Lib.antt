-- what the graphs of the tests hold, and that their adapters have plans
mod HeldLemmas
