-- that a run over streams that never fail has no fault
pub mod SureLemmas
