-- Lists whose items stand so, place by place: lemmas of the crate below, which the crates above find here.
pub use Rattle.pc_inline_names.proofs.ZipLemmas.{both_missing, both_more, both_there, zip_at, zip_length, zip_more}
pub use Rattle.pc_inline_names.proofs.ZipLemmas.{zip_push}
