use Rattle.std.proofs.Common.{rules}
use Rattle.pc_entity.specs.HashedText.{text_hash}
use Rattle.pc_entity.proofs.hashed_text.hash_of.Goals as goal

-- src/hashed_text.rt
pub returns : goal.returns
unfolding text_hash
returns c = Prim.search (rules)
