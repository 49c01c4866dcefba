-- What stays as a path is taken in.
use Rattle.std.proofs.Common.{List, [], ◌∷◌, sym, subst, inl, inr}
use Rattle.pc_entity.specs.Lists.{Kept}
use Rattle.pc_entity.proofs.Growing.{append_kept, kept_refl}
use Rattle.pc_types.specs.TypeTree.{Path}
use Rattle.pc_inline_paths.specs.declared.path_id.PathId.{PathId}
use Rattle.pc_inline_paths.specs.Paths.{TakesIn}

module _ (path : Path) (old new : List Path) (id : PathId) (taken : TakesIn path old new id) where
  -- each id keeps its path
  pub taken_kept : Kept old new
  taken_kept = elim taken.grows as (λ _. Kept old new) [
    | inl there ↦ subst (Kept old) (sym there.1) (kept_refl old)
    | inr added ↦ subst (Kept old) (sym added.1) (append_kept old (path ∷ []))
  ]
