-- Names of a path that are written out from its end.
use Rattle.std.proofs.Common.{◌≡◌, ◌<◌, ℕ, List, [], ◌∷◌, ◌++◌, length, reverse, Some, sym, ap, ◌∙◌}
use Rattle.std.specs.Prelude.{slice_get}
use Rattle.std.proofs.lemmas.List.{append-nil, append_assoc, reverse-append}
use Rattle.std.proofs.lemmas.Option.{same_Some, slice_get_within}
use Rattle.pc_entity.proofs.LookupLemmas.{found_at}
use Rattle.pc_entity.specs.declared.string_pool.Atom.{Atom}
use Rattle.pc_types.specs.TypeTree.{Path}
use Rattle.pc_inline_paths.specs.declared.path_id.PathId.{PathId}
use Rattle.pc_inline_paths.specs.declared.step.Step.TheVariants as step
use Rattle.pc_inline_paths.specs.Paths.{further}
use Rattle.pc_inline_paths.specs.Steps.{behind, name_at, path_at}

-- a path is one that is held, and behind it these names, the last one first
pub record IsWritten (ps : List Path) (id at : PathId) (names : List (List ℕ)) : Type 0 where
  pub front : Path
  pub held : slice_get ps at.0 ≡ Some front
  pub whole : slice_get ps id.0 ≡ Some (record { import = front.import; names = front.names ++ reverse names })

module _ (texts : List (List ℕ)) (ps : List Path) (id : PathId) where
  -- no name is written yet
  pub none_written : id.0 < length ps → IsWritten ps id id []
  none_written within =
      let f = found_at ps id.0 within in
      record {
        front = f.0;
        held = f.1;
        whole = f.1 ∙ ap (λ ns. Some (record { import = f.0.import; names = ns })) (sym (append-nil f.0.names));
      }

  module _ (at : PathId) (names : List (List ℕ)) (so_far : IsWritten ps id at names) where
    -- what is left is held
    pub written_within : at.0 < length ps
    written_within = slice_get_within ps at.0 so_far.front so_far.held

    -- one name more is written
    pub name_written : (p : PathId) (n : Atom) → p.0 < length ps
        → slice_get ps at.0 ≡ Some (path_at texts ps (step.Member p n))
        → IsWritten ps id p (names ++ name_at texts n ∷ [])
    name_written p n within there =
        let name = name_at texts n in
        let f = found_at ps p.0 within in
        let front : so_far.front ≡ further f.0 name =
        same_Some so_far.front (further f.0 name)
        (sym so_far.held ∙ there ∙ ap (λ o. Some (behind o name)) f.1) in
        let backwards : name ∷ reverse names ≡ reverse (names ++ name ∷ []) =
        sym (reverse-append names (name ∷ [])) in
        record {
          front = f.0;
          held = f.1;
          whole = so_far.whole
              ∙ ap (λ (q : Path). Some (record { import = q.import; names = q.names ++ reverse names })) front
              ∙ ap (λ ns. Some (record { import = f.0.import; names = ns }))
              (append_assoc f.0.names (name ∷ []) (reverse names) ∙ ap (λ ns. f.0.names ++ ns) backwards);
        }
