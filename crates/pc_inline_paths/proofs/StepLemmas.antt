-- Steps and the paths that they come to.
use Rattle.std.proofs.Common.{◌≡◌, ◌<◌, ◌+◌, ℕ, zero, suc, List, [], ◌∷◌, ◌++◌, length, Some, refl, sym, ap, ◌∙◌}
use Rattle.std.proofs.Common.{subst, arith}
use Rattle.std.specs.Prelude.{slice_get, unwrap_or}
use Rattle.std.proofs.lemmas.List.{length_push, same_from_push}
use Rattle.std.proofs.lemmas.Option.{none-some, same_Some, slice_get_within}
use Rattle.pc_entity.specs.declared.string_pool.Atom.{Atom}
use Rattle.pc_entity.specs.Lists.{AreDistinct, Kept}
use Rattle.pc_entity.proofs.Growing.{append_kept, kept_refl, kept_trans, slice_get-append_seam}
use Rattle.pc_entity.proofs.LookupLemmas.{found_at}
use Rattle.pc_types.specs.TypeTree.{Path}
use Rattle.pc_inline_paths.specs.declared.path_id.PathId.{PathId}
use Rattle.pc_inline_paths.specs.declared.step.Step.{Step}
use Rattle.pc_inline_paths.specs.declared.step.Step.TheVariants as step
use Rattle.pc_inline_paths.specs.Paths.{further}
use Rattle.pc_inline_paths.specs.Steps.{IsBefore, behind, name_at, path_at, paths_after, paths_of}
use Rattle.pc_inline_paths.proofs.ListLemmas.{not_empty}

module _ (names : List (List ℕ)) where
  -- one step more comes to one path more
  after_push : (ps : List Path) (ss : List Step) (s : Step)
      → paths_after names ps (ss ++ s ∷ []) ≡ paths_after names ps ss ++ path_at names (paths_after names ps ss) s ∷ []
  after_push ps [] s = refl
  after_push ps (r ∷ ss) s = after_push (ps ++ path_at names ps r ∷ []) ss s

  -- the same from the first step on
  pub paths_push : (ss : List Step) (s : Step)
      → paths_of names (ss ++ s ∷ []) ≡ paths_of names ss ++ path_at names (paths_of names ss) s ∷ []
  paths_push ss s = after_push [] ss s

  -- each step comes to one path
  length_after : (ps : List Path) (ss : List Step) → length (paths_after names ps ss) ≡ length ps + length ss
  length_after ps [] = omega arith
  length_after ps (s ∷ ss) =
      omega (arith, length_after (ps ++ path_at names ps s ∷ []) ss, length_push ps (path_at names ps s))

  -- there are as many paths as steps
  pub length_paths : (ss : List Step) → length (paths_of names ss) ≡ length ss
  length_paths ss = omega (arith, length_after [] ss)

  -- the paths before the steps stay where they are
  kept_after : (ps : List Path) (ss : List Step) → Kept ps (paths_after names ps ss)
  kept_after ps [] = kept_refl ps
  kept_after ps (s ∷ ss) =
      let qs = ps ++ path_at names ps s ∷ [] in
      kept_trans ps qs (paths_after names qs ss) (append_kept ps (path_at names ps s ∷ [])) (kept_after qs ss)

  -- a step comes to the same path where the paths before it stay
  pub path_kept : (ps qs : List Path) (s : Step) → Kept ps qs → IsBefore names (length ps) s
      → path_at names ps s ≡ path_at names qs s
  path_kept ps qs (step.Import i) kept before = refl
  path_kept ps qs (step.Member p n) kept before =
      let f = found_at ps p.0 before.0 in
      ap (λ o. behind o (name_at names n)) (f.1 ∙ sym (kept p.0 f.0 f.1))

  -- the path of a step stands at its place behind those before
  after_at : (ps : List Path) (ss : List Step) (k n : ℕ) (s : Step) → slice_get ss k ≡ Some s → n ≡ length ps + k
      → IsBefore names n s → slice_get (paths_after names ps ss) n ≡ Some (path_at names (paths_after names ps ss) s)
  after_at ps [] k n s at is before = absurd (none-some s at)
  after_at ps (r ∷ ss) zero n s at is before =
      let qs = ps ++ path_at names ps r ∷ [] in
      let same : r ≡ s = same_Some r s at in
      let here : n ≡ length ps = omega (arith, is) in
      let seam : slice_get qs (length ps) ≡ Some (path_at names ps r) =
      slice_get-append_seam ps (path_at names ps r) [] in
      let first : IsBefore names (length ps) r =
      subst (λ m. IsBefore names m r) here (subst (IsBefore names n) (sym same) before) in
      let path : path_at names ps r ≡ path_at names (paths_after names qs ss) r =
      path_kept ps (paths_after names qs ss) r (kept_after ps (r ∷ ss)) first in
      ap (slice_get (paths_after names qs ss)) here
      ∙ kept_after qs ss (length ps) (path_at names ps r) seam
      ∙ ap Some (path ∙ ap (path_at names (paths_after names qs ss)) same)
  after_at ps (r ∷ ss) (suc k) n s at is before =
      after_at (ps ++ path_at names ps r ∷ []) ss k n s at (omega (arith, is, length_push ps (path_at names ps r)))
      before

  -- the path of a step stands at its place
  pub path_there : (ss : List Step) (k : ℕ) (s : Step) → slice_get ss k ≡ Some s → IsBefore names k s
      → slice_get (paths_of names ss) k ≡ Some (path_at names (paths_of names ss) s)
  path_there ss k s at before = after_at [] ss k k s at (omega arith) before

  -- behind a path stands a step
  pub step_behind : (ss : List Step) (k : ℕ) (p : Path)
      → ((n : ℕ) (s : Step) → slice_get ss n ≡ Some s → IsBefore names n s) → slice_get (paths_of names ss) k ≡ Some p
      → (s : Step) × (slice_get ss k ≡ Some s) × (path_at names (paths_of names ss) s ≡ p)
  step_behind ss k p before at =
      let within : k < length ss = omega (arith, slice_get_within (paths_of names ss) k p at, length_paths ss) in
      let f = found_at ss k within in
      let there = path_there ss k f.0 f.1 (before k f.0 f.1) in
      (f.0, f.1, same_Some (path_at names (paths_of names ss) f.0) p (sym there ∙ at))

  -- a step goes further than its path by the name of its number
  pub goes_further : (ps : List Path) (p : PathId) (n : Atom) (q : Path) (name : List ℕ) → slice_get ps p.0 ≡ Some q
      → slice_get names n.0 ≡ Some name → path_at names ps (step.Member p n) ≡ further q name
  goes_further ps p n q name at named = λ i. behind (at i) (unwrap_or (named i) [])

  -- a step that is before a number is before a greater one
  pub before_more : (m n : ℕ) (s : Step) → IsBefore names m s → m < n → IsBefore names n s
  before_more m n (step.Import i) before less = tt
  before_more m n (step.Member p a) before less = (omega (arith, before.0, less), before.1)

  -- no name has two numbers: equal names have equal ones
  same_number : AreDistinct names → (a b : Atom) → a.0 < length names → b.0 < length names
      → name_at names a ≡ name_at names b → a.0 ≡ b.0
  same_number distinct a b first second same =
      let f = found_at names a.0 first in
      let g = found_at names b.0 second in
      let one : f.0 ≡ g.0 = sym (ap (λ o. unwrap_or o []) f.1) ∙ same ∙ ap (λ o. unwrap_or o []) g.1 in
      distinct a.0 b.0 g.0 (f.1 ∙ ap Some one) g.1

  -- where paths are distinct, steps further than one of them that come to one path are the same
  pub same_step : AreDistinct names → (ps : List Path) → AreDistinct ps → (r s : Step) → IsBefore names (length ps) r
      → IsBefore names (length ps) s → path_at names ps r ≡ path_at names ps s → r ≡ s
  same_step apart ps distinct (step.Import i) (step.Import j) first second same =
      ap (λ (n : ℕ). step.Import (record { 0 = n })) (ap (λ (p : Path). p.import) same)
  same_step apart ps distinct (step.Import i) (step.Member q b) first second same =
      let g = found_at ps q.0 second.0 in
      absurd (not_empty g.0.names (name_at names b)
      (ap (λ (p : Path). p.names) (same ∙ ap (λ o. behind o (name_at names b)) g.1)))
  same_step apart ps distinct (step.Member p a) (step.Import j) first second same =
      let f = found_at ps p.0 first.0 in
      absurd (not_empty f.0.names (name_at names a)
      (ap (λ (p : Path). p.names) (sym same ∙ ap (λ o. behind o (name_at names a)) f.1)))
  same_step apart ps distinct (step.Member p a) (step.Member q b) first second same =
      let f = found_at ps p.0 first.0 in
      let g = found_at ps q.0 second.0 in
      let paths : further f.0 (name_at names a) ≡ further g.0 (name_at names b) =
      sym (ap (λ o. behind o (name_at names a)) f.1) ∙ same ∙ ap (λ o. behind o (name_at names b)) g.1 in
      let imports : f.0.import ≡ g.0.import = ap (λ (p : Path). p.import) paths in
      let ends = same_from_push f.0.names g.0.names (name_at names a) (name_at names b)
      (ap (λ (p : Path). p.names) paths) in
      let one : f.0 ≡ g.0 = λ i. record { import = imports i; names = ends.0 i } in
      let places : p.0 ≡ q.0 = distinct p.0 q.0 g.0 (f.1 ∙ ap Some one) g.1 in
      let numbers : a.0 ≡ b.0 = same_number apart a b first.1 second.1 ends.1 in
      λ i. step.Member (record { 0 = places i }) (record { 0 = numbers i })
