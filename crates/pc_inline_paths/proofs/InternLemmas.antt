-- What becomes of the paths as a step is interned.
use Rattle.std.proofs.Common.{◌≡◌, ◌⊎◌, ◌<◌, ℕ, List, [], ◌∷◌, ◌++◌, length, Some, Contains, refl, sym, ap, ◌∙◌}
use Rattle.std.proofs.Common.{subst, arith, inl, inr, get_or, Result, Ok, Err}
use Rattle.std.specs.Prelude.{slice_get}
use Rattle.std.proofs.lemmas.List.{length_push}
use Rattle.std.proofs.lemmas.Option.{slice_get-get_or, slice_get_within}
use Rattle.pc_entity.specs.Lists.{AreDistinct}
use Rattle.pc_entity.proofs.Growing.{slice_get-append_seam}
use Rattle.pc_types.specs.TypeTree.{Path}
use Rattle.pc_inline_paths.specs.declared.path_id.PathId.{PathId}
use Rattle.pc_inline_paths.specs.declared.step.Step.{Step}
use Rattle.pc_inline_paths.specs.declared.path_error.PathError.{PathError}
use Rattle.pc_inline_paths.specs.declared.path_error.PathError.TheVariants as refusal
use Rattle.pc_inline_paths.specs.Paths.{TakesIn}
use Rattle.pc_inline_paths.specs.Steps.{AreSteps, IsBefore, path_at, paths_of}
use Rattle.pc_inline_paths.proofs.ListLemmas.{contains_at, distinct_push, place, push_place}
use Rattle.pc_inline_paths.proofs.StepLemmas.{before_more, length_paths, path_there, paths_push, same_step}
use Rattle.pc_inline_paths.proofs.StepLemmas.{step_behind}

-- facts that never hold come to the same
pub never : {P Q : Type 0} → (P → ⊥) → (Q → ⊥) → (P → Q) × (Q → P)
never not_first not_second = (λ p. absurd (not_first p), λ q. absurd (not_second q))

-- an answer is no error
pub no_error : {T E : Type 0} (x : T) (e : E) → ◌≡◌ {A = Result T E} (Ok x) (Err e) → ⊥
no_error x e same = cc

-- want of memory isn't a full list
not_full : ◌≡◌ {A = PathError} refusal.NoMemory refusal.TooMany → ⊥
not_full same = cc

-- an error that is want of memory isn't that of a full list
pub no_memory_only : {T : Type 0} (r : Result T PathError) (e : PathError) → r ≡ Err e → e ≡ refusal.NoMemory
    → r ≡ Err refusal.TooMany → ⊥
no_memory_only r e is memory full = not_full (cc)

module _ (names : List (List ℕ)) (ss : List Step) (ps : List Path) (is : paths_of names ss ≡ ps)
    (are : AreSteps names ss) where
  -- there are as many paths as steps
  pub as_many : length ps ≡ length ss
  as_many = ap length (sym is) ∙ length_paths names ss

  -- the path of a step that is held stands at its place
  pub held_there : (k : ℕ) (s : Step) → slice_get ss k ≡ Some s → slice_get ps k ≡ Some (path_at names ps s)
  held_there k s at =
      subst (λ qs. slice_get qs k ≡ Some (path_at names qs s)) is (path_there names ss k s at (are.before k s at))

  -- what was read from the steps at the place of a path stands there
  pub read_step : (read : List Step) (k : ℕ) (d : Step) → read ≡ ss → k < length ps
      → slice_get ss k ≡ Some (get_or read k d)
  read_step read k d same is_held =
      ap (λ zs. slice_get zs k) (sym same)
      ∙ slice_get-get_or read k d (omega (arith, is_held, ap length same, as_many))

  -- a step that is held comes to a path that is
  pub held_taken : (id : PathId) (s : Step) → slice_get ss id.0 ≡ Some s → TakesIn (path_at names ps s) ps ps id
  held_taken id s at =
      let there = held_there id.0 s at in
      record { held = there; grows = inl (contains_at ps id.0 (path_at names ps s) there, refl) }

  module _ (s : Step) (before : IsBefore names (length ps) s) (absent : Contains ss s → ⊥) where
    -- a step that isn't held comes to a path that isn't
    pub absent_path : Contains ps (path_at names ps s) → ⊥
    absent_path held =
        let there = place ps (path_at names ps s) held in
        let b = step_behind names ss there.0 (path_at names ps s) are.before
        (subst (λ qs. slice_get qs there.0 ≡ Some (path_at names ps s)) (sym is) there.1) in
        let within : there.0 < length ps = slice_get_within ps there.0 (path_at names ps s) there.1 in
        let earlier : IsBefore names (length ps) b.0 =
        before_more names there.0 (length ps) b.0 (are.before there.0 b.0 b.1) within in
        let path : path_at names ps b.0 ≡ path_at names ps s =
        subst (λ qs. path_at names qs b.0 ≡ path_at names ps s) is b.2 in
        let same : b.0 ≡ s =
        same_step names are.apart ps (subst AreDistinct is are.distinct) b.0 s earlier before path in
        absent (contains_at ss there.0 s (b.1 ∙ ap Some same))

    -- it comes to a path at the end
    pub pushed_paths : paths_of names (ss ++ s ∷ []) ≡ ps ++ path_at names ps s ∷ []
    pushed_paths =
        subst (λ qs. paths_of names (ss ++ s ∷ []) ≡ qs ++ path_at names qs s ∷ []) is (paths_push names ss s)

    -- the steps are still those of distinct paths
    pub pushed_steps : length ss < 4294967295 → AreSteps names (ss ++ s ∷ [])
    pushed_steps room = record {
      apart = are.apart;
      before = λ k r at. elim (push_place ss s k r at) as (λ _. IsBefore names k r) [
        | inl there ↦ are.before k r there
        | inr last ↦ subst (IsBefore names k) last.1 (subst (λ n. IsBefore names n s) (as_many ∙ sym last.0) before)
      ];
      distinct = subst AreDistinct (sym pushed_paths)
          (distinct_push ps (path_at names ps s) (subst AreDistinct is are.distinct) absent_path);
      few = omega (arith, room, length_push ss s);
    }

    -- its path is taken in
    pub pushed_taken : (id : PathId) → slice_get (ss ++ s ∷ []) id.0 ≡ Some s
        → TakesIn (path_at names ps s) ps (ps ++ path_at names ps s ∷ []) id
    pushed_taken id at = record {
      held = elim (push_place ss s id.0 s at)
          as (λ _. slice_get (ps ++ path_at names ps s ∷ []) id.0 ≡ Some (path_at names ps s)) [
            | inl there ↦ absurd (absent (contains_at ss id.0 s there))
            | inr last ↦ ap (slice_get (ps ++ path_at names ps s ∷ [])) (last.0 ∙ sym as_many)
                ∙ slice_get-append_seam ps (path_at names ps s) []
          ];
      grows = inr (absent_path, refl);
    }

    -- an interner that holds it now has it at the end
    pub pushed : (new : List Step) (k : ℕ) → slice_get new k ≡ Some s → (new ≡ ss) ⊎ (new ≡ ss ++ s ∷ [])
        → new ≡ ss ++ s ∷ []
    pushed new k at grows = elim grows as (λ _. new ≡ ss ++ s ∷ []) [
      | inl same ↦ absurd (absent (contains_at ss k s (subst (λ xs. slice_get xs k ≡ Some s) same at)))
      | inr more ↦ more
    ]
