-- No two links of a chain make the same adapter: each lowers in a component instance of its own.
use Rattle.std.proofs.Common.{◌≡◌, ◌≤◌, ◌<◌, ◌+◌, ℕ, Bool, true, false, List, [], ◌∷◌, ◌++◌, Option, Some, None, refl}
use Rattle.std.proofs.Common.{ap, ◌∙◌, arith, length, length-append}
use Rattle.std.proofs.lemmas.List.Elements.{All-append, All-nil, All-push, All-same}
use Rattle.std.proofs.lemmas.List.Elements.{filter_map-append}
use Rattle.std.proofs.lemmas.Bool.{ne_eqb}
use Rattle.std.specs.Prelude.{⊤, All, ◌&&◌, ◌||◌, ◌==◌}
use Rattle.std.specs.List.{cons_option, filter_map, list_any}
use Rattle.pc_types.specs.declared.encoding.StringEncoding.{StringEncoding}
use Rattle.pc_types.specs.TypeTree.{TypeTree}
use Rattle.pc_spec_plan.specs.CoreValue.{CoreValue, Options, adapter, builtin, exported, flags, helper, intrinsic}
use Rattle.pc_spec_plan.specs.CoreValue.{DataModel, MaybeValue, lowered, options}
use Rattle.pc_spec_plan.specs.Log.{Entry, declared, declared_resource, instantiated, made, needed}
use Rattle.pc_parsed.specs.Mark.{Mark, of_type}
use Rattle.pc_spec_reading.specs.Options.{the_options}
use Rattle.pc_spec_reading.specs.SameValues.{makes, same_mark, same_options, same_value, was_made}
use Rattle.pc_spec_reading.specs.Scope.{Scope}
use Rattle.pc_generate.specs.Table.{signature}

-- an adapter that an entry makes lowers in a component instance below this one
abbrev pub IsBelow : ℕ → Entry Mark → Type 0
IsBelow b (made (adapter t o u (options c e is_async s callback post model) v)) = c < b
IsBelow b (made v) = ⊥
IsBelow b e = ⊤

-- so do all adapters that a log makes
abbrev pub AllBelow : ℕ → List (Entry Mark) → Type 0
AllBelow b [] = ⊤
AllBelow b (e ∷ es) = IsBelow b e × AllBelow b es

-- one entry more
pub below_more : (b : ℕ) (log : List (Entry Mark)) (e : Entry Mark) → AllBelow b log → IsBelow b e
    → AllBelow b (log ++ e ∷ [])
below_more b [] e all is = (is, tt)
below_more b (x ∷ xs) e all is = (all.0, below_more b xs e all.1 is)

-- the same of an entry, and of a log, where more have begun
entry_later : (b d : ℕ) (e : Entry Mark) → b ≤ d → IsBelow b e → IsBelow d e
entry_later b d (made (adapter t o u (options c e is_async s callback post model) v)) more is = omega (arith, more, is)
entry_later b d (made (exported n i)) more is = absurd is
entry_later b d (made (lowered p t o)) more is = absurd is
entry_later b d (made (builtin k c ps)) more is = absurd is
entry_later b d (made (intrinsic n)) more is = absurd is
entry_later b d (made (flags c)) more is = absurd is
entry_later b d (made (helper k ps)) more is = absurd is
entry_later b d (instantiated i c) more is = tt
entry_later b d (declared_resource r x c) more is = tt
entry_later b d (declared v) more is = tt
entry_later b d (needed p) more is = tt

pub below_later : (b d : ℕ) (log : List (Entry Mark)) → b ≤ d → AllBelow b log → AllBelow d log
below_later b d [] more all = tt
below_later b d (x ∷ xs) more all = (entry_later b d x more all.0, below_later b d xs more all.1)

-- a test that fails among five
fails : (m o u r v : Bool) → r ≡ false → (m && o && u && r && v) ≡ false
fails false o u r v is = refl
fails true false u r v is = refl
fails true true false r v is = refl
fails true true true r v is = ap (λ b. b && v) is

-- a link's adapter is none of those that stand below it
module _ (ty : TypeTree) (o : Options Mark) (tree : TypeTree) (scope : Scope) (v : CoreValue Mark) where
  abbrev link_adapter : CoreValue Mark
  link_adapter = adapter (of_type ty) o (of_type tree) (the_options scope signature []) v

  other_options : (c : ℕ) (e : StringEncoding) (is_async : Bool) (s : Mark) (callback post : MaybeValue Mark)
      (model : DataModel Mark) → c < scope.component_instance
      → same_options (the_options scope signature []) (options c e is_async s callback post model) ≡ false
  unfolding same_options the_options
  other_options c e is_async s callback post model is =
      let other : (scope.component_instance == c) ≡ false =
      ne_eqb scope.component_instance c (λ same. absurd (let none : ⊥ = omega (arith, same, is) in none)) in
      rw other refl

  other_made : (e : Entry Mark) → IsBelow scope.component_instance e → makes link_adapter e ≡ false
  unfolding same_value
  other_made (made (adapter t p u (options c e is_async s callback post model) w)) is =
      fails (same_mark (of_type ty) t) (same_options o p) (same_mark (of_type tree) u)
      (same_options (the_options scope signature []) (options c e is_async s callback post model)) (same_value v w)
      (other_options c e is_async s callback post model is)
  other_made (made (exported n i)) is = absurd is
  other_made (made (lowered p t q)) is = absurd is
  other_made (made (builtin k c ps)) is = absurd is
  other_made (made (intrinsic n)) is = absurd is
  other_made (made (flags c)) is = absurd is
  other_made (made (helper k ps)) is = absurd is
  other_made (instantiated i c) is = refl
  other_made (declared_resource r x c) is = refl
  other_made (declared w) is = refl
  other_made (needed p) is = refl

  pub not_made : (log : List (Entry Mark)) → AllBelow scope.component_instance log → was_made link_adapter log ≡ false
  unfolding was_made
  not_made [] all = refl
  not_made (e ∷ es) all =
      ap (λ b. b || list_any (makes link_adapter) es) (other_made e all.0) ∙ not_made es all.1

-- what is found in a list gains what is found in one item more
pub found_more : {A B : Type 0} (h : A → Option B) (xs : List A) (x : A) (y : B) → h x ≡ Some y
    → length (filter_map h (xs ++ x ∷ [])) ≡ length (filter_map h xs) + 1
found_more h xs x y is =
    ap length (filter_map-append h xs (x ∷ [])) ∙ length-append (filter_map h xs) (filter_map h (x ∷ []))
    ∙ ap (λ o. length (filter_map h xs) + length (cons_option o [])) is

-- or nothing
pub found_same : {A B : Type 0} (h : A → Option B) (xs : List A) (x : A) → h x ≡ None
    → length (filter_map h (xs ++ x ∷ [])) ≡ length (filter_map h xs)
found_same h xs x is =
    ap length (filter_map-append h xs (x ∷ [])) ∙ length-append (filter_map h xs) (filter_map h (x ∷ []))
    ∙ ap (λ o. length (filter_map h xs) + length (cons_option o [])) is ∙ omega arith

-- what holds of all that is found holds with one found item more
pub found_all_more : {A B : Type 0} (P : B → Type 0) (h : A → Option B) (xs : List A) (x : A) (y : B) → h x ≡ Some y
    → All P (filter_map h xs) → P y → All P (filter_map h (xs ++ x ∷ []))
found_all_more P h xs x y is all one =
    All-same P (filter_map h (xs ++ x ∷ [])) (filter_map h xs ++ y ∷ [])
    (filter_map-append h xs (x ∷ []) ∙ ap (λ o. filter_map h xs ++ cons_option o []) is)
    (All-push P (filter_map h xs) y all one)

-- or with an item of which nothing is found
pub found_all_same : {A B : Type 0} (P : B → Type 0) (h : A → Option B) (xs : List A) (x : A) → h x ≡ None
    → All P (filter_map h xs) → All P (filter_map h (xs ++ x ∷ []))
found_all_same P h xs x is all =
    All-same P (filter_map h (xs ++ x ∷ [])) (filter_map h xs ++ [])
    (filter_map-append h xs (x ∷ []) ∙ ap (λ o. filter_map h xs ++ cons_option o []) is)
    (All-append P (filter_map h xs) [] all (All-nil P))
