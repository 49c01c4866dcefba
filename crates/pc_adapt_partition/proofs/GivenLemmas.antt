-- What stands for imports of one adapter after the other.
use Rattle.std.proofs.Common.{Bool, ◌≡◌, ◌⊎◌, ℕ, suc, zero, ◌+◌, inl, inr, List, [], ◌∷◌, ◌++◌, length, All, refl, sym}
use Rattle.std.proofs.Common.{ap, subst, ◌∙◌, arith, length-append}
use Rattle.std.specs.Prelude.{Some, slice_get}
use Rattle.std.specs.List.{AllZip}
use Rattle.std.proofs.lemmas.List.{append_assoc, append-nil}
use Rattle.std.proofs.lemmas.List.Elements.{All-append, Contains-append_cases}
use Rattle.pc_numbers.specs.declared.module_entity.ModuleInternedTypeIndex.{ModuleInternedTypeIndex}
use Rattle.pc_dfg.specs.declared.adapter.Adapter.{Adapter}
use Rattle.pc_dfg.specs.declared.core_def.CoreDef.{CoreDef}
use Rattle.pc_dfg.specs.declared.dfg.ComponentDfg.{ComponentDfg}
use Rattle.pc_dfg.specs.Grows.{Grows}
use Rattle.pc_dfg.specs.Held.{AreHeld, IsHeld}
use Rattle.pc_dfg.specs.Names.{in_adapter, OneNames, Thing}
use Rattle.pc_dfg.proofs.AllLemmas.{all_first, all_none, all_rest}
use Rattle.pc_spec_adapt.specs.Asked.{FunctionFacts}
use Rattle.pc_adapt.specs.declared.import.Import.{Import}
use Rattle.pc_adapt_define.specs.Define.{in_import, IsDefined}
use Rattle.pc_adapt_define.proofs.ArgumentLemmas.{earlier, later}
use Rattle.pc_adapt_define.proofs.OwnLemmas.{arguments_tell, imports_held}
use Rattle.pc_adapt_partition.specs.Gathered.{AreGiven}
use Rattle.pc_adapt_partition.specs.Parts.{Part, parts_of, total_imports}

-- what is imported is held
abbrev pub HeldImports : ComponentDfg → List Import → Type 0
HeldImports g is = All (λ i. All (IsHeld g) (in_import i)) is

-- so is what is imported for adapters
abbrev pub HeldParts : ComponentDfg → List Part → Type 0
HeldParts g [] = Unit {0}
HeldParts g (p ∷ ps) = HeldImports g p.1 × HeldParts g ps

-- adapters stand in a list from this number on
abbrev pub StandFrom : ℕ → List Adapter → List Adapter → Type 0
StandFrom n all xs = (k : ℕ) (x : Adapter) → slice_get xs k ≡ Some x → slice_get all (n + k) ≡ Some x

pub stand_first : (n : ℕ) (all : List Adapter) (x : Adapter) (xs : List Adapter) → StandFrom n all (x ∷ xs)
    → slice_get all n ≡ Some x
stand_first n all x xs stand =
    let here : n ≡ n + 0 = omega arith in
    ap (slice_get all) here ∙ stand 0 x refl

pub stand_rest : (n : ℕ) (all : List Adapter) (x : Adapter) (xs : List Adapter) → StandFrom n all (x ∷ xs)
    → StandFrom (n + 1) all xs
stand_rest n all x xs stand k y at =
    let here : n + 1 + k ≡ n + suc k = omega arith in
    ap (slice_get all) here ∙ stand (suc k) y at

-- what is imported for adapters of a graph is held
pub parts_held : (g : ComponentDfg) → AreHeld g
    → (lift lower : ℕ → FunctionFacts) (clear : ℕ → Bool) (n : ℕ) (xs : List Adapter)
    → StandFrom n g.adapters xs → HeldParts g (parts_of lift lower clear n xs)
parts_held g held lift lower clear n [] stand = tt
parts_held g held lift lower clear n (x ∷ xs) stand = (
  imports_held g n x (lift n) (lower n) (clear n) held (stand_first n g.adapters x xs stand),
  parts_held g held lift lower clear (n + 1) xs (stand_rest n g.adapters x xs stand),
)

-- what stands for imports between two graphs does so from an earlier one to a later one
module _ (g m n h : ComponentDfg) (before : Grows g m) (after : Grows n h) (heldm : AreHeld m) (heldn : AreHeld n) where
  pub zip_between : (s : ModuleInternedTypeIndex) (is : List Import) (ds : List CoreDef) → HeldImports g is
      → AllZip (IsDefined m n s) is ds → AllZip (IsDefined g h s) is ds
  zip_between s [] [] held each = each
  zip_between s [] (d ∷ ds) held each = each
  zip_between s (i ∷ is) [] held each = each
  zip_between s (i ∷ is) (d ∷ ds) held each = (
    later g n h s after heldn i d
        (earlier g m n s before heldm i d (all_first (λ j. All (IsHeld g) (in_import j)) i is held) each.0),
    zip_between s is ds (all_rest (λ j. All (IsHeld g) (in_import j)) i is held) each.1,
  )

  pub given_between : (ps : List Part) (args : List CoreDef) → HeldParts g ps → AreGiven m n ps args
      → AreGiven g h ps args
  given_between [] args held given = given
  given_between (p ∷ ps) args held (own, rest, is, each, others) = (
    own,
    rest,
    is,
    zip_between p.0.lower_options.core_type p.1 own held.0 each,
    given_between ps rest held.1 others,
  )

module _ (g h : ComponentDfg) where
  -- of one adapter more
  pub given_more : (ps : List Part) (args : List CoreDef) (p : Part) (ds : List CoreDef) → AreGiven g h ps args
      → AllZip (IsDefined g h p.0.lower_options.core_type) p.1 ds → AreGiven g h (ps ++ p ∷ []) (args ++ ds)
  given_more [] args p ds none each = (ds, [], ap (λ xs. xs ++ ds) none ∙ sym (append-nil ds), each, refl)
  given_more (q ∷ qs) args p ds (own, rest, is, first, others) each = (
    own,
    rest ++ ds,
    ap (λ xs. xs ++ ds) is ∙ append_assoc own rest ds,
    first,
    given_more qs rest p ds others each,
  )

  zip_long : (s : ModuleInternedTypeIndex) (is : List Import) (ds : List CoreDef) → AllZip (IsDefined g h s) is ds
      → length ds ≡ length is
  zip_long s [] [] each = refl
  zip_long s [] (d ∷ ds) each = absurd each
  zip_long s (i ∷ is) [] each = absurd each
  zip_long s (i ∷ is) (d ∷ ds) each = ap suc (zip_long s is ds each.1)

  -- there is one for each import
  pub given_long : (ps : List Part) (args : List CoreDef) → AreGiven g h ps args → length args ≡ total_imports ps
  given_long [] args none = ap length none
  given_long (p ∷ ps) args (own, rest, is, first, others) =
      omega (
        arith,
        ap length is,
        length-append own rest,
        zip_long p.0.lower_options.core_type p.1 own first,
        given_long ps rest others,
      )

  zip_held : (s : ModuleInternedTypeIndex) (is : List Import) (ds : List CoreDef) → AllZip (IsDefined g h s) is ds
      → All (IsHeld h) ds
  zip_held s [] [] each = all_none (IsHeld h)
  zip_held s [] (d ∷ ds) each = absurd each
  zip_held s (i ∷ is) [] each = absurd each
  zip_held s (i ∷ is) (d ∷ ds) each =
      All-append (IsHeld h) (d ∷ []) ds (one d each.0.held) (zip_held s is ds each.1)
    where
      one : (e : CoreDef) → IsHeld h e → All (IsHeld h) (e ∷ [])
      one e here zero d below = here
      one e here (suc k) d below = absurd (omega (arith, below))

  -- it is held
  pub given_held : (ps : List Part) (args : List CoreDef) → AreGiven g h ps args → All (IsHeld h) args
  given_held [] args none = subst (All (IsHeld h)) (sym none) (all_none (IsHeld h))
  given_held (p ∷ ps) args (own, rest, is, first, others) =
      subst (All (IsHeld h)) (sym is)
      (All-append (IsHeld h) own rest (zip_held p.0.lower_options.core_type p.1 own first)
      (given_held ps rest others))

  one_of : (own rest : List CoreDef) (y : Thing) → OneNames h (own ++ rest) y
      → OneNames h own y ⊎ OneNames h rest y
  unfolding OneNames
  one_of own rest y (d, inside, names) = elim (Contains-append_cases own rest d inside) as (λ _. OneNames h own y ⊎ OneNames h rest y) [
    | inl front ↦ inl (d, front, names)
    | inr behind ↦ inr (d, behind, names)
  ]

  no_name : (y : Thing) → OneNames h [] y → ⊥
  unfolding OneNames
  no_name y (d, (k, below, is), names) = omega (arith, below)

  -- and names nothing that no adapter names
  pub given_names : AreHeld g
      → (lift lower : ℕ → FunctionFacts) (clear : ℕ → Bool) (n : ℕ) (xs : List Adapter) (args : List CoreDef)
      (y : Thing) → AreGiven g h (parts_of lift lower clear n xs) args → OneNames h args y
      → (k : ℕ) × (x : Adapter) × (slice_get xs k ≡ Some x) × OneNames g (in_adapter x) y
  given_names held lift lower clear n [] args y none names =
      absurd (no_name y (subst (λ ds. OneNames h ds y) none names))
  given_names held lift lower clear n (x ∷ xs) args y (own, rest, is, first, others) names =
      elim (one_of own rest y (subst (λ ds. OneNames h ds y) is names))
      as (λ _. (k : ℕ) × (z : Adapter) × (slice_get (x ∷ xs) k ≡ Some z) × OneNames g (in_adapter z) y) [
        | inl front ↦ (
          0,
          x,
          refl,
          arguments_tell g x y h x.lower_options.core_type held (lift n) (lower n)
              (clear n) own first front,
        )
        | inr behind ↦
            let found = given_names held lift lower clear (n + 1) xs rest y others behind in
            (suc found.0, found.1, found.2, found.3)
      ]
