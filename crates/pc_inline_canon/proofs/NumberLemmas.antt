-- One number stands for one type, and one type for one number, where resources that came with imports have paths of
-- their own: so with values.
use Rattle.std.proofs.Common.{◌≡◌, ◌+◌, ℕ, zero, suc, List, [], ◌∷◌, length, Option, None, Some, refl, sym, ap, subst}
use Rattle.std.proofs.Common.{◌∙◌, arith}
use Rattle.std.specs.List.{AllZip}
use Rattle.std.specs.Prelude.{slice_get}
use Rattle.std.proofs.lemmas.Option.{none-some, same_Some}
use Rattle.pc_entity.specs.Lists.{AreDistinct}
use Rattle.pc_numbers.specs.declared.module_entity.ModuleInternedTypeIndex.{ModuleInternedTypeIndex}
use Rattle.pc_numbers.specs.declared.runtime.ResourceIndex.{ResourceIndex}
use Rattle.pc_numbers.specs.declared.runtime.RuntimeImportIndex.{RuntimeImportIndex}
use Rattle.pc_types.specs.declared.types.TypeKind.TheVariants as kind
use Rattle.pc_types.specs.TypeTree.{Identity, Path, declared, imported}
use Rattle.pc_types_lists.specs.Trees.{HasTree}
use Rattle.pc_types_lists.specs.Types.{IsBuilder, Types}
use Rattle.pc_types_builder.specs.Trees.{AreOneToOne}
use Rattle.pc_trampoline.specs.declared.part.Mark.{Mark}
use Rattle.pc_trampoline.specs.declared.part.Mark.TheVariants as mark
use Rattle.pc_parsed.specs.Mark as reading
use Rattle.pc_spec_plan.specs.CoreValue.{CoreValue, map_value}
use Rattle.pc_dfg.specs.declared.core_def.CoreDef.{CoreDef}
use Rattle.pc_dfg.specs.declared.dfg.ComponentDfg.{ComponentDfg}
use Rattle.pc_dfg.specs.Means.{HasPath, Means}
use Rattle.pc_dfg.proofs.UniqueLemmas.{means_unique}
use Rattle.pc_inline_state.specs.Fits.{Fits}
use Rattle.pc_inline_state.specs.Holds.{Holds, Numbered, ReadsAs, number_of, whole_of}
use Rattle.pc_inline_state.specs.Stands.{CoreStands}
use Rattle.pc_inline_state.proofs.HoldsLemmas.{reads_fit, some_reading}
use Rattle.pc_inline_canon.proofs.SameMarkLemmas.{value_same}

-- a place behind a list
behind : {A : Type 0} (xs : List A) (n : ℕ) → slice_get xs n ≡ None → (k : ℕ) × (n ≡ length xs + k)
behind [] n none = (n, omega arith)
behind (x ∷ xs) zero none = absurd (none-some x (sym none))
behind (x ∷ xs) (suc n) none =
    let rest = behind xs n none in
    let more = rest.1 in
    (rest.0, omega (arith, more))

-- resource numbers are told apart where the paths are
module _ (paths : List Path) (apart : AreDistinct paths) (who : ResourceIndex → Identity) (reads : ReadsAs paths who)
  where
    -- a number is that of a path, or of a resource that was declared
    at_path : (r : ResourceIndex) (p : Path) → slice_get paths r.0 ≡ Some p → who r ≡ imported p
    at_path r p at = reads.given r.0 p at

    own : (r : ResourceIndex) (k : ℕ) → r.0 ≡ length paths + k → who r ≡ declared k
    own r k is = ap (λ n. who (record { 0 = n })) is ∙ reads.own k

    pub reads_apart : (r s : ResourceIndex) → who r ≡ who s → r ≡ s
    reads_apart r s one = by (slice_get paths r.0) (slice_get paths s.0) refl refl
      where
        by : (p q : Option Path) → slice_get paths r.0 ≡ p → slice_get paths s.0 ≡ q → r ≡ s
        by (Some p) (Some q) at_r at_s =
            let both : imported p ≡ imported q = sym (at_path r p at_r) ∙ one ∙ at_path s q at_s in
            let same : p ≡ q = cc in
            let place : r.0 ≡ s.0 = apart r.0 s.0 q (at_r ∙ ap Some same) at_s in
            ap (λ n. record { 0 = n }) place
        by (Some p) None at_r at_s =
            let k = behind paths s.0 at_s in
            let both : imported p ≡ declared k.0 = sym (at_path r p at_r) ∙ one ∙ own s k.0 k.1 in
            absurd (let no : ⊥ = cc in no)
        by None (Some q) at_r at_s =
            let k = behind paths r.0 at_r in
            let both : declared k.0 ≡ imported q = sym (own r k.0 k.1) ∙ one ∙ at_path s q at_s in
            absurd (let no : ⊥ = cc in no)
        by None None at_r at_s =
            let j = behind paths r.0 at_r in
            let k = behind paths s.0 at_s in
            let both : declared j.0 ≡ declared k.0 = sym (own r j.0 j.1) ∙ one ∙ own s k.0 k.1 in
            let same : j.0 ≡ k.0 = cc in
            let place : r.0 ≡ s.0 = j.1 ∙ ap (λ n. length paths + n) same ∙ sym k.1 in
            ap (λ n. record { 0 = n }) place

-- what a builder says of itself: no type stands twice in it, and one tree has one number
pub record TellsApart (types : Types) : Type 0 where
  pub builder : IsBuilder types
  pub trees : (who : ResourceIndex → Identity) → ((r s : ResourceIndex) → who r ≡ who s → r ≡ s)
      → AreOneToOne types who

module _ (types : Types) (builder : IsBuilder types) (reads : (ResourceIndex → Identity) → Type 0)
    (who : ResourceIndex → Identity) (read : reads who) (one : AreOneToOne types who) where
  -- what is held under one number is one
  one_whole : (a : Mark) (s : reading.Mark) (b : Mark) (t : reading.Mark) → Holds types reads a s
      → Holds types reads b t → a ≡ b → s ≡ t
  unfolding Holds
  one_whole (mark.Type_ d) (reading.of_type s) (mark.Type_ e) (reading.of_type t) h k is =
      let same : d ≡ e = cc in
      ap reading.of_type (one.one_tree e s t (subst (λ x. HasTree types who x s) same (h who read)) (k who read))
  one_whole (mark.Signature m) (reading.of_signature s) (mark.Signature n) (reading.of_signature t) h k is =
      let same : m ≡ n = cc in
      let here = ap (λ (x : ModuleInternedTypeIndex). slice_get types.signatures x.0) (sym same) in
      ap reading.of_signature (same_Some s t (sym (here ∙ h) ∙ k))
  one_whole (mark.Type_ d) (reading.of_signature s) b t h k is = absurd h
  one_whole (mark.Signature m) (reading.of_type s) b t h k is = absurd h
  one_whole (mark.Type_ d) (reading.of_type s) (mark.Type_ e) (reading.of_signature t) h k is = absurd k
  one_whole (mark.Type_ d) (reading.of_type s) (mark.Signature n) (reading.of_type t) h k is = absurd k
  one_whole (mark.Type_ d) (reading.of_type s) (mark.Signature n) (reading.of_signature t) h k is =
      absurd (let no : ⊥ = cc in no)
  one_whole (mark.Signature m) (reading.of_signature s) (mark.Signature n) (reading.of_type t) h k is = absurd k
  one_whole (mark.Signature m) (reading.of_signature s) (mark.Type_ e) (reading.of_signature t) h k is = absurd k
  one_whole (mark.Signature m) (reading.of_signature s) (mark.Type_ e) (reading.of_type t) h k is =
      absurd (let no : ⊥ = cc in no)

  -- and what is held is held under one number
  one_mark : (a : Mark) (s : reading.Mark) (b : Mark) (t : reading.Mark) → Holds types reads a s → Holds types reads b t
      → s ≡ t → a ≡ b
  unfolding Holds
  one_mark (mark.Type_ d) (reading.of_type s) (mark.Type_ e) (reading.of_type t) h k is =
      let same : s ≡ t = cc in
      ap mark.Type_ (one.one_number d e t (subst (λ x. HasTree types who d x) same (h who read)) (k who read))
  one_mark (mark.Signature m) (reading.of_signature s) (mark.Signature n) (reading.of_signature t) h k is =
      let same : s ≡ t = cc in
      ap (λ x. mark.Signature (record { 0 = x }))
      (builder.distinct kind.Signature m.0 n.0 t (h ∙ ap Some same) k)
  one_mark (mark.Type_ d) (reading.of_signature s) b t h k is = absurd h
  one_mark (mark.Signature m) (reading.of_type s) b t h k is = absurd h
  one_mark (mark.Type_ d) (reading.of_type s) (mark.Type_ e) (reading.of_signature t) h k is = absurd k
  one_mark (mark.Type_ d) (reading.of_type s) (mark.Signature n) (reading.of_type t) h k is = absurd k
  one_mark (mark.Type_ d) (reading.of_type s) (mark.Signature n) (reading.of_signature t) h k is =
      absurd (let no : ⊥ = cc in no)
  one_mark (mark.Signature m) (reading.of_signature s) (mark.Signature n) (reading.of_type t) h k is = absurd k
  one_mark (mark.Signature m) (reading.of_signature s) (mark.Type_ e) (reading.of_signature t) h k is = absurd k
  one_mark (mark.Signature m) (reading.of_signature s) (mark.Type_ e) (reading.of_type t) h k is =
      absurd (let no : ⊥ = cc in no)

-- Values that are there twice, with numbers and whole, in a graph in which imported resources stand at these paths.
module _ (types : Types) (tells : TellsApart types) (g : ComponentDfg) (paths : List Path) (apart : AreDistinct paths)
    (at_paths : AllZip (λ (r : RuntimeImportIndex). HasPath g r.0) g.imported_resources paths) where
  -- resource numbers read by these paths
  who : ResourceIndex → Identity
  who = (some_reading paths).0

  fits : Fits g who
  unfolding who
  fits = reads_fit g paths at_paths who (some_reading paths).1

  one_to_one : AreOneToOne types who
  unfolding who
  one_to_one = tells.trees who (reads_apart paths apart who (some_reading paths).1)

  -- with one value in numbers there is one whole value
  pub one_whole_value : (v x : CoreValue (Numbered types (Fits g)))
      → map_value (number_of types (Fits g)) v ≡ map_value (number_of types (Fits g)) x
      → map_value (whole_of types (Fits g)) v ≡ map_value (whole_of types (Fits g)) x
  one_whole_value =
      value_same (number_of types (Fits g)) (whole_of types (Fits g))
      (λ m n is. one_whole types tells.builder (Fits g) who fits one_to_one m.number m.whole n.number n.whole m.holds
      n.holds is)

  -- and with one whole value there is one in numbers
  pub one_numbered_value : (v x : CoreValue (Numbered types (Fits g)))
      → map_value (whole_of types (Fits g)) v ≡ map_value (whole_of types (Fits g)) x
      → map_value (number_of types (Fits g)) v ≡ map_value (number_of types (Fits g)) x
  one_numbered_value =
      value_same (whole_of types (Fits g)) (number_of types (Fits g))
      (λ m n is. one_mark types tells.builder (Fits g) who fits one_to_one m.number m.whole n.number n.whole m.holds
      n.holds is)

  -- a definition stands for one value
  pub stands_unique : (d : CoreDef) (v x : CoreValue reading.Mark) → CoreStands types g d v → CoreStands types g d x
      → v ≡ x
  stands_unique d v x a b =
      sym a.is ∙ one_whole_value a.numbered b.numbered (means_unique g a.means b.means) ∙ b.is

  -- and definitions that stand for one value mean one in numbers
  pub means_shared : (d e : CoreDef) (v : CoreValue reading.Mark) (a : CoreStands types g d v)
      → CoreStands types g e v → Means g e (map_value (number_of types (Fits g)) a.numbered)
  means_shared d e v a b =
      subst (Means g e) (one_numbered_value b.numbered a.numbered (b.is ∙ sym a.is)) b.means
