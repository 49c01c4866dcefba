-- What the steps of a conversion add, one after another.
use Rattle.std.proofs.Common.{◌≡◌, true≢false, ℕ, ◌<◌, ◌++◌, Bool, true}
use Rattle.std.proofs.Common.{false, List, [], ◌∷◌, length, get_or, zero, suc}
use Rattle.std.proofs.Common.{Some, refl, sym, ap, ◌∙◌, subst, arith, inl, inr, ◌&&◌, Contains}
use Rattle.std.specs.Prelude.{map, slice_get}
use Rattle.std.specs.List.{list_all}
use Rattle.std.proofs.lemmas.List.Elements.{Contains-push}
use Rattle.pc_entity.proofs.Elements.{and_true}
use Rattle.pc_numbers.specs.declared.runtime.RuntimeComponentInstanceIndex.{RuntimeComponentInstanceIndex}
use Rattle.pc_types.specs.declared.parsed.CoreEntity.{CoreEntity}
use Rattle.pc_types.specs.declared.parsed.CoreEntity.TheVariants as core
use Rattle.pc_types.specs.declared.parsed.CoreFuncSig.{CoreFuncSig}
use Rattle.pc_types.specs.declared.parsed.TypeTable.{TypeTable}
use Rattle.pc_types.specs.declared.types.TypeDef.{TypeDef}
use Rattle.pc_types.specs.declared.types.TypeKind.{TypeKind}
use Rattle.pc_types_lists.specs.Types.{Types, Grows}
use Rattle.pc_types_lists.specs.Added.{AddsOnly}
use Rattle.pc_types_lists.specs.Interned.{IsPut}
use Rattle.pc_types_lists.proofs.Growth.{grows_error_context_tables}
use Rattle.pc_types_lists.proofs.AddedLemmas.{only_both, only_error_context_tables, only_more, only_none}
use Rattle.pc_types_lists.proofs.AddedLemmas.{only_in_signatures}
use Rattle.pc_types_lists.proofs.AddedLemmas.{put_there, below_or}
use Rattle.pc_types_convert.specs.Adds.{AddsContexts, AddsSignatures, AddsType, AddsTuple, IsNamedBy, IsOneOf}
use Rattle.pc_types_convert.specs.Adds.{one_type, one_tuple, one_signature, one_context}
use Rattle.pc_types_convert.proofs.PartLemmas.{error_context_grows}

-- one type that is put twice is put once
put_twice : {V : Type 0} (a b c : List V) (value : V) → IsPut a b value → IsPut b c value → IsPut a c value
put_twice a b c value first second = elim first as (λ _. IsPut a c value) [
  | inl same ↦ elim second as (λ _. IsPut a c value) [
    | inl still ↦ inl (still ∙ same)
    | inr more ↦ inr (
      more.0 ∙ ap (λ xs. xs ++ value ∷ []) same,
      λ there. more.1 (subst (λ xs. Contains xs value)
          (sym same) there),
    )
  ]
  | inr more ↦ elim second as (λ _. IsPut a c value) [
    | inl still ↦ inr (still ∙ more.0, more.1)
    | inr again ↦ absurd (again.1 (subst (λ xs. Contains xs value) (sym more.0) (Contains-push a value)))
  ]
]

-- what changes nothing adds no error contexts
pub contexts_same : (none_named : Bool) (a b : Types) → b ≡ a → AddsContexts none_named a b
contexts_same none_named a b same = subst (AddsContexts none_named a) (sym same)
    (record { rest = refl; put = inl refl; same = λ _. refl })

-- the error contexts of the current instance were put into their list
pub contexts_put : (a b : Types) (i : RuntimeComponentInstanceIndex) → i ≡ a.resources.current
    → b ≡ record a { error_context_tables = b.error_context_tables }
    → IsPut a.error_context_tables b.error_context_tables (record { instance = i }) → AddsContexts false a b
contexts_put a b i here rest put = record {
  rest = rest;
  put = subst (λ j. IsPut a.error_context_tables b.error_context_tables (record { instance = j })) here put;
  same = λ never. absurd (true≢false (sym never));
}

-- where fewer words ask for none
pub contexts_weaker : (f g : Bool) → (g ≡ true → f ≡ true) → (a b : Types) → AddsContexts f a b → AddsContexts g a b
contexts_weaker f g to a b adds = record { rest = adds.rest; put = adds.put; same = λ h. adds.same (to h) }

-- two steps together
pub contexts_both : (f g h : Bool) → (h ≡ true → f ≡ true) → (h ≡ true → g ≡ true) → (a b c : Types)
    → AddsContexts f a b → AddsContexts g b c → AddsContexts h a c
contexts_both f g h to_f to_g a b c first second =
    let place = ap (λ (x : Types). x.resources.current) first.rest in
    record {
      rest = second.rest
          ∙ ap (λ (x : Types). record x { error_context_tables = c.error_context_tables }) first.rest;
      put = put_twice a.error_context_tables b.error_context_tables c.error_context_tables
          (record { instance = a.resources.current }) first.put
          (subst (λ i. IsPut b.error_context_tables c.error_context_tables (record { instance = i })) place second.put);
      same = λ none. second.same (to_g none) ∙ first.same (to_f none);
    }

-- nothing but error contexts grows
pub contexts_grow : (f : Bool) (a b : Types) → AddsContexts f a b → Grows a b
contexts_grow f a b adds = grows_error_context_tables a b (record { instance = a.resources.current }) adds.rest adds.put

-- what each item has, one has
all_at : {A : Type 0} (f : A → Bool) (xs : List A) (i : ℕ) (x : A) → i < length xs → x ≡ get_or xs i x
    → list_all f xs ≡ true → f x ≡ true
all_at f [] i x within is h = absurd (omega (arith, within))
all_at f (y ∷ ys) zero x within is h =
    subst (λ z. f z ≡ true) (sym is) (and_true (f y) (list_all f ys) h).0
all_at f (y ∷ ys) (suc i) x within is h =
    all_at f ys i x (omega (arith, within)) is (and_true (f y) (list_all f ys) h).1

-- one more step of a loop over a list
pub contexts_next : {A : Type 0} (f : A → Bool) (xs : List A) (i : ℕ) (x : A) → i < length xs → x ≡ get_or xs i x
    → (a b c : Types) → AddsContexts (list_all f xs) a b → AddsContexts (f x) b c → AddsContexts (list_all f xs) a c
contexts_next f xs i x within is a b c before here =
    contexts_both (list_all f xs) (f x) (list_all f xs) (λ h. h) (all_at f xs i x within is) a b c before here

-- two parts of an entry
pub contexts_pair : (f g : Bool) (a b c : Types) → AddsContexts f a b → AddsContexts g b c → AddsContexts (f && g) a c
contexts_pair f g a b c first second =
    contexts_both f g (f && g) (λ h. (and_true f g h).0) (λ h. (and_true f g h).1) a b c first second

-- the first of two parts
pub contexts_first : (f g : Bool) (a b : Types) → AddsContexts f a b → AddsContexts (f && g) a b
contexts_first f g a b adds = contexts_weaker f (f && g) (λ h. (and_true f g h).0) a b adds

module _ (b c : Types) (g : Grows b c) (asked further : Type 0) (P Q : TypeDef → Type 0) (T U S R : ℕ → Type 0)
    (asks : asked → further) (types : (d : TypeDef) → P d → Q d) (tuples : (i : ℕ) → T i → U i)
    (signatures : (i : ℕ) → S i → R i) where
  -- what was added stays what it is, under looser words
  pub one_more : (k : TypeKind) (i : ℕ) → IsOneOf b asked P T S k i → IsOneOf c further Q U R k i
  one_more k i (one_type d named is) = one_type d named (types d is)
  one_more k i (one_tuple same is) = one_tuple same (tuples i is)
  one_more k i (one_signature same is) = one_signature same (signatures i is)
  one_more k i (one_context same how is) = one_context same (asks how) (error_context_grows b c g (record { 0 = i }) is)

-- the error contexts are what they are
pub contexts_only : (f : Bool) (a b : Types) → AddsContexts f a b → (P : TypeDef → Type 0) (T S : ℕ → Type 0)
    → AddsOnly (IsOneOf b (f ≡ false) P T S) a b
contexts_only true a b adds P T S = only_none (IsOneOf b (true ≡ false) P T S) a b (adds.same refl)
contexts_only false a b adds P T S =
    let place = ap (λ (x : Types). x.resources.current) adds.rest in
    only_error_context_tables (IsOneOf b (false ≡ false) P T S) a b (record { instance = a.resources.current })
    adds.rest adds.put
    (λ i at. one_context refl refl
    (at ∙ ap (λ (n : RuntimeComponentInstanceIndex). Some (record { instance = n })) (sym place)))

-- error contexts, and then what a step adds
pub then_only : (f : Bool) (P : TypeDef → Type 0) (T S : ℕ → Type 0) (a b c : Types) → AddsContexts f a b → Grows b c
    → AddsOnly (IsOneOf c (f ≡ false) P T S) b c → AddsOnly (IsOneOf c (f ≡ false) P T S) a c
then_only f P T S a b c contexts g here =
    only_both (IsOneOf c (f ≡ false) P T S) a b c
    (only_more (IsOneOf b (f ≡ false) P T S) (IsOneOf c (f ≡ false) P T S)
    (one_more b c g (f ≡ false) (f ≡ false) P P T T S S (λ h. h) (λ d h. h) (λ i h. h) (λ i h. h)) a b
    (contexts_only f a b contexts P T S))
    here

-- no type was added yet
pub type_contexts : (f : Bool) (P : TypeDef → Type 0) (a b : Types) → AddsContexts f a b → AddsType (f ≡ false) P a b
type_contexts f P a b adds = record { only = contexts_only f a b adds P (λ i. ⊥) (λ i. ⊥) }

-- error contexts, and then a type
pub type_after : (f : Bool) (P : TypeDef → Type 0) (a b c : Types) → AddsContexts f a b → Grows b c
    → AddsOnly (IsOneOf c (f ≡ false) P (λ i. ⊥) (λ i. ⊥)) b c → AddsType (f ≡ false) P a c
type_after f P a b c contexts g here = record { only = then_only f P (λ i. ⊥) (λ i. ⊥) a b c contexts g here }

-- no tuple was added yet
pub tuple_contexts : (f : Bool) (T : ℕ → Type 0) (a b : Types) → AddsContexts f a b → AddsTuple (f ≡ false) T a b
tuple_contexts f T a b adds = record { only = contexts_only f a b adds (λ d. ⊥) T (λ i. ⊥) }

-- error contexts, and then a tuple
pub tuple_after : (f : Bool) (T : ℕ → Type 0) (a b c : Types) → AddsContexts f a b → Grows b c
    → AddsOnly (IsOneOf c (f ≡ false) (λ d. ⊥) T (λ i. ⊥)) b c → AddsTuple (f ≡ false) T a c
tuple_after f T a b c contexts g here = record { only = then_only f (λ d. ⊥) T (λ i. ⊥) a b c contexts g here }

-- an item that a list maps to is among what it maps to
contains_map : {A B : Type 0} (f : A → B) (xs : List A) (i : ℕ) (x : A) → i < length xs → x ≡ get_or xs i x
    → Contains (map f xs) (f x)
contains_map f [] i x within is = absurd (omega (arith, within))
contains_map f (y ∷ ys) zero x within is = (zero, omega arith, ap f (sym is))
contains_map f (y ∷ ys) (suc i) x within is =
    let rest = contains_map f ys i x (omega (arith, within)) is in
    (suc rest.0, omega (arith, rest.1), rest.2)

-- the one item of a list
contains_one : {A : Type 0} (x y : A) → Contains (x ∷ []) y → x ≡ y
contains_one x y h = by h.0 h.1 h.2
  where
    by : (n : ℕ) → n < 1 → get_or (x ∷ []) n y ≡ y → x ≡ y
    by zero within is = is
    by (suc n) within is = absurd (omega (arith, within))

module _ (t : TypeTable) where
  -- what changes nothing adds no signatures
  pub signatures_same : (es : List CoreEntity) (a b : Types) → b ≡ a → AddsSignatures t es a b
  signatures_same es a b same = subst (AddsSignatures t es a) (sym same)
      (record { rest = refl; only = λ i above below. absurd (omega (arith, above, below)) })

  -- two steps together
  pub signatures_both : (es fs gs : List CoreEntity) → ((e : CoreEntity) → Contains es e → Contains gs e)
      → ((e : CoreEntity) → Contains fs e → Contains gs e) → (a b c : Types) → Grows b c
      → AddsSignatures t es a b → AddsSignatures t fs b c → AddsSignatures t gs a c
  signatures_both es fs gs to_es to_fs a b c g first second = record {
    rest = second.rest ∙ ap (λ (x : Types). record x { signatures = c.signatures }) first.rest;
    only = λ i above below.
        elim (below_or i (length b.signatures)) as
        (λ _. (s : CoreFuncSig) × (slice_get c.signatures i ≡ Some s) × IsNamedBy t gs s) [
          | inl early ↦ (
              let x = first.only i above early in
              (x.0, g.signatures i x.0 x.1, (x.2.0, to_es (core.Func x.2.0) x.2.1, x.2.2)))
          | inr late ↦ (
              let x = second.only i late below in (x.0, x.1, (x.2.0, to_fs (core.Func x.2.0) x.2.1, x.2.2)))
        ];
  }

  -- one more step of a loop over a list
  pub signatures_next : {A : Type 0} (f : A → CoreEntity) (xs : List A) (i : ℕ) (x : A) → i < length xs
      → x ≡ get_or xs i x → (a b c : Types) → Grows b c → AddsSignatures t (map f xs) a b
      → AddsSignatures t (f x ∷ []) b c → AddsSignatures t (map f xs) a c
  signatures_next f xs i x within is a b c g before here =
      signatures_both (map f xs) (f x ∷ []) (map f xs) (λ e h. h)
      (λ e h. subst (Contains (map f xs)) (contains_one (f x) e h) (contains_map f xs i x within is)) a b c g before
      here

  -- a signature of the table that was put into its list
  pub signatures_put : (n : ℕ) (s : CoreFuncSig) (a b : Types) → slice_get t.core_funcs n ≡ Some s
      → b ≡ record a { signatures = b.signatures } → IsPut a.signatures b.signatures s
      → AddsSignatures t (core.Func n ∷ []) a b
  signatures_put n s a b at rest put = record {
    rest = rest;
    only = λ i above below.
        (s, put_there a.signatures b.signatures s put i above below, (n, (zero, omega arith, refl), at));
  }

  -- what module types add of signatures
  pub signatures_only : (es : List CoreEntity) (a b : Types) → AddsSignatures t es a b → (asked : Type 0)
      (P : TypeDef → Type 0) (T S : ℕ → Type 0)
      → ((i : ℕ) → ((s : CoreFuncSig) × (slice_get b.signatures i ≡ Some s) × IsNamedBy t es s) → S i)
      → AddsOnly (IsOneOf b asked P T S) a b
  signatures_only es a b adds asked P T S give =
      only_in_signatures (IsOneOf b asked P T S) a b adds.rest
      (λ i above below. one_signature refl (give i (adds.only i above below)))
