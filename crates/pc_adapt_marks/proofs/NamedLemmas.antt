-- What values and entries name follows their marks; so adapters need the same adapters, whichever marks they have.
use Rattle.std.proofs.Common.{◌≡◌, ℕ, zero, suc, List, [], ◌∷◌, ◌++◌, Contains, length, map, Some, refl, sym, ap}
use Rattle.std.proofs.Common.{subst, ◌∙◌, arith}
use Rattle.std.specs.Prelude.{slice_get, take}
use Rattle.std.specs.List.{flat_map}
use Rattle.std.proofs.lemmas.List.{map-append}
use Rattle.std.proofs.lemmas.Option.{get_or_from_slice_get, none-some, same_Some, slice_get-get_or, slice_get_within}
use Rattle.pc_spec_plan.specs.CoreValue as value
use Rattle.pc_spec_plan.specs.CoreValue.{CoreValue, DataModel, MaybeValue, Options, Part, Parts, map_maybe, map_model}
use Rattle.pc_spec_plan.specs.CoreValue.{map_options, map_part, map_parts, map_value}
use Rattle.pc_spec_plan.specs.Log.{Entry, Instantiation, NamedArgument, declared, declared_resource, instances_of}
use Rattle.pc_spec_plan.specs.Log.{instantiated, made, map_argument, map_entry, map_instantiation, needed, of_host, of_static}
use Rattle.pc_spec_plan.specs.Log.{trace}
use Rattle.pc_spec_adapt.specs.Named.{Named, an_adapter, an_instance, arguments_of, in_adapter, in_entry, named, named_maybe}
use Rattle.pc_spec_adapt.specs.Named.{named_model, named_options, named_part, named_parts}
use Rattle.pc_spec_adapt.specs.Needs as needs
use Rattle.pc_spec_adapt.specs.Needs.{Needs, adapters_of, made_before}

-- what is at a place of a list is in it
inside : {A : Type 0} (xs : List A) (i : ℕ) (x : A) → slice_get xs i ≡ Some x → Contains xs x
inside xs i x at = (i, slice_get_within xs i x at, get_or_from_slice_get xs i x x at)

-- and what is in it is at a place
place_of : {A : Type 0} (xs : List A) (x : A) → Contains xs x → (i : ℕ) × (slice_get xs i ≡ Some x)
place_of xs x has = (has.0, slice_get-get_or xs has.0 x has.1 ∙ ap Some has.2)

-- what stands in a mapped list
pub behind_map : {A B : Type 0} (f : A → B) (xs : List A) (k : ℕ) (y : B) → slice_get (map f xs) k ≡ Some y
    → (x : A) × (slice_get xs k ≡ Some x) × (f x ≡ y)
behind_map f [] k y at = absurd (none-some y at)
behind_map f (x ∷ xs) zero y at = (x, refl, same_Some (f x) y at)
behind_map f (x ∷ xs) (suc k) y at = behind_map f xs k y at

-- and what a list has, mapped
pub in_map : {A B : Type 0} (f : A → B) (xs : List A) (k : ℕ) (x : A) → slice_get xs k ≡ Some x
    → slice_get (map f xs) k ≡ Some (f x)
in_map f [] k x at = absurd (none-some x at)
in_map f (y ∷ xs) zero x at = ap (λ z. Some (f z)) (same_Some y x at)
in_map f (y ∷ xs) (suc k) x at = in_map f xs k x at

module _ {τ υ : Type 0} (f : τ → υ) where
  -- what is named, with its marks mapped
  abbrev map_named : Named τ → Named υ
  map_named (an_instance n) = an_instance n
  map_named (an_adapter v) = an_adapter (map_value f v)

  abbrev all : List (Named τ) → List (Named υ)
  all ns = map map_named ns

  mutual
    value_named : (v : CoreValue τ) → named (map_value f v) ≡ all (named v)
    value_named (value.exported n item) = refl
    value_named (value.lowered path ty o) = options_named o
    value_named (value.builtin k c parts) = parts_named parts
    value_named (value.intrinsic n) = refl
    value_named (value.adapter ty o ty2 o2 v) = refl
    value_named (value.flags c) = refl
    value_named (value.helper k parts) = parts_named parts

    options_named : (o : Options τ) → named_options (map_options f o) ≡ all (named_options o)
    options_named (value.options c encoding is_async signature callback post_return model) =
        let first = maybe_named callback in
        let second = maybe_named post_return in
        let third = model_named model in
        (λ i. first i ++ second i ++ third i)
        ∙ ap (λ ns. ns ++ all (named_model model))
        (sym (map-append map_named (named_maybe callback) (named_maybe post_return)))
        ∙ sym (map-append map_named (named_maybe callback ++ named_maybe post_return) (named_model model))

    model_named : (m : DataModel τ) → named_model (map_model f m) ≡ all (named_model m)
    model_named value.gc = refl
    model_named (value.linear memory realloc) =
        let first = maybe_named memory in
        let second = maybe_named realloc in
        (λ i. first i ++ second i) ∙ sym (map-append map_named (named_maybe memory) (named_maybe realloc))

    maybe_named : (m : MaybeValue τ) → named_maybe (map_maybe f m) ≡ all (named_maybe m)
    maybe_named value.no_value = refl
    maybe_named (value.a_value v) = value_named v

    parts_named : (ps : Parts τ) → named_parts (map_parts f ps) ≡ all (named_parts ps)
    parts_named value.no_parts = refl
    parts_named (value.and_part p ps) =
        let first = part_named p in
        let second = parts_named ps in
        (λ i. first i ++ second i) ∙ sym (map-append map_named (named_part p) (named_parts ps))

    part_named : (p : Part τ) → named_part (map_part f p) ≡ all (named_part p)
    part_named (value.mark_part m) = refl
    part_named (value.number_part n) = refl
    part_named (value.flag_part b) = refl
    part_named (value.value_part v) = maybe_named v
    part_named (value.options_part o) = options_named o

  -- what an adapter names
  adapter_named : (v : CoreValue τ) → in_adapter (map_value f v) ≡ all (in_adapter v)
  adapter_named (value.adapter ty o ty2 o2 v) =
      let first = value_named v in
      let second = options_named o in
      let third = options_named o2 in
      (λ i. first i ++ second i ++ third i)
      ∙ ap (λ ns. ns ++ all (named_options o2)) (sym (map-append map_named (named v) (named_options o)))
      ∙ sym (map-append map_named (named v ++ named_options o) (named_options o2))
  adapter_named (value.exported n item) = refl
  adapter_named (value.lowered path ty o) = refl
  adapter_named (value.builtin k c parts) = refl
  adapter_named (value.intrinsic n) = refl
  adapter_named (value.flags c) = refl
  adapter_named (value.helper k parts) = refl

  -- and an entry
  values_named : (vs : List (CoreValue τ)) → flat_map named (map (map_value f) vs) ≡ all (flat_map named vs)
  values_named [] = refl
  values_named (v ∷ vs) =
      let first = value_named v in
      let rest = values_named vs in
      (λ i. first i ++ rest i) ∙ sym (map-append map_named (named v) (flat_map named vs))

  host_mapped : (args : List (NamedArgument τ))
      → map (λ (a : NamedArgument υ). a.value) (map (map_argument f) args)
      ≡ map (map_value f) (map (λ (a : NamedArgument τ). a.value) args)
  host_mapped [] = refl
  host_mapped (a ∷ args) = let rest = host_mapped args in λ i. map_value f a.value ∷ rest i

  arguments_mapped : (i : Instantiation τ) → arguments_of (map_instantiation f i) ≡ map (map_value f) (arguments_of i)
  arguments_mapped (of_static n args) = refl
  arguments_mapped (of_host path args) = host_mapped args

  entry_named : (e : Entry τ) → in_entry (map_entry f e) ≡ all (in_entry e)
  entry_named (instantiated i c) = ap (flat_map named) (arguments_mapped i) ∙ values_named (arguments_of i)
  entry_named (declared_resource representation destructor c) = maybe_named destructor
  entry_named (declared v) = refl
  entry_named (made v) = refl
  entry_named (needed path) = refl

  -- an entry with its marks mapped makes a core instance where it does
  made_mapped : (i : ℕ) (es : List (Entry τ))
      → length (instances_of (take i (map (map_entry f) es))) ≡ length (instances_of (take i es))
  made_mapped zero [] = refl
  made_mapped (suc i) [] = refl
  made_mapped zero (e ∷ es) = refl
  made_mapped (suc i) (e ∷ es) = by e (made_mapped i es)
    where
      by : (x : Entry τ) → length (instances_of (take i (map (map_entry f) es))) ≡ length (instances_of (take i es))
          → length (instances_of (take (suc i) (map (map_entry f) (x ∷ es))))
          ≡ length (instances_of (take (suc i) (x ∷ es)))
      by (instantiated j c) rest = ap suc rest
      by (declared_resource representation destructor c) rest = rest
      by (declared v) rest = rest
      by (made v) rest = rest
      by (needed path) rest = rest

-- Where what is one value with the first marks is one with the second.
module _ {τ υ ω : Type 0} (f : τ → υ) (h : τ → ω)
    (one : (x y : CoreValue τ) → map_value f x ≡ map_value f y → map_value h x ≡ map_value h y) where
  -- an adapter that is named is
  adapter_carried : (ns : List (Named τ)) (y : CoreValue τ) → Contains (all f ns) (an_adapter (map_value f y))
      → Contains (all h ns) (an_adapter (map_value h y))
  adapter_carried ns y has =
      let at = place_of (all f ns) (an_adapter (map_value f y)) has in
      let found = behind_map (map_named f) ns at.0 (an_adapter (map_value f y)) at.1 in
      inside (all h ns) at.0 (an_adapter (map_value h y))
      (in_map (map_named h) ns at.0 found.0 found.1 ∙ ap Some (by found.0 found.2))
    where
      by : (n : Named τ) → map_named f n ≡ an_adapter (map_value f y) → map_named h n ≡ an_adapter (map_value h y)
      by (an_instance n) is = absurd (let no : ⊥ = cc in no)
      by (an_adapter x) is =
          let same : map_value f x ≡ map_value f y = cc in
          ap an_adapter (one x y same)

  -- and so is an instance
  instance_carried : (ns : List (Named τ)) (n : ℕ) → Contains (all f ns) (an_instance n)
      → Contains (all h ns) (an_instance n)
  instance_carried ns n has =
      let at = place_of (all f ns) (an_instance n) has in
      let found = behind_map (map_named f) ns at.0 (an_instance n) at.1 in
      inside (all h ns) at.0 (an_instance n)
      (in_map (map_named h) ns at.0 found.0 found.1 ∙ ap Some (by found.0 found.2))
    where
      by : (x : Named τ) → map_named f x ≡ an_instance n → map_named h x ≡ an_instance n
      by (an_instance m) is = cc
      by (an_adapter v) is = absurd (let no : ⊥ = cc in no)

  module _ (adapters : List (CoreValue τ)) (effects : List (Entry τ)) (l : List (Entry υ)) (m : List (Entry ω))
      (first : adapters_of l ≡ map (map_value f) adapters) (second : adapters_of m ≡ map (map_value h) adapters)
      (third : trace l ≡ map (map_entry f) effects) (fourth : trace m ≡ map (map_entry h) effects) where
    made_alike : (i : ℕ) → made_before l i ≡ made_before m i
    made_alike i =
        ap (λ es. length (instances_of (take i es))) third ∙ made_mapped f i effects
        ∙ sym (ap (λ es. length (instances_of (take i es))) fourth ∙ made_mapped h i effects)

    adapter_at : (a : ℕ) (v : CoreValue υ) → slice_get (adapters_of l) a ≡ Some v
        → (x : CoreValue τ) × (slice_get (adapters_of m) a ≡ Some (map_value h x)) × (map_value f x ≡ v)
    adapter_at a v at =
        let found = behind_map (map_value f) adapters a v (ap (λ vs. slice_get vs a) (sym first) ∙ at) in (
          found.0,
          ap (λ vs. slice_get vs a) second ∙ in_map (map_value h) adapters a found.0 found.1,
          found.2,
        )

    entry_at : (i : ℕ) (e : Entry υ) → slice_get (trace l) i ≡ Some e
        → (x : Entry τ) × (slice_get (trace m) i ≡ Some (map_entry h x)) × (map_entry f x ≡ e)
    entry_at i e at =
        let found = behind_map (map_entry f) effects i e (ap (λ es. slice_get es i) (sym third) ∙ at) in (
          found.0,
          ap (λ es. slice_get es i) fourth ∙ in_map (map_entry h) effects i found.0 found.1,
          found.2,
        )

    -- an adapter that is named in a list is named there with the second marks
    names_adapter : {ns : List (Named υ)} {ks : List (Named ω)} (w : CoreValue υ) (xs : List (Named τ))
        (y : CoreValue τ) → ns ≡ all f xs → ks ≡ all h xs → map_value f y ≡ w → Contains ns (an_adapter w)
        → Contains ks (an_adapter (map_value h y))
    names_adapter w xs y front back is has =
        subst (λ ns. Contains ns (an_adapter (map_value h y))) (sym back)
        (adapter_carried xs y
        (subst (λ v. Contains (all f xs) (an_adapter v)) (sym is)
        (subst (λ ns. Contains ns (an_adapter w)) front has)))

    names_instance : {ns : List (Named υ)} {ks : List (Named ω)} (xs : List (Named τ)) (n : ℕ) → ns ≡ all f xs
        → ks ≡ all h xs → Contains ns (an_instance n) → Contains ks (an_instance n)
    names_instance xs n front back has =
        subst (λ ns. Contains ns (an_instance n)) (sym back)
        (instance_carried xs n (subst (λ ns. Contains ns (an_instance n)) front has))

    -- what an adapter needs it needs with the second marks
    pub needs_carried : (a b : ℕ) → Needs l a b → Needs m a b
    needs_carried a b (needs.named {v = v} {w = w} at_v at_w has) =
        let x = adapter_at a v at_v in
        let y = adapter_at b w at_w in
        needs.named x.1 y.1
        (names_adapter w (in_adapter x.0) y.0 (ap in_adapter (sym x.2) ∙ adapter_named f x.0) (adapter_named h x.0) y.2 has)
    needs_carried a b (needs.awaited i n {v = v} {w = w} {e = e} at_v at_w has at_e late uses) =
        let x = adapter_at a v at_v in
        let y = adapter_at b w at_w in
        let t = entry_at i e at_e in
        let same = made_alike i in
        needs.awaited i n x.1 y.1
        (names_instance (in_adapter x.0) n (ap in_adapter (sym x.2) ∙ adapter_named f x.0) (adapter_named h x.0) has)
        t.1 (omega (arith, same, late))
        (names_adapter w (in_entry t.0) y.0 (ap in_entry (sym t.2) ∙ entry_named f t.0) (entry_named h t.0) y.2 uses)
