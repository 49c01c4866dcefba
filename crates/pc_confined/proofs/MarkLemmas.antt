-- To which component instance a core value belongs doesn't depend on its marks.
use Rattle.std.proofs.Common.{◌≡◌, ℕ, List, [], ◌∷◌, ◌++◌, Option, None, Some, map, refl, sym, ap, ◌∙◌}
use Rattle.std.specs.Prelude.{All, option_map, slice_get}
use Rattle.std.proofs.lemmas.List.Elements.{All-cons, All-head, All-map, All-nil, All-tail, All-weaker}
use Rattle.std.proofs.lemmas.Option.{none-some, same_Some, slice_get-map}
use Rattle.pc_spec_plan.specs.CoreValue.{CoreValue, DataModel, MaybeValue, Options, a_value, adapter, builtin}
use Rattle.pc_spec_plan.specs.CoreValue.{exported, flags, gc, helper, intrinsic, linear, lowered, map_maybe}
use Rattle.pc_spec_plan.specs.CoreValue.{map_model}
use Rattle.pc_spec_plan.specs.CoreValue.{map_options, map_value, no_value, options}
use Rattle.pc_spec_plan.specs.Log.{Instantiation, NamedArgument, Owned, map_argument, map_instantiation, map_owned}
use Rattle.pc_spec_plan.specs.Log.{of_host}
use Rattle.pc_spec_plan.specs.Log.{of_static}
use Rattle.pc_spec_wiring.specs.Confined.{IsOf}
use Rattle.pc_spec_wiring.specs.Confined as of
use Rattle.pc_spec_wiring.specs.Held.{arguments_of, instance_of, lifts_of, maybe_list, model_list, options_list}

-- what is true of all that a list is mapped to
pub all_unmap : {A B : Type 0} (P : B → Type 0) (f : A → B) (xs : List A) → All P (map f xs) → All (λ x. P (f x)) xs
all_unmap P f [] h = All-nil (λ x. P (f x))
all_unmap P f (x ∷ xs) h =
    All-cons (λ y. P (f y)) x xs (All-head P (f x) (map f xs) h) (all_unmap P f xs (All-tail P (f x) (map f xs) h))

module _ {τ υ : Type 0} (f : τ → υ) where
  -- the component instance of options
  pub instance_same : (o : Options τ) → instance_of (map_options f o) ≡ instance_of o
  instance_same (options c e is_async s callback post_return model) = refl

  -- the core values that are held
  pub maybe_same : (v : MaybeValue τ) → maybe_list (map_maybe f v) ≡ map (map_value f) (maybe_list v)
  maybe_same no_value = refl
  maybe_same (a_value v) = refl

  map_both : (xs ys : List (CoreValue τ))
      → map (map_value f) (xs ++ ys) ≡ map (map_value f) xs ++ map (map_value f) ys
  map_both [] ys = refl
  map_both (x ∷ xs) ys = ap (λ zs. map_value f x ∷ zs) (map_both xs ys)

  model_same : (m : DataModel τ) → model_list (map_model f m) ≡ map (map_value f) (model_list m)
  model_same gc = refl
  model_same (linear m r) =
      ap (λ xs. xs ++ maybe_list (map_maybe f r)) (maybe_same m)
      ∙ ap (λ xs. map (map_value f) (maybe_list m) ++ xs) (maybe_same r)
      ∙ sym (map_both (maybe_list m) (maybe_list r))

  options_same : (o : Options τ) → options_list (map_options f o) ≡ map (map_value f) (options_list o)
  options_same (options c e is_async s callback post_return model) =
      ap (λ xs. xs ++ maybe_list (map_maybe f post_return) ++ model_list (map_model f model)) (maybe_same callback)
      ∙ ap (λ xs. map (map_value f) (maybe_list callback) ++ xs ++ model_list (map_model f model))
      (maybe_same post_return)
      ∙ ap (λ xs. map (map_value f) (maybe_list callback) ++ map (map_value f) (maybe_list post_return) ++ xs)
      (model_same model)
      ∙ ap (λ xs. xs ++ map (map_value f) (model_list model))
      (sym (map_both (maybe_list callback) (maybe_list post_return)))
      ∙ sym (map_both (maybe_list callback ++ maybe_list post_return) (model_list model))

  pub lifts_same : (o : Options τ) (v : CoreValue τ)
      → lifts_of (map_options f o) (map_value f v) ≡ map (map_value f) (lifts_of o v)
  lifts_same o v = ap (λ xs. map_value f v ∷ xs) (options_same o)

  named_same : (args : List (NamedArgument τ))
      → map (λ (a : NamedArgument υ). a.value) (map (map_argument f) args)
      ≡ map (map_value f) (map (λ (a : NamedArgument τ). a.value) args)
  named_same [] = refl
  named_same (a ∷ args) = ap (λ xs. map_value f a.value ∷ xs) (named_same args)

  pub arguments_same : (i : Instantiation τ)
      → arguments_of (map_instantiation f i) ≡ map (map_value f) (arguments_of i)
  arguments_same (of_static n args) = refl
  arguments_same (of_host p args) = named_same args

  module _ (owned : List (Owned τ)) (c : ℕ) where
    of_mapped : (v : CoreValue τ) → IsOf owned c v → IsOf (map (map_owned f) owned) c (map_value f v)
    of_mapped v (of.item_is_of {n = n} m) =
        of.item_is_of (map_owned f m.0, slice_get-map (map_owned f) owned n ∙ ap (option_map (map_owned f)) m.1, m.2)
    of_mapped v (of.lowering_is_of {o = o} e) = of.lowering_is_of (instance_same o ∙ e)
    of_mapped v of.builtin_is_of = of.builtin_is_of
    of_mapped v of.intrinsic_is_of = of.intrinsic_is_of
    of_mapped v (of.adapter_is_of {lower = o} e) = of.adapter_is_of (instance_same o ∙ e)

    made_unmapped : (n : ℕ) (o : Option (Owned τ)) (x : Owned υ) → slice_get owned n ≡ o
        → option_map (map_owned f) o ≡ Some x → x.component_instance ≡ c → of.WasMadeFor owned n c
    made_unmapped n None x at is whose = absurd (none-some x is)
    made_unmapped n (Some o) x at is whose =
        (o, at, ap (λ (y : Owned υ). y.component_instance) (same_Some (map_owned f o) x is) ∙ whose)

    of_unmapped : (v : CoreValue τ) → IsOf (map (map_owned f) owned) c (map_value f v) → IsOf owned c v
    of_unmapped (exported n item) (of.item_is_of m) =
        of.item_is_of (made_unmapped n (slice_get owned n) m.0 refl
        (sym (slice_get-map (map_owned f) owned n) ∙ m.1) m.2)
    of_unmapped (lowered p ty o) (of.lowering_is_of e) = of.lowering_is_of (sym (instance_same o) ∙ e)
    of_unmapped (builtin k d ps) of.builtin_is_of = of.builtin_is_of
    of_unmapped (intrinsic n) of.intrinsic_is_of = of.intrinsic_is_of
    of_unmapped (adapter t lift u lower v) (of.adapter_is_of e) = of.adapter_is_of (sym (instance_same lower) ∙ e)
    of_unmapped (flags d) h = elim h [ ]
    of_unmapped (helper k ps) h = elim h [ ]

    -- several core values, both ways
    pub all_mapped : (vs : List (CoreValue τ)) → All (IsOf owned c) vs
        → All (IsOf (map (map_owned f) owned) c) (map (map_value f) vs)
    all_mapped vs h =
        All-map (IsOf (map (map_owned f) owned) c) (map_value f) vs
        (All-weaker (IsOf owned c) (λ v. IsOf (map (map_owned f) owned) c (map_value f v)) of_mapped vs h)

    pub all_unmapped : (vs : List (CoreValue τ)) → All (IsOf (map (map_owned f) owned) c) (map (map_value f) vs)
        → All (IsOf owned c) vs
    all_unmapped vs h =
        All-weaker (λ v. IsOf (map (map_owned f) owned) c (map_value f v)) (IsOf owned c) of_unmapped vs
        (all_unmap (IsOf (map (map_owned f) owned) c) (map_value f) vs h)
