-- Adapters under their keys, and core items under the exports that they stand for: where `==` of keys answers true, the
-- two are one.
use Rattle.std.proofs.Common.{◌≡◌, ◌⊎◌, inl, inr, ℕ, zero, suc, Bool, true, false, List, [], ◌∷◌, None, Some, refl}
use Rattle.std.proofs.Common.{if◌then◌else◌, sym, ap, subst, ◌∙◌, true≢false}
use Rattle.std.specs.Prelude.{◌==◌, ◌&&◌, IfSome, Option, slice_get}
use Rattle.std.specs.Cmp.{booleans_Decides}
use Rattle.std.specs.Map.{lookup}
use Rattle.std.specs.Option.{option_eq}
use Rattle.std.proofs.lemmas.Option.{none-some, same_Some}
use mathlib.Core.Bool.{beq}
use Rattle.indexmap.specs.IndexMap.{insert_entry}
use Rattle.pc_entity.specs.Exact.{same_options}
use Rattle.pc_entity.proofs.Elements.{and_true}
use Rattle.pc_numbers.specs.contracts.entity_index.EntityIndexExactEq.TheImpl.Laws as exact_EntityIndex
use Rattle.pc_numbers.specs.contracts.entity_index.EntityIndexPartialEq.TheImpl as eq_EntityIndex
use Rattle.pc_types.specs.contracts.encoding.StringEncodingPartialEq.TheImpl as eq_StringEncoding
use Rattle.pc_types.specs.EqualWords.{encoding_exact}
use Rattle.pc_dfg.specs.Exact.{same_number}
use Rattle.pc_inline_state.specs.contracts.adapters.AdapterKeyPartialEq.TheImpl as eq_AdapterKey
use Rattle.pc_inline_state.specs.contracts.definition.CoreIdPartialEq.TheImpl as eq_CoreId
use Rattle.pc_inline_state.specs.contracts.definition.DataModelPartialEq.TheImpl as eq_DataModel
use Rattle.pc_inline_state.specs.contracts.definition.OptionsPartialEq.TheImpl as eq_Options
use Rattle.pc_inline_state.specs.contracts.entity_items.InstanceEntityPartialEq.TheImpl as eq_InstanceEntity
use Rattle.pc_inline_state.specs.contracts.host_items.HostExportPartialEq.TheImpl as eq_HostExport
use Rattle.pc_inline_state.specs.declared.adapters.AdapterKey.{AdapterKey}
use Rattle.pc_inline_state.specs.declared.definition.CoreId.{CoreId}
use Rattle.pc_inline_state.specs.declared.definition.DataModel.{DataModel}
use Rattle.pc_inline_state.specs.declared.definition.DataModel.TheVariants as model
use Rattle.pc_inline_state.specs.declared.definition.Options.{Options}
use Rattle.pc_inline_state.specs.declared.entity_items.InstanceEntity.{InstanceEntity}
use Rattle.pc_inline_state.specs.declared.host_items.HostExport.{HostExport}

-- `==` of numbers of core items is equality of values
core_exact : (a b : CoreId) → eq_CoreId.ghosts.eq a b ≡ true → a ≡ b
core_exact a b h = ap (λ n. record { 0 = n }) (same_number a.0 b.0 h)

-- `==` of data models is equality of values
model_exact : (a b : DataModel) → eq_DataModel.ghosts.eq a b ≡ true → a ≡ b
model_exact model.Gc model.Gc h = refl
model_exact (model.LinearMemory m r) (model.LinearMemory n s) h =
    let both = and_true (option_eq eq_CoreId.ghosts.eq m n) (option_eq eq_CoreId.ghosts.eq r s) h in
    let memory = same_options core_exact m n both.0 in
    let realloc = same_options core_exact r s both.1 in
    λ i. model.LinearMemory (memory i) (realloc i)
model_exact a b h = absurd (true≢false (sym h))

-- `==` of options is equality of values
options_exact : (a b : Options) → eq_Options.ghosts.eq a b ≡ true → a ≡ b
options_exact a b h =
    let same_model = eq_DataModel.ghosts.eq a.data_model b.data_model in
    let same_type = a.core_type.0 == b.core_type.0 in
    let same_async = beq a.async_ b.async_ in
    let same_post = option_eq eq_CoreId.ghosts.eq a.post_return b.post_return in
    let same_callback = option_eq eq_CoreId.ghosts.eq a.callback b.callback in
    let same_encoding = eq_StringEncoding.ghosts.eq a.string_encoding b.string_encoding in
    let first = and_true (a.instance.0 == b.instance.0)
    (same_encoding && (same_callback && (same_post && (same_async && (same_type && same_model))))) h in
    let second = and_true same_encoding (same_callback && (same_post && (same_async && (same_type && same_model))))
    first.1 in
    let third = and_true same_callback (same_post && (same_async && (same_type && same_model))) second.1 in
    let fourth = and_true same_post (same_async && (same_type && same_model)) third.1 in
    let fifth = and_true same_async (same_type && same_model) fourth.1 in
    let sixth = and_true same_type same_model fifth.1 in
    let instance = same_number a.instance.0 b.instance.0 first.0 in
    let encoding = encoding_exact a.string_encoding b.string_encoding second.0 in
    let callback = same_options core_exact a.callback b.callback third.0 in
    let post_return = same_options core_exact a.post_return b.post_return fourth.0 in
    let is_async = (booleans_Decides a.async_ b.async_).0 fifth.0 in
    let core_type = same_number a.core_type.0 b.core_type.0 sixth.0 in
    let model = model_exact a.data_model b.data_model sixth.1 in
    λ i. record {
      instance = record { 0 = instance i };
      string_encoding = encoding i;
      callback = callback i;
      post_return = post_return i;
      async_ = is_async i;
      core_type = record { 0 = core_type i };
      data_model = model i;
    }

-- `==` of keys is equality of values
pub key_exact : (a b : AdapterKey) → eq_AdapterKey.ghosts.eq a b ≡ true → a ≡ b
key_exact a b h =
    let same_lower = eq_Options.ghosts.eq a.lower b.lower in
    let same_lower_type = a.lower_ty.0 == b.lower_ty.0 in
    let same_lift = eq_Options.ghosts.eq a.lift b.lift in
    let same_func = a.func.0 == b.func.0 in
    let first = and_true (a.lift_ty.0 == b.lift_ty.0) (same_func && (same_lift && (same_lower_type && same_lower))) h in
    let second = and_true same_func (same_lift && (same_lower_type && same_lower)) first.1 in
    let third = and_true same_lift (same_lower_type && same_lower) second.1 in
    let fourth = and_true same_lower_type same_lower third.1 in
    let lift_type = same_number a.lift_ty.0 b.lift_ty.0 first.0 in
    let func = same_number a.func.0 b.func.0 second.0 in
    let lift = options_exact a.lift b.lift third.0 in
    let lower_type = same_number a.lower_ty.0 b.lower_ty.0 fourth.0 in
    let lower = options_exact a.lower b.lower fourth.1 in
    λ i. record {
      lift_ty = record { 0 = lift_type i };
      func = record { 0 = func i };
      lift = lift i;
      lower_ty = record { 0 = lower_type i };
      lower = lower i;
    }

-- `==` of exports of host modules is equality of values
pub export_exact : (a b : HostExport) → eq_HostExport.ghosts.eq a b ≡ true → a ≡ b
export_exact a b h =
    let first = and_true (a.instance.0 == b.instance.0) ((a.entry == b.entry) && (a.place == b.place)) h in
    let second = and_true (a.entry == b.entry) (a.place == b.place) first.1 in
    let instance = same_number a.instance.0 b.instance.0 first.0 in
    let entry = same_number a.entry b.entry second.0 in
    let place = same_number a.place b.place second.1 in
    λ i. record { instance = record { 0 = instance i }; entry = entry i; place = place i }

-- and so it is of entities of core instances
pub instance_entity_exact : (a b : InstanceEntity) → eq_InstanceEntity.ghosts.eq a b ≡ true → a ≡ b
instance_entity_exact a b h =
    let both = and_true (a.instance.0 == b.instance.0) (eq_EntityIndex.ghosts.eq a.entity b.entity) h in
    let instance = same_number a.instance.0 b.instance.0 both.0 in
    let entity = exact_EntityIndex.exact-law a.entity b.entity both.1 in
    λ i. record { instance = record { 0 = instance i }; entity = entity i }

-- an entry whose core item `==` finds to be another one has that other
pub entry_of : (es now : List (HostExport × CoreId)) → es ≡ now → (i : ℕ) (export : HostExport) (a b : CoreId)
    → Some (export, a) ≡ slice_get es i → eq_CoreId.ghosts.eq a b ≡ true
    → (n : ℕ) × (slice_get now n ≡ Some (export, b))
entry_of es now same i export a b at is = (
  i,
  ap (λ (l : List (HostExport × CoreId)). slice_get l i) (sym same) ∙ sym at
      ∙ ap (λ (id : CoreId). Some (export, id)) (core_exact a b is),
)

module _ {K V : Type 0} (eq : K → K → Bool) (exact : (a b : K) → eq a b ≡ true → a ≡ b) where
  -- what a look-up finds under a key stands among the entries
  found_under : (k : K) (es : List (K × V)) (v : V) → lookup (eq k) es ≡ Some v
      → (i : ℕ) × (slice_get es i ≡ Some (k, v))
  found_under k [] v is = absurd (none-some v is)
  found_under k (e ∷ es) v is = by (eq k e.0) refl (found_under k es v) is
    where
      by : (b : Bool) → eq k e.0 ≡ b → (lookup (eq k) es ≡ Some v → (i : ℕ) × (slice_get es i ≡ Some (k, v)))
          → (if b then Some e.1 else lookup (eq k) es) ≡ Some v → (i : ℕ) × (slice_get (e ∷ es) i ≡ Some (k, v))
      by true same rest is =
          let key = exact k e.0 same in
          let value = same_Some e.1 v is in
          (zero, λ j. Some (sym key j, value j))
      by false apart rest is = let found = rest is in (suc found.0, found.1)

  -- an entry after an insertion stood there before, or is what was inserted
  inserted_at : (k : K) (v : V) (es : List (K × V)) (i : ℕ) (e : K × V)
      → slice_get (insert_entry eq es k v) i ≡ Some e → (slice_get es i ≡ Some e) ⊎ (e ≡ (k, v))
  inserted_at k v [] zero e at = inr (sym (same_Some (k, v) e at))
  inserted_at k v [] (suc i) e at = absurd (none-some e at)
  inserted_at k v (x ∷ xs) zero e at = by (eq k x.0) refl at
    where
      by : (b : Bool) → eq k x.0 ≡ b
          → slice_get (if b then (x.0, v) ∷ xs else x ∷ insert_entry eq xs k v) zero ≡ Some e
          → (slice_get (x ∷ xs) zero ≡ Some e) ⊎ (e ≡ (k, v))
      by true same at =
          let key = exact k x.0 same in
          inr (sym (same_Some (x.0, v) e at) ∙ (λ j. (sym key j, v)))
      by false apart at = inl at
  inserted_at k v (x ∷ xs) (suc i) e at = by (eq k x.0) (inserted_at k v xs i e) at
    where
      by : (b : Bool) → (slice_get (insert_entry eq xs k v) i ≡ Some e → (slice_get xs i ≡ Some e) ⊎ (e ≡ (k, v)))
          → slice_get (if b then (x.0, v) ∷ xs else x ∷ insert_entry eq xs k v) (suc i) ≡ Some e
          → (slice_get (x ∷ xs) (suc i) ≡ Some e) ⊎ (e ≡ (k, v))
      by true rest at = inl at
      by false rest at = rest at

  -- so a value that is found stands under its key
  pub key_found : (es now : List (K × V)) → es ≡ now → (k : K) (o : Option V) → o ≡ lookup (eq k) es
      → IfSome o (λ v. (i : ℕ) × (slice_get now i ≡ Some (k, v)))
  key_found es now same k None is = tt
  key_found es now same k (Some v) is =
      subst (λ (l : List (K × V)). (i : ℕ) × (slice_get l i ≡ Some (k, v))) same (found_under k es v (sym is))

  -- and after a key is noted it stands there with its value, or stood there
  pub key_inserted : (es now after : List (K × V)) → es ≡ now → (k : K) (v : V) → after ≡ insert_entry eq es k v
      → (i : ℕ) (e : K × V) → slice_get after i ≡ Some e → (slice_get now i ≡ Some e) ⊎ (e ≡ (k, v))
  key_inserted es now after same k v is i e at =
      subst (λ (l : List (K × V)). (slice_get l i ≡ Some e) ⊎ (e ≡ (k, v))) same
      (inserted_at k v es i e (ap (λ (l : List (K × V)). slice_get l i) (sym is) ∙ at))
