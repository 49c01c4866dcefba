-- A module is instantiated one way exactly where the ways of the plan's modules say so.
use Rattle.std.proofs.Common.{◌≡◌, ℕ, Bool, true, false, List, [], ◌∷◌, inl, inr, Some, None, Option}
use Rattle.std.proofs.Common.{refl, sym, ap, subst, ◌∙◌, true≢false}
use Rattle.std.specs.Prelude.{slice_get, map, option_map, if◌then◌else◌, ◌==◌}
use Rattle.std.specs.List.{cons_option}
use Rattle.std.specs.List.{Contains, filter_map}
use Rattle.std.proofs.lemmas.Option.{none-some, same_Some, slice_get-map}
use Rattle.pc_numbers.specs.declared.entity_index.EntityIndex.{EntityIndex}
use Rattle.pc_types.specs.declared.intrinsic.UnsafeIntrinsic.{UnsafeIntrinsic}
use Rattle.pc_types.specs.declared.intrinsic.UnsafeIntrinsic.TheVariants as intrinsic
use Rattle.pc_types.specs.declared.module_record.ModuleRecord.{ModuleRecord}
use Rattle.pc_types.specs.IntrinsicType.{intrinsic_place}
use Rattle.pc_spec_plan.specs.CoreValue.{ExportedItem, by_name}
use Rattle.pc_spec_plan.specs.PlanView as plan
use Rattle.pc_info.specs.declared.core_def.CoreDef.{CoreDef}
use Rattle.pc_info.specs.declared.core_def.CoreDef.TheVariants as def
use Rattle.pc_info.specs.declared.core_def.ExportItem.{ExportItem}
use Rattle.pc_info.specs.declared.core_def.ExportItem.TheVariants as item
use Rattle.pc_info.specs.declared.initializer.GlobalInitializer.{GlobalInitializer}
use Rattle.pc_info.specs.declared.initializer.GlobalInitializer.TheVariants as init
use Rattle.pc_info.specs.declared.initializer.InstantiateModule.TheVariants as module_source
use Rattle.pc_info.specs.Definitions.{def_view, initializer_view, item_view}
use Rattle.pc_spec_wiring.specs.Known.{IsOneWay, arguments_in}
use Rattle.pc_dfg.specs.declared.instantiations.AbstractInstantiations.{AbstractInstantiations}
use Rattle.pc_dfg.specs.Instantiations as inst
use Rattle.pc_dfg.specs.Instantiations.{joined, known_of}
use Rattle.pc_analysis_imports.specs.Ways.{IsWay, given_in, given_to}
use Rattle.pc_analysis_imports.proofs.FoldLemmas.{contained, placed}
use Rattle.pc_analysis_imports.proofs.WaysLemmas.{none_inside}

-- an item is told by how it is known_of
items_tell : (a b : ExportItem EntityIndex) → item_view a ≡ item_view b → a ≡ b
items_tell (item.Index a) (item.Index b) h = let one : a ≡ b = cc in ap item.Index one
items_tell (item.Name a) (item.Name b) h = let one : a ≡ b = cc in ap item.Name one
items_tell a b h = cc

-- the intrinsics in order
intrinsics : List UnsafeIntrinsic
intrinsics =
    intrinsic.StoreDataAddress ∷ intrinsic.U8NativeLoad ∷ intrinsic.U8NativeStore ∷ intrinsic.U16NativeLoad
    ∷ intrinsic.U16NativeStore ∷ intrinsic.U32NativeLoad ∷ intrinsic.U32NativeStore ∷ intrinsic.U64NativeLoad
    ∷ intrinsic.U64NativeStore ∷ intrinsic.U8CheckedNativeLoad ∷ intrinsic.U8CheckedNativeStore
    ∷ intrinsic.U16CheckedNativeLoad ∷ intrinsic.U16CheckedNativeStore ∷ intrinsic.U32CheckedNativeLoad
    ∷ intrinsic.U32CheckedNativeStore ∷ intrinsic.U64CheckedNativeLoad ∷ intrinsic.U64CheckedNativeStore
    ∷ intrinsic.ContextGetI32_0 ∷ intrinsic.ContextSetI32_0 ∷ intrinsic.ContextGetI32_1 ∷ intrinsic.ContextSetI32_1
    ∷ []

at_its_place : (i : UnsafeIntrinsic) → slice_get intrinsics (intrinsic_place i) ≡ Some i
unfolding intrinsics
at_its_place intrinsic.StoreDataAddress = refl
at_its_place i = refl

-- an intrinsic is told by its place
intrinsic_tells : (i j : UnsafeIntrinsic) → intrinsic_place i ≡ intrinsic_place j → i ≡ j
intrinsic_tells i j h = same_Some i j (sym (at_its_place i) ∙ ap (slice_get intrinsics) h ∙ at_its_place j)

abbrev instance_in : plan.Definition → ℕ
instance_in (plan.export r i) = r
instance_in d = 0

abbrev item_of : plan.Definition → ExportedItem
item_of (plan.export r i) = i
item_of d = by_name []

abbrev number_of : plan.Definition → ℕ
number_of (plan.export r i) = r
number_of (plan.flags c) = c
number_of (plan.trampoline t) = t
number_of (plan.intrinsic i) = i

-- a definition is told by how it is known_of
pub defs_tell : (a b : CoreDef) → def_view a ≡ def_view b → a ≡ b
defs_tell (def.Export e) (def.Export f) h =
    let one = items_tell e.item f.item (ap item_of h) in
    let made = ap instance_in h in
    λ z. def.Export (record { instance = record { 0 = made z }; item = one z })
defs_tell (def.InstanceFlags c) (def.InstanceFlags d) h =
    let made = ap number_of h in λ z. def.InstanceFlags (record { 0 = made z })
defs_tell (def.Trampoline c) (def.Trampoline d) h =
    let made = ap number_of h in λ z. def.Trampoline (record { 0 = made z })
defs_tell (def.UnsafeIntrinsic i) (def.UnsafeIntrinsic j) h =
    ap def.UnsafeIntrinsic (intrinsic_tells i j (ap number_of h))
defs_tell a b h = cc

-- lists are told likewise
abbrev head_in : List plan.Definition → plan.Definition
head_in [] = plan.flags 0
head_in (d ∷ ds) = d

abbrev tail_in : List plan.Definition → List plan.Definition
tail_in [] = []
tail_in (d ∷ ds) = ds

abbrev has_one : List plan.Definition → Bool
has_one [] = false
has_one (d ∷ ds) = true

pub lists_tell : (as_ bs : List CoreDef) → map def_view as_ ≡ map def_view bs → as_ ≡ bs
lists_tell [] [] h = refl
lists_tell [] (b ∷ bs) h = absurd (true≢false (sym (ap has_one h)))
lists_tell (a ∷ as_) [] h = absurd (true≢false (ap has_one h))
lists_tell (a ∷ as_) (b ∷ bs) h =
    let first = defs_tell a b (ap head_in h) in
    let rest = lists_tell as_ bs (ap tail_in h) in
    λ z. first z ∷ rest z

-- what is contained in a mapped list comes from something in the list
pub from_mapped : {A B : Type 0} (f : A → B) (xs : List A) (y : B) → Contains (map f xs) y
    → (x : A) × Contains xs x × (f x ≡ y)
from_mapped {A} f xs y inside =
    let at = placed (map f xs) y inside in
    by (slice_get xs at.0) refl (sym (slice_get-map f xs at.0) ∙ at.1)
  where
    by : (o : Option A) → slice_get xs (placed (map f xs) y inside).0 ≡ o → option_map f o ≡ Some y
        → (x : A) × Contains xs x × (f x ≡ y)
    by None at h = absurd (none-some y h)
    by (Some x) at h = (x, contained xs (placed (map f xs) y inside).0 x at, same_Some (f x) y h)

pub into_mapped : {A B : Type 0} (f : A → B) (xs : List A) (x : A) → Contains xs x → Contains (map f xs) (f x)
into_mapped f xs x inside =
    let at = placed xs x inside in
    contained (map f xs) at.0 (f x) (slice_get-map f xs at.0 ∙ ap (option_map f) at.1)

-- the arguments of a module in the steps of a plan are what it is given
arguments_seen : (m : ℕ) (x : GlobalInitializer)
    → arguments_in m (initializer_view x) ≡ option_map (map def_view) (given_in m x)
arguments_seen m (init.InstantiateModule (module_source.Static n args) c) = by (n.0 == m)
  where
    by : (b : Bool) → (if b then Some (map def_view args) else None)
        ≡ option_map (map def_view) (if b then Some args else None)
    by true = refl
    by false = refl
arguments_seen m (init.InstantiateModule (module_source.Import r args) c) = refl
arguments_seen m (init.LowerImport n r) = refl
arguments_seen m (init.ExtractMemory e) = refl
arguments_seen m (init.ExtractRealloc e) = refl
arguments_seen m (init.ExtractCallback e) = refl
arguments_seen m (init.ExtractPostReturn e) = refl
arguments_seen m (init.ExtractTable e) = refl
arguments_seen m (init.Resource r) = refl

pub arguments_given : (m : ℕ) (inits : List GlobalInitializer)
    → filter_map (arguments_in m) (map initializer_view inits) ≡ map (map def_view) (given_to m inits)
arguments_given m [] = refl
arguments_given m (x ∷ xs) =
    ap (λ o. cons_option o (filter_map (arguments_in m) (map initializer_view xs))) (arguments_seen m x)
    ∙ by (arguments_given m xs) (given_in m x)
  where
    by : filter_map (arguments_in m) (map initializer_view xs) ≡ map (map def_view) (given_to m xs)
        → (o : Option (List CoreDef))
        → cons_option (option_map (map def_view) o) (filter_map (arguments_in m) (map initializer_view xs))
        ≡ map (map def_view) (cons_option o (given_to m xs))
    by rest None = rest
    by rest (Some args) = ap (λ l. map def_view args ∷ l) rest

module _ (records : List ModuleRecord) (inits : List GlobalInitializer) (is_exported : ℕ → Bool) (m : ℕ)
    (w : AbstractInstantiations) (is : IsWay (is_exported m) (given_to m inits) (known_of w)) where
  abbrev OneWay : List plan.Definition → Type 0
  OneWay = IsOneWay records (map initializer_view inits) is_exported m

  into_arguments : (args : List CoreDef) → Contains (given_to m inits) args
      → Contains (filter_map (arguments_in m) (map initializer_view inits)) (map def_view args)
  into_arguments args inside =
      subst (λ l. Contains l (map def_view args)) (sym (arguments_given m inits))
      (into_mapped (map def_view) (given_to m inits) args inside)

  from_arguments : (args : List plan.Definition)
      → Contains (filter_map (arguments_in m) (map initializer_view inits)) args
      → (a : List CoreDef) × Contains (given_to m inits) a × (map def_view a ≡ args)
  from_arguments args inside =
      from_mapped (map def_view) (given_to m inits) args (subst (λ l. Contains l args) (arguments_given m inits) inside)

  -- one way, as is found
  pub one_if_found : (args : List CoreDef) → known_of w ≡ inst.one args → OneWay (map def_view args)
  one_if_found args found =
      let told = subst (IsWay (is_exported m) (given_to m inits)) found is in
      record {
        given = into_arguments args told.1;
        only = λ others inside.
            let from = from_arguments others inside in
            sym from.2 ∙ ap (map def_view) (told.2 from.0 from.1);
        kept = told.0;
      }

  -- one way, as is found if it is
  pub found_if_one : (args : List plan.Definition) → OneWay args
      → (a : List CoreDef) × (known_of w ≡ inst.one a) × (map def_view a ≡ args)
  found_if_one args one = by (known_of w) refl is
    where
      by : (v : inst.Known) → known_of w ≡ v → IsWay (is_exported m) (given_to m inits) v
          → (a : List CoreDef) × (known_of w ≡ inst.one a) × (map def_view a ≡ args)
      by inst.none same told =
          let from = from_arguments args one.given in
          absurd (none_inside from.0 (subst (λ l. Contains l from.0) told.1 from.1))
      by (inst.one a) same told = (a, same, one.only (map def_view a) (into_arguments a told.1))
      by inst.many same (inl out) = absurd (true≢false (sym out ∙ one.kept))
      by inst.many same (inr two) =
          absurd (two.4 (lists_tell two.0 two.1
          (one.only (map def_view two.0) (into_arguments two.0 two.2)
          ∙ sym (one.only (map def_view two.1) (into_arguments two.1 two.3)))))
