-- What is known of the adapters of a graph that stands for a reading: the types, values and options of each are those
-- of the reading's adapter of its number.
use Rattle.std.proofs.Common.{◌≡◌, ◌<◌, ℕ, Bool, true, false, true≢false, ◌&&◌, ◌||◌, List, length, Option, None, Some}
use Rattle.std.proofs.Common.{refl, sym, ap, subst, ◌∙◌, arith}
use Rattle.std.specs.Prelude.{not, slice_get}
use Rattle.std.proofs.lemmas.Option.{none-some, slice_get_within}
use Rattle.pc_entity.proofs.LookupLemmas.{found_at}
use Rattle.pc_numbers.specs.declared.runtime.ResourceIndex.{ResourceIndex}
use Rattle.pc_types.specs.declared.type_index.TypeFuncIndex.{TypeFuncIndex}
use Rattle.pc_types.specs.declared.types.TypeDef.{TypeDef}
use Rattle.pc_types.specs.declared.types.TypeDef.TheVariants as type
use Rattle.pc_types.specs.TypeTree.{Identity, TypeTree, borrow_of, component_of, enum_of, error_context, flags_of}
use Rattle.pc_types.specs.TypeTree.{func_of, future_of, instance_of, list_of, module_of, no_trees, option_of, own_of}
use Rattle.pc_types.specs.TypeTree.{primitive, record_of, resource_of, result_of, stream_of, tuple_of, variant_of}
use Rattle.pc_types_lists.specs.declared.facts.TypeFacts.{TypeFacts}
use Rattle.pc_types_lists.specs.Trees.{HasTree}
use Rattle.pc_types_lists.specs.Types.{Types}
use Rattle.pc_types_lists.proofs.HeldLemmas.{func_number, is_a_func}
use Rattle.pc_spec_plan.specs.CoreValue as value
use Rattle.pc_spec_plan.specs.CoreValue.{CoreValue, DataModel, MaybeValue, Options, map_model, map_options, map_value}
use Rattle.pc_spec_plan.specs.Log.{Entry}
use Rattle.pc_trampoline.specs.declared.part.Mark.{Mark}
use Rattle.pc_trampoline.specs.declared.part.Mark.TheVariants as mark
use Rattle.pc_info.specs.Modules.{function_mark}
use Rattle.pc_parsed.specs.Mark as reading
use Rattle.pc_parsed.specs.Mark.{of_signature, of_type}
use Rattle.pc_dfg.specs.declared.adapter.Adapter.{Adapter}
use Rattle.pc_dfg.specs.declared.core_def.CoreDef.TheVariants as def
use Rattle.pc_dfg.specs.declared.dfg.ComponentDfg.{ComponentDfg}
use Rattle.pc_dfg.specs.Means.{Means}
use Rattle.pc_spec_adapt.specs.Asked.{FunctionFacts, function_facts, has_asked, has_options, in_memory, is_there}
use Rattle.pc_spec_adapt.specs.Asked.{model_of}
use Rattle.pc_spec_adapt.specs.Needs.{adapters_of}
use Rattle.pc_adapt.specs.Asked.{AreTyped, HoldTypes, adapter_has_options}
use Rattle.pc_adapt.proofs.PlannedLemmas.{Parts, asked_alike, parts_of}
use Rattle.pc_adapt_partition.specs.Facts.{HaveTrees}
use Rattle.pc_adapt_partition.specs.Wired.{HaveValues}
use Rattle.pc_inline_state.specs.Fits.{Fits}
use Rattle.pc_inline_state.specs.Holds.{Holds, Numbered, number_of, whole_of}
use Rattle.pc_inline_state.specs.Stands.{CoreStands}
use Rattle.pc_inline_state.specs.Worlds.{AdaptersStand}
use Rattle.pc_translate.specs.Adapters.{facts_in, is_complete, lift_facts, lower_facts}

-- whether a value is that of an adapter, and the marks of its types
abbrev is_adapter : {τ : Type 0} → CoreValue τ → Bool
is_adapter (value.adapter lift_type lift lower_type lower callee) = true
is_adapter v = false

abbrev lift_mark : {τ : Type 0} → (other : τ) → CoreValue τ → τ
lift_mark other (value.adapter lift_type lift lower_type lower callee) = lift_type
lift_mark other v = other

abbrev lower_mark : {τ : Type 0} → (other : τ) → CoreValue τ → τ
lower_mark other (value.adapter lift_type lift lower_type lower callee) = lower_type
lower_mark other v = other

-- the tree of a type, and that of something else, which is no function's
abbrev pub tree_in : reading.Mark → TypeTree
tree_in (of_type tree) = tree
tree_in (of_signature s) = tuple_of no_trees

-- the trees of the types of an adapter
abbrev pub lift_tree : CoreValue reading.Mark → TypeTree
lift_tree (value.adapter lift_type lift lower_type lower callee) = tree_in lift_type
lift_tree v = tuple_of no_trees

abbrev pub lower_tree : CoreValue reading.Mark → TypeTree
lower_tree (value.adapter lift_type lift lower_type lower callee) = tree_in lower_type
lower_tree v = tuple_of no_trees

-- their facts are those of the trees
facts_same : (m : reading.Mark) → function_facts (tree_in m) ≡ facts_in m
facts_same (of_type tree) = refl
facts_same (of_signature s) = refl

-- a value that may be left out, and whether it is there, with other marks
there_mapped : {τ υ : Type 0} (f : τ → υ) (v : MaybeValue τ) → is_there (value.map_maybe f v) ≡ is_there v
there_mapped f value.no_value = refl
there_mapped f (value.a_value v) = refl

asked_mapped : {τ υ : Type 0} (f : τ → υ) (taken given : TypeFacts) (m : DataModel τ)
    → has_asked taken given (map_model f m) ≡ has_asked taken given m
asked_mapped f taken given value.gc = refl
asked_mapped f taken given (value.linear memory realloc) =
    let first = there_mapped f memory in
    let second = there_mapped f realloc in
    λ i. (not (in_memory taken || in_memory given) || first i) && (not (in_memory taken) || second i)

model_mapped : {τ υ : Type 0} (f : τ → υ) (o : Options τ) → model_of (map_options f o) ≡ map_model f (model_of o)
model_mapped f (value.options c encoding is_async signature callback post_return model) = refl

side_mapped : {τ υ : Type 0} (f : τ → υ) (taken given : TypeFacts) (o : Options τ)
    → has_asked taken given (model_of (map_options f o)) ≡ has_asked taken given (model_of o)
side_mapped f taken given o = ap (has_asked taken given) (model_mapped f o) ∙ asked_mapped f taken given (model_of o)

-- which options an adapter has doesn't rest on its marks
options_mapped : {τ υ : Type 0} (f : τ → υ) (lift lower : FunctionFacts) (v : CoreValue τ)
    → has_options lift lower (map_value f v) ≡ has_options lift lower v
options_mapped f lift lower (value.adapter lift_type o lower_type p callee) =
    let first = side_mapped f lift.params lift.results o in
    let second = side_mapped f lower.results lower.params p in
    λ i. first i && second i
options_mapped f lift lower (value.exported n item) = refl
options_mapped f lift lower (value.lowered path ty o) = refl
options_mapped f lift lower (value.builtin k c parts) = refl
options_mapped f lift lower (value.intrinsic n) = refl
options_mapped f lift lower (value.flags c) = refl
options_mapped f lift lower (value.helper k parts) = refl

-- a function type that has a tree is held
func_held : (b : Types) (who : ResourceIndex → Identity) (i : TypeFuncIndex) (t : TypeTree)
    → HasTree b who (type.ComponentFunc i) t → i.0 < length b.funcs
func_held b who i (func_of params result is_async) h =
    subst (λ n. n < length b.funcs) (sym (ap func_number h.4)) (slice_get_within b.funcs h.0.0 h.1 h.5)
func_held b who i (primitive p) h = absurd (true≢false (ap is_a_func h.1))
func_held b who i (error_context c) h = absurd (true≢false (ap is_a_func h.1))
func_held b who i (record_of fs) h = absurd (true≢false (ap is_a_func h.2))
func_held b who i (variant_of cs) h = absurd (true≢false (ap is_a_func h.2))
func_held b who i (list_of t) h = absurd (true≢false (ap is_a_func h.2))
func_held b who i (tuple_of ts) h = absurd (true≢false (ap is_a_func h.2))
func_held b who i (flags_of names) h = absurd (true≢false (ap is_a_func h.1))
func_held b who i (enum_of names) h = absurd (true≢false (ap is_a_func h.1))
func_held b who i (option_of t) h = absurd (true≢false (ap is_a_func h.2))
func_held b who i (result_of ok err) h = absurd (true≢false (ap is_a_func h.2))
func_held b who i (own_of r) h = absurd (true≢false (ap is_a_func h.1))
func_held b who i (borrow_of r) h = absurd (true≢false (ap is_a_func h.1))
func_held b who i (stream_of t c) h = absurd (true≢false (ap is_a_func h.2))
func_held b who i (future_of t c) h = absurd (true≢false (ap is_a_func h.2))
func_held b who i (instance_of exports) h = absurd (true≢false (ap is_a_func h.2))
func_held b who i (component_of imports exports) h = absurd (true≢false (ap is_a_func h.2))
func_held b who i (module_of imports exports) h = absurd (true≢false (ap is_a_func h.2))
func_held b who i (resource_of r) h = absurd (true≢false (ap is_a_func h.1))

module _ (types : Types) (g : ComponentDfg) where
  abbrev Twice : Type 0
  Twice = Numbered types (Fits g)

  abbrev numbers : Twice → Mark
  numbers = number_of types (Fits g)

  abbrev wholes : Twice → reading.Mark
  wholes = whole_of types (Fits g)

  -- what is known of an adapter that stands for a value
  pub record IsAs (x : Adapter) (v : CoreValue reading.Mark) : Type 0 where
    pub lift_held : (who : ResourceIndex → Identity) → Fits g who
        → HasTree types who (type.ComponentFunc x.lift_ty) (lift_tree v)
    pub lower_held : (who : ResourceIndex → Identity) → Fits g who
        → HasTree types who (type.ComponentFunc x.lower_ty) (lower_tree v)
    -- the facts of its types are those of the trees
    pub lift_is : function_facts (lift_tree v) ≡ lift_facts v
    pub lower_is : function_facts (lower_tree v) ≡ lower_facts v
    -- it has the options that its types ask for exactly where the value has
    pub asked : adapter_has_options (function_facts (lift_tree v)) (function_facts (lower_tree v)) x ≡ is_complete v

  -- a type that is held under a number
  tree_held : (d : TypeDef) (m : reading.Mark) → Holds types (Fits g) (mark.Type_ d) m
      → (who : ResourceIndex → Identity) → Fits g who → HasTree types who d (tree_in m)
  unfolding Holds
  tree_held d (of_type tree) h who fits = h who fits
  tree_held d (of_signature s) h who fits = absurd h

  mark_held : (m : Twice) (ty : TypeFuncIndex) → m.number ≡ function_mark ty → (who : ResourceIndex → Identity)
      → Fits g who → HasTree types who (type.ComponentFunc ty) (tree_in m.whole)
  mark_held m ty is =
      tree_held (type.ComponentFunc ty) m.whole (subst (λ n. Holds types (Fits g) n m.whole) is m.holds)

  module _ (a : ℕ) (x : Adapter) (at : slice_get g.adapters a ≡ Some x) where
    by_value : (n : CoreValue Twice) → Means g (def.Adapter (record { 0 = a })) (map_value numbers n)
        → Parts g x (map_value numbers n) → IsAs x (map_value wholes n)
    by_value (value.adapter lift_type lift lower_type lower callee) means parts =
        let n = value.adapter lift_type lift lower_type lower callee in
        let v = map_value wholes n in
        let first = ap (lift_mark (numbers lift_type)) parts.is in
        let second = ap (lower_mark (numbers lower_type)) parts.is in
        let facts = function_facts (tree_in lift_type.whole) in
        let others = function_facts (tree_in lower_type.whole) in
        let one = facts_same lift_type.whole in
        let two = facts_same lower_type.whole in
        record {
          lift_held = mark_held lift_type x.lift_ty first;
          lower_held = mark_held lower_type x.lower_ty second;
          lift_is = one;
          lower_is = two;
          asked = asked_alike g (record { 0 = a }) x (map_value numbers n) facts others at means
              ∙ options_mapped numbers facts others n
              ∙ sym (options_mapped wholes facts others n)
              ∙ (λ i. has_options (one i) (two i) v);
        }
    by_value (value.exported n item) means parts = absurd (true≢false (sym (ap is_adapter parts.is)))
    by_value (value.lowered path ty o) means parts = absurd (true≢false (sym (ap is_adapter parts.is)))
    by_value (value.builtin k c ps) means parts = absurd (true≢false (sym (ap is_adapter parts.is)))
    by_value (value.intrinsic n) means parts = absurd (true≢false (sym (ap is_adapter parts.is)))
    by_value (value.flags c) means parts = absurd (true≢false (sym (ap is_adapter parts.is)))
    by_value (value.helper k ps) means parts = absurd (true≢false (sym (ap is_adapter parts.is)))

    pub stands_as : (v : CoreValue reading.Mark) → CoreStands types g (def.Adapter (record { 0 = a })) v → IsAs x v
    stands_as v s =
        subst (IsAs x) s.is (by_value s.numbered s.means (parts_of g (record { 0 = a }) x at s.means refl))

  -- where a log makes the adapters of the graph
  module _ (log : List (Entry reading.Mark)) (stand : AdaptersStand types g log) where
    -- the trees of the types of the adapter of a number
    abbrev pub lift_tree_of : Option (CoreValue reading.Mark) → TypeTree
    lift_tree_of (Some v) = lift_tree v
    lift_tree_of None = tuple_of no_trees

    abbrev pub lower_tree_of : Option (CoreValue reading.Mark) → TypeTree
    lower_tree_of (Some v) = lower_tree v
    lower_tree_of None = tuple_of no_trees

    abbrev pub lift_trees : ℕ → TypeTree
    lift_trees a = lift_tree_of (slice_get (adapters_of log) a)

    abbrev pub lower_trees : ℕ → TypeTree
    lower_trees a = lower_tree_of (slice_get (adapters_of log) a)

    -- the reading's adapter of a number, and the graph's
    pub read_at : (a : ℕ) → a < length g.adapters
        → (v : CoreValue reading.Mark) × (slice_get (adapters_of log) a ≡ Some v)
    read_at a below = let same = stand.as_many in found_at (adapters_of log) a (omega (arith, below, same))

    pub made_at : (a : ℕ) (v : CoreValue reading.Mark) → slice_get (adapters_of log) a ≡ Some v
        → (x : Adapter) × (slice_get g.adapters a ≡ Some x)
    made_at a v at =
        let same = stand.as_many in
        found_at g.adapters a (omega (arith, same, slice_get_within (adapters_of log) a v at))

    -- the one is as the other
    pub as_read : (a : ℕ) (x : Adapter) (v : CoreValue reading.Mark) → slice_get g.adapters a ≡ Some x
        → slice_get (adapters_of log) a ≡ Some v → IsAs x v
    as_read a x v at there = stands_as a x at v (stand.each a v there)

    -- the types of the adapters have these trees
    pub are_typed : (who : ResourceIndex → Identity) → Fits g who → AreTyped types who g lift_trees lower_trees
    are_typed who fits a x at =
        let found = read_at a (slice_get_within g.adapters a x at) in
        let alike = as_read a x found.0 at found.1 in
        record {
          lift_tree = subst (λ o. HasTree types who (type.ComponentFunc x.lift_ty) (lift_tree_of o)) (sym found.1)
              (alike.lift_held who fits);
          lower_tree = subst (λ o. HasTree types who (type.ComponentFunc x.lower_ty) (lower_tree_of o)) (sym found.1)
              (alike.lower_held who fits);
        }

    pub have_trees : (who : ResourceIndex → Identity) → Fits g who → HaveTrees types g
    have_trees who fits = record {
      who = who;
      lift = lift_trees;
      lower = lower_trees;
      typed = are_typed who fits;
    }

    -- so they are held
    pub hold_types : (who : ResourceIndex → Identity) → Fits g who → HoldTypes types g
    hold_types who fits a x at =
        let typed = are_typed who fits a x at in
        record {
          lift = func_held types who x.lift_ty (lift_trees a) typed.lift_tree;
          lower = func_held types who x.lower_ty (lower_trees a) typed.lower_tree;
        }

    -- and an adapter has the options that they ask for exactly where the reading's has
    pub asked_as_read : (a : ℕ) (x : Adapter) (v : CoreValue reading.Mark) → slice_get g.adapters a ≡ Some x
        → slice_get (adapters_of log) a ≡ Some v
        → adapter_has_options (function_facts (lift_trees a)) (function_facts (lower_trees a)) x ≡ is_complete v
    asked_as_read a x v at there =
        (λ i. adapter_has_options (function_facts (lift_tree_of (there i)))
        (function_facts (lower_tree_of (there i))) x)
        ∙ (as_read a x v at there).asked

    -- the value of the adapter of a number
    value_at : (a : ℕ) (o : Option (CoreValue reading.Mark)) → slice_get (adapters_of log) a ≡ o → CoreValue Mark
    value_at a (Some v) there = map_value numbers (stand.each a v there).numbered
    value_at a None there = value.flags 0

    pub values : ℕ → CoreValue Mark
    values a = value_at a (slice_get (adapters_of log) a) refl

    value_means : (a : ℕ) (o : Option (CoreValue reading.Mark)) (there : slice_get (adapters_of log) a ≡ o)
        → a < length g.adapters → Means g (def.Adapter (record { 0 = a })) (value_at a o there)
    unfolding value_at
    value_means a (Some v) there below = (stand.each a v there).means
    value_means a None there below =
        let found = read_at a below in absurd (none-some found.0 (sym there ∙ found.1))

    pub have_values : HaveValues g values
    unfolding values
    have_values a below = value_means a (slice_get (adapters_of log) a) refl below
