-- How modules are instantiated, in the plan's words.
use Rattle.std.proofs.Common.{◌≡◌, ◌+◌, ℕ, Bool, true, false, List, [], ◌∷◌, ◌++◌, inl, inr}
use Rattle.std.proofs.Common.{length, Some, None, refl, sym, ap, subst, ◌∙◌, arith, take, true≢false}
use Rattle.std.specs.Prelude.{slice_get, ◌||◌, if◌then◌else◌}
use Rattle.std.specs.List.{cons_option}
use Rattle.std.specs.List.{Contains, filter_map, list_any}
use Rattle.std.proofs.lemmas.Bool.Decides.{eqb_tells}
use Rattle.std.proofs.lemmas.List.{append-nil, take_all}
use Rattle.std.proofs.lemmas.List.Elements.{Contains-push, Contains-push_cases, filter_map-append, Contains-append_left}
use Rattle.std.proofs.lemmas.List.Folds.{list_any-append}
use Rattle.std.proofs.lemmas.Option.{none-some, same_Some, slice_get_within}
use Rattle.std.proofs.Common.{◌≤◌}
use Rattle.std.specs.Cmp.{IsEquivalence}
use Rattle.std.specs.Cmp.Lexicographic.{pointwise}
use Rattle.std.proofs.lemmas.Cmp.{lists_equiv}
use Rattle.pc_entity.specs.Exact.{same_lists}
use Rattle.pc_info.specs.contracts.core_def.CoreDefEq.TheImpl.Laws as laws_of_defs
use Rattle.pc_info.specs.contracts.core_def.CoreDefExactEq.TheImpl.Laws as exact_defs
use Rattle.pc_info.specs.contracts.core_def.CoreDefPartialEq.TheImpl as eq_CoreDef
use Rattle.std.specs.Prelude.{slice_set}
use Rattle.std.proofs.lemmas.List.{length-set}
use Rattle.pc_entity.proofs.Growing.{slice_get-set_other, slice_get-set_same, take-next}
use Rattle.pc_info.specs.declared.core_def.CoreDef.{CoreDef}
use Rattle.pc_info.specs.declared.export.Export.{Export}
use Rattle.pc_info.specs.declared.export.Export.TheVariants as export
use Rattle.pc_info.specs.declared.initializer.GlobalInitializer.{GlobalInitializer}
use Rattle.pc_info.specs.declared.initializer.GlobalInitializer.TheVariants as init
use Rattle.pc_info.specs.declared.initializer.InstantiateModule.TheVariants as module_source
use Rattle.pc_dfg.specs.declared.instantiations.AbstractInstantiations.{AbstractInstantiations}
use Rattle.pc_analysis_imports.specs.Exported.{is_exported_in, is_module}
use Rattle.pc_dfg.specs.Instantiations as inst
use Rattle.pc_dfg.specs.Instantiations.{joined, known_of}
use Rattle.pc_analysis_imports.specs.Ways.{AreWays, IsWay, JoinsExport, JoinsStep, TakesIn, given_in, given_to}
use Rattle.pc_analysis_imports.proofs.FoldLemmas.{placed}

-- nothing is contained in an empty list
pub none_inside : {A : Type 0} (x : A) → Contains [] x → ⊥
none_inside x inside = none-some x (placed [] x inside).1

-- lists of arguments that compare equal are equal, and the other way round
lists_equal : IsEquivalence (pointwise eq_CoreDef.ghosts.eq)
lists_equal = lists_equiv laws_of_defs.laws-law

-- a way that takes in one more
one_more : (exported : Bool) (given : List (List CoreDef)) (args : List CoreDef) (v w : inst.Known)
    → IsWay exported given v → w ≡ joined v (inst.one args) → IsWay exported (given ++ args ∷ []) w
one_more exported given args inst.none w is joins =
    subst (IsWay exported (given ++ args ∷ [])) (sym joins)
    (is.0, Contains-push given args, λ others inside. only others inside)
  where
    only : (others : List CoreDef) → Contains (given ++ args ∷ []) others → others ≡ args
    only others inside =
        elim (Contains-push_cases given args others inside) [
          | inl old ↦ absurd (none_inside others (subst (λ l. Contains l others) is.1 old))
          | inr new ↦ sym new
        ]
one_more exported given args inst.many w is joins =
    subst (IsWay exported (given ++ args ∷ [])) (sym joins) (many is)
  where
    many : IsWay exported given inst.many → IsWay exported (given ++ args ∷ []) inst.many
    many (inl out) = inl out
    many (inr two) =
        inr (
          two.0,
          two.1,
          Contains-append_left given (args ∷ []) two.0 two.2,
          Contains-append_left given (args ∷ []) two.1 two.3,
          two.4,
        )
one_more exported given args (inst.one before) w is joins =
    subst (IsWay exported (given ++ args ∷ [])) (sym joins) (by (pointwise eq_CoreDef.ghosts.eq before args) refl)
  where
    only : before ≡ args → (others : List CoreDef) → Contains (given ++ args ∷ []) others → others ≡ before
    only same others inside =
        elim (Contains-push_cases given args others inside) [
          | inl old ↦ is.2 others old
          | inr new ↦ sym new ∙ sym same
        ]

    by : (b : Bool) → pointwise eq_CoreDef.ghosts.eq before args ≡ b
        → IsWay exported (given ++ args ∷ []) (if b then inst.one before else inst.many)
    by true equal =
        let same = same_lists exact_defs.exact-law before args equal in
        (is.0, Contains-append_left given (args ∷ []) before is.1, λ others inside. only same others inside)
    by false other =
        inr (
          before,
          args,
          Contains-append_left given (args ∷ []) before is.1,
          Contains-push given args,
          λ same.
              true≢false (sym (lists_equal.refl before) ∙ ap (pointwise eq_CoreDef.ghosts.eq before) same ∙ other),
        )

-- a way that takes in many
many_more : (given : List (List CoreDef)) (v w : inst.Known) → w ≡ joined v inst.many → IsWay true given w
many_more given inst.none w joins = subst (IsWay true given) (sym joins) (inl refl)
many_more given inst.many w joins = subst (IsWay true given) (sym joins) (inl refl)
many_more given (inst.one args) w joins = subst (IsWay true given) (sym joins) (inl refl)

given_next : (m : ℕ) (inits : List GlobalInitializer) (i : ℕ) (x : GlobalInitializer) → slice_get inits i ≡ Some x
    → given_to m (take (i + 1) inits) ≡ given_to m (take i inits) ++ filter_map (given_in m) (x ∷ [])
given_next m inits i x at =
    ap (given_to m) (take-next inits i x at) ∙ filter_map-append (given_in m) (take i inits) (x ∷ [])

given_here : (m : ℕ) (x : GlobalInitializer) (args : List CoreDef) → given_in m x ≡ Some args
    → filter_map (given_in m) (x ∷ []) ≡ args ∷ []
given_here m x args is = ap (λ o. cons_option o []) is

given_none : (m : ℕ) (x : GlobalInitializer) → given_in m x ≡ None → filter_map (given_in m) (x ∷ []) ≡ []
given_none m x is = ap (λ o. cons_option o []) is

-- a step that gives a module nothing leaves what it is given
stays : (m : ℕ) (inits : List GlobalInitializer) (i : ℕ) (x : GlobalInitializer) → slice_get inits i ≡ Some x
    → given_in m x ≡ None → given_to m (take (i + 1) inits) ≡ given_to m (take i inits)
stays m inits i x at none =
    given_next m inits i x at ∙ ap (λ l. given_to m (take i inits) ++ l) (given_none m x none)
    ∙ append-nil (given_to m (take i inits))

-- one step more
pub ways_step : (inits : List GlobalInitializer) (i : ℕ) (x : GlobalInitializer)
    (before after : List AbstractInstantiations) → slice_get inits i ≡ Some x
    → AreWays (λ m. false) (take i inits) before → JoinsStep x before after
    → AreWays (λ m. false) (take (i + 1) inits) after
ways_step inits i (init.InstantiateModule (module_source.Static n args) c) before after at ways joins m w there =
    elim (eqb_tells n.0 m) [
      | inl hit ↦
          let here = joins.2.here w (ap (slice_get after) hit.1 ∙ there) in
          let x : GlobalInitializer = init.InstantiateModule (module_source.Static n args) c in
          let gives : given_to m (take (i + 1) inits) ≡ given_to m (take i inits) ++ args ∷ [] =
          given_next m inits i x at
          ∙ ap (λ l. given_to m (take i inits) ++ l)
          (given_here m x args (ap (λ b. if b then Some args else None) hit.0)) in
          subst (λ l. IsWay false l (known_of w)) (sym gives)
          (one_more false (given_to m (take i inits)) args (known_of here.0) (known_of w)
          (ways m here.0 (ap (slice_get before) (sym hit.1) ∙ here.1))
          (here.2 ∙ ap (joined (known_of here.0)) joins.1))
      | inr miss ↦
          let x : GlobalInitializer = init.InstantiateModule (module_source.Static n args) c in
          subst (λ l. IsWay false l (known_of w))
          (sym (stays m inits i x at (ap (λ b. if b then Some args else None) miss.0)))
          (ways m w (sym (joins.2.elsewhere m (λ e. miss.1 (sym e))) ∙ there))
    ]
ways_step inits i (init.InstantiateModule (module_source.Import r args) c) before after at ways joins m w there =
    subst (λ l. IsWay false l (known_of w)) (sym (stays m inits i _ at refl))
    (ways m w (sym (ap (λ l. slice_get l m) joins) ∙ there))
ways_step inits i (init.LowerImport n r) before after at ways joins m w there =
    subst (λ l. IsWay false l (known_of w)) (sym (stays m inits i _ at refl))
    (ways m w (sym (ap (λ l. slice_get l m) joins) ∙ there))
ways_step inits i (init.ExtractMemory e) before after at ways joins m w there =
    subst (λ l. IsWay false l (known_of w)) (sym (stays m inits i _ at refl))
    (ways m w (sym (ap (λ l. slice_get l m) joins) ∙ there))
ways_step inits i (init.ExtractRealloc e) before after at ways joins m w there =
    subst (λ l. IsWay false l (known_of w)) (sym (stays m inits i _ at refl))
    (ways m w (sym (ap (λ l. slice_get l m) joins) ∙ there))
ways_step inits i (init.ExtractCallback e) before after at ways joins m w there =
    subst (λ l. IsWay false l (known_of w)) (sym (stays m inits i _ at refl))
    (ways m w (sym (ap (λ l. slice_get l m) joins) ∙ there))
ways_step inits i (init.ExtractPostReturn e) before after at ways joins m w there =
    subst (λ l. IsWay false l (known_of w)) (sym (stays m inits i _ at refl))
    (ways m w (sym (ap (λ l. slice_get l m) joins) ∙ there))
ways_step inits i (init.ExtractTable e) before after at ways joins m w there =
    subst (λ l. IsWay false l (known_of w)) (sym (stays m inits i _ at refl))
    (ways m w (sym (ap (λ l. slice_get l m) joins) ∙ there))
ways_step inits i (init.Resource r) before after at ways joins m w there =
    subst (λ l. IsWay false l (known_of w)) (sym (stays m inits i _ at refl))
    (ways m w (sym (ap (λ l. slice_get l m) joins) ∙ there))

-- the ways that are told without exports are told with none
pub ways_without : (inits : List GlobalInitializer) (ways : List AbstractInstantiations)
    → AreWays (λ m. false) inits ways → AreWays (is_exported_in []) inits ways
unfolding is_exported_in
ways_without inits ways are m w at = are m w at

or_right : (a : Bool) → (a || false) ≡ a
or_right true = refl
or_right false = refl

or_true : (a : Bool) → (a || true) ≡ true
or_true true = refl
or_true false = refl

exported_next : (items : List Export) (i : ℕ) (e : Export) (m : ℕ) → slice_get items i ≡ Some e
    → is_exported_in (take (i + 1) items) m ≡ (is_exported_in (take i items) m || (is_module m e || false))
unfolding is_exported_in
exported_next items i e m at =
    ap (list_any (is_module m)) (take-next items i e at) ∙ list_any-append (is_module m) (take i items) (e ∷ [])

-- an item that isn't the module leaves whether it is exported
not_exported : (items : List Export) (i : ℕ) (e : Export) (m : ℕ) → slice_get items i ≡ Some e
    → is_module m e ≡ false → is_exported_in (take (i + 1) items) m ≡ is_exported_in (take i items) m
not_exported items i e m at miss =
    exported_next items i e m at ∙ ap (λ b. is_exported_in (take i items) m || (b || false)) miss
    ∙ or_right (is_exported_in (take i items) m)

now_exported : (items : List Export) (i : ℕ) (e : Export) (m : ℕ) → slice_get items i ≡ Some e
    → is_module m e ≡ true → is_exported_in (take (i + 1) items) m ≡ true
now_exported items i e m at hit =
    exported_next items i e m at ∙ ap (λ b. is_exported_in (take i items) m || (b || false)) hit
    ∙ or_true (is_exported_in (take i items) m)

-- one export item more
pub ways_export : (inits : List GlobalInitializer) (items : List Export) (i : ℕ) (e : Export)
    (before after : List AbstractInstantiations) → slice_get items i ≡ Some e
    → AreWays (is_exported_in (take i items)) inits before → JoinsExport e before after
    → AreWays (is_exported_in (take (i + 1) items)) inits after
ways_export inits items i (export.ModuleStatic ty n) before after at ways joins m w there =
    elim (eqb_tells n.0 m) [
      | inl hit ↦
          let here = joins.here w (ap (slice_get after) hit.1 ∙ there) in
          subst (λ b. IsWay b (given_to m inits) (known_of w)) (sym (now_exported items i (export.ModuleStatic ty n) m at hit.0))
          (many_more (given_to m inits) (known_of here.0) (known_of w) here.2)
      | inr miss ↦
          subst (λ b. IsWay b (given_to m inits) (known_of w)) (sym (not_exported items i (export.ModuleStatic ty n) m at miss.0))
          (ways m w (sym (joins.elsewhere m (λ e. miss.1 (sym e))) ∙ there))
    ]
ways_export inits items i (export.LiftedFunction ty f o) before after at ways joins m w there =
    subst (λ b. IsWay b (given_to m inits) (known_of w)) (sym (not_exported items i _ m at refl))
    (ways m w (sym (ap (λ l. slice_get l m) joins) ∙ there))
ways_export inits items i (export.ImportedFunction ty r) before after at ways joins m w there =
    subst (λ b. IsWay b (given_to m inits) (known_of w)) (sym (not_exported items i _ m at refl))
    (ways m w (sym (ap (λ l. slice_get l m) joins) ∙ there))
ways_export inits items i (export.ModuleImport ty r) before after at ways joins m w there =
    subst (λ b. IsWay b (given_to m inits) (known_of w)) (sym (not_exported items i _ m at refl))
    (ways m w (sym (ap (λ l. slice_get l m) joins) ∙ there))
ways_export inits items i (export.Instance ty es) before after at ways joins m w there =
    subst (λ b. IsWay b (given_to m inits) (known_of w)) (sym (not_exported items i _ m at refl))
    (ways m w (sym (ap (λ l. slice_get l m) joins) ∙ there))
ways_export inits items i (export.Type_ ty) before after at ways joins m w there =
    subst (λ b. IsWay b (given_to m inits) (known_of w)) (sym (not_exported items i _ m at refl))
    (ways m w (sym (ap (λ l. slice_get l m) joins) ∙ there))

-- one way takes in another
pub takes_in : (m : ℕ) (added : AbstractInstantiations) (before : List AbstractInstantiations)
    (v w : AbstractInstantiations) → slice_get before m ≡ Some v → known_of w ≡ joined (known_of v) (known_of added)
    → TakesIn m added before (slice_set before m w)
takes_in m added before v w at joins = record {
  count = length-set before m w;
  here = λ u there.
      let same : w ≡ u =
      same_Some w u (sym (slice_get-set_same before m w (slice_get_within before m v at)) ∙ there) in
      (v, at, ap known_of (sym same) ∙ joins);
  elsewhere = λ n apart. slice_get-set_other before m n w apart;
}

-- a module that isn't there takes in nothing
pub takes_none : (m : ℕ) (added : AbstractInstantiations) (before : List AbstractInstantiations)
    → length before ≤ m → TakesIn m added before before
takes_none m added before past = record {
  count = refl;
  here = λ u there.
      let few = slice_get_within before m u there in
      let bad : ⊥ = omega (arith, few, past) in
      absurd bad;
  elsewhere = λ n apart. refl;
}

-- as many ways as before
pub step_count : (x : GlobalInitializer) (before after : List AbstractInstantiations) → JoinsStep x before after
    → length after ≡ length before
step_count (init.InstantiateModule (module_source.Static m args) c) before after joins = joins.2.count
step_count (init.InstantiateModule (module_source.Import r args) c) before after joins = ap length joins
step_count (init.LowerImport n r) before after joins = ap length joins
step_count (init.ExtractMemory e) before after joins = ap length joins
step_count (init.ExtractRealloc e) before after joins = ap length joins
step_count (init.ExtractCallback e) before after joins = ap length joins
step_count (init.ExtractPostReturn e) before after joins = ap length joins
step_count (init.ExtractTable e) before after joins = ap length joins
step_count (init.Resource r) before after joins = ap length joins

pub export_count : (e : Export) (before after : List AbstractInstantiations) → JoinsExport e before after
    → length after ≡ length before
export_count (export.ModuleStatic ty n) before after joins = joins.count
export_count (export.LiftedFunction ty f o) before after joins = ap length joins
export_count (export.ImportedFunction ty r) before after joins = ap length joins
export_count (export.ModuleImport ty r) before after joins = ap length joins
export_count (export.Instance ty es) before after joins = ap length joins
export_count (export.Type_ ty) before after joins = ap length joins

-- the ways of all steps, before the exports
pub all_steps : (inits : List GlobalInitializer) (i : ℕ) (ways : List AbstractInstantiations) → length inits ≤ i
    → AreWays (λ m. false) (take i inits) ways → AreWays (is_exported_in []) inits ways
all_steps inits i ways past are =
    ways_without inits ways (subst (λ l. AreWays (λ m. false) l ways) (take_all i inits past) are)
