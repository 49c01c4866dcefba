-- Exports are taken from the end of a list, and a graph that has let go of its exports has its definitions as before.
use Rattle.std.proofs.Common.{◌≡◌, List, [], ◌∷◌, ◌++◌, length, All, get_or, Option, None, Some, refl, sym, ap, subst}
use Rattle.std.proofs.Common.{◌∙◌, ℕ, append-nil, append_assoc, arith}
use Rattle.std.specs.Prelude.{IfSome}
use Rattle.std.specs.List.{AllZip}
use Rattle.pc_types.specs.declared.type_index.TypeModuleIndex.{TypeModuleIndex}
use Rattle.pc_info.specs.declared.export.Export.{Export as PlanItem}
use Rattle.pc_info.specs.declared.export.Export.TheVariants as item
use Rattle.pc_dfg.specs.declared.core_def.CoreDef.{CoreDef}
use Rattle.pc_dfg.specs.declared.core_def.CoreDef.TheVariants as def
use Rattle.pc_dfg.specs.declared.dfg.ComponentDfg.{ComponentDfg}
use Rattle.pc_dfg.specs.declared.export.Export.{Export}
use Rattle.pc_dfg.specs.declared.export.Export.TheVariants as export
use Rattle.pc_dfg.specs.declared.ids.OptionsId.{OptionsId}
use Rattle.pc_dfg_linearize.specs.declared.state.Finish.{Finish}
use Rattle.pc_dfg_linearize.specs.Arguments.{IsNumbered}
use Rattle.pc_dfg_linearize.specs.Converted.{def_in}
use Rattle.pc_dfg_linearize.specs.Numbers.{numbered}
use Rattle.pc_dfg_linearize.specs.Ready.{IsReadyDef}
use Rattle.pc_dfg_finish.specs.Exports.{CanExport, CanLift, IsConverted, IsExportable, IsLiftable, function_of}
use Rattle.pc_dfg_finish.specs.ModuleTypes.{IsTyped}
use Rattle.pc_dfg_finish.specs.Taken.{CanConvert, without_exports}
use Rattle.pc_dfg_finish.proofs.ItemLemmas.{zip_push, zip_weaker}

module _ {A B : Type 0} (R : A → B → Type 0) (xs : List A) where
  -- behind the items for what is left of a list, these are the items for the rest of it
  abbrev pub Completes : List A → List B → Type 0
  Completes left ys = (front : List B) → AllZip R left front → AllZip R xs (front ++ ys)

  -- at the beginning
  pub completes_none : Completes xs []
  completes_none front zip = subst (AllZip R xs) (sym (append-nil front)) zip

  -- one is taken from the end
  pub completes_next : (left rest : List A) (x : A) (ys : List B) (y : B) → left ≡ rest ++ x ∷ [] → R x y
      → Completes left ys → Completes rest (y ∷ ys)
  completes_next left rest x ys y popped is completes front zip =
      subst (AllZip R xs) (append_assoc front (y ∷ []) ys)
      (completes (front ++ y ∷ [])
      (subst (λ l. AllZip R l (front ++ y ∷ [])) (sym popped) (zip_push R rest front x y zip is)))

  -- in the end
  pub completes_all : (left : List A) (ys : List B) → length left ≡ 0 → Completes left ys → AllZip R xs ys
  completes_all [] ys none completes = completes [] tt
  completes_all (x ∷ left) ys none completes = absurd (omega (arith, none))

module _ (g : ComponentDfg) (f : Finish) where
  ready_still : (made : ℕ) (d : CoreDef) → IsReadyDef g made d → IsReadyDef (without_exports g) made d
  unfolding IsReadyDef
  ready_still made (def.Export e) ready = ready
  ready_still made (def.InstanceFlags c) ready = ready
  ready_still made (def.Trampoline t) ready = ready
  ready_still made (def.UnsafeIntrinsic s i) ready = ready
  ready_still made (def.Adapter a) ready = ready

  numbered_still : (d : CoreDef) → IsNumbered g f d → IsNumbered (without_exports g) f d
  numbered_still (def.Export e) is = is
  numbered_still (def.InstanceFlags c) is = is
  numbered_still (def.Trampoline t) is = is
  numbered_still (def.UnsafeIntrinsic s i) is = is
  numbered_still (def.Adapter a) is = is

  same_def : (d : CoreDef) → def_in (without_exports g) f d ≡ def_in g f d
  unfolding def_in
  same_def (def.Export e) = refl
  same_def (def.InstanceFlags c) = refl
  same_def (def.Trampoline t) = refl
  same_def (def.UnsafeIntrinsic s i) = refl
  same_def (def.Adapter a) = refl

  module _ (types : List (Option TypeModuleIndex)) where
    -- an export whose function can be exported can become one of the plan
    can_convert : length f.instances ≡ length g.instances → (e : Export) → CanExport g e → IsExportable g f e
        → IsTyped types e → CanConvert (without_exports g) types f e
    can_convert made e can numbered typed = record {
      ready = is_ready (function_of e) can;
      numbered = is_numbered (function_of e) numbered;
      typed = typed;
    }
      where
        is_ready : (x : Option (CoreDef × OptionsId)) → IfSome x (CanLift g)
            → IfSome x (λ y. IsReadyDef (without_exports g) (length f.instances) y.0)
        is_ready None can = tt
        is_ready (Some x) can =
            ready_still (length f.instances) x.0 (subst (λ n. IsReadyDef g n x.0) (sym made) can.func.itself)

        is_numbered : (x : Option (CoreDef × OptionsId)) → IfSome x (IsLiftable g f)
            → IfSome x (IsLiftable (without_exports g) f)
        is_numbered None is = tt
        is_numbered (Some x) is = record { func = numbered_still x.0 is.func; options = is.options }

    -- and so can they all
    pub all_can_convert : length f.instances ≡ length g.instances → (es : List Export) → All (CanExport g) es
        → All (IsExportable g f) es → All (IsTyped types) es → All (CanConvert (without_exports g) types f) es
    all_can_convert made es can numbered typed k d within =
        can_convert made (get_or es k d) (can k d within) (numbered k d within) (typed k d within)

    one_converted : (e : Export) (e' : PlanItem) → IsConverted (without_exports g) types f e e'
        → IsConverted g types f e e'
    unfolding IsConverted
    one_converted (export.LiftedFunction ty d o) e' is =
        is ∙ ap (λ x. item.LiftedFunction ty x (record { 0 = numbered f.numbers.options o.0 })) (same_def d)
    one_converted (export.ImportedFunction ty r) e' is = is
    one_converted (export.ModuleStatic ty m) e' is = is
    one_converted (export.ModuleImport ty r) e' is = is
    one_converted (export.Instance ty es) e' is = is
    one_converted (export.Type_ ty) e' is = is

    -- the items of the plan are those by the whole graph
    pub all_converted : (es : List Export) (items : List PlanItem)
        → AllZip (IsConverted (without_exports g) types f) es items → AllZip (IsConverted g types f) es items
    all_converted = zip_weaker (IsConverted (without_exports g) types f) (IsConverted g types f) one_converted
