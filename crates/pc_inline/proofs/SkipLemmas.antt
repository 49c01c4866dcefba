-- Items that aren't imports are passed over where the imports of the root are prepared.
use Rattle.std.proofs.Common.{◌≡◌, List, Option, Some, None, Ok, refl, subst}
use Rattle.std.proofs.lemmas.Option.{none-some, same_Some}
use Rattle.pc_types.specs.declared.module_record.ModuleRecord.{ModuleRecord}
use Rattle.pc_types.specs.declared.parsed.Entity.{Entity}
use Rattle.pc_types.specs.declared.parsed.TypeTable.{TypeTable}
use Rattle.pc_types.specs.declared.parsed.WasmValType.TheVariants.{I32}
use Rattle.pc_parsed.specs.declared.canon.CanonItem.{CanonItem}
use Rattle.pc_parsed.specs.declared.canon.CanonItem.TheVariants as canon
use Rattle.pc_parsed.specs.declared.payload.ExternName.{ExternName}
use Rattle.pc_spec_reading.specs.Canonical.{canonical_item}
use Rattle.pc_spec_reading.specs.Item
use Rattle.pc_spec_reading.specs.Scope.{Moment}
use Rattle.pc_local.specs.declared.item.LocalInitializer.{LocalInitializer}
use Rattle.pc_local.specs.declared.item.LocalInitializer.TheVariants as local
use Rattle.pc_local.specs.declared.item.Translation.{Translation}
use Rattle.pc_local.specs.Plain.{context_of, if_builtin, if_error_context, if_waitable, plain_item}
use Rattle.pc_local.specs.Standing.{ItemStands, Names, stands_component, stands_module, stands_nested, stands_plain}
use Rattle.pc_inline_items.specs.StepsLocal.{prepare_row}

module _ (t : TypeTable) (ms : List ModuleRecord) where
  -- an item that is passed over
  abbrev pub Skips : Item.Item → Type 0
  Skips i = (now : Moment) → prepare_row t ms i now ≡ Ok now

  skips_builtin : (o : Option Item.Item) (i : Item.Item) → if_builtin o ≡ Some i → Skips i
  skips_builtin (Some (Item.builtin_item k s operands)) i h = subst Skips (same_Some _ i h) (λ now. refl)
  skips_builtin (Some x) i h = absurd (none-some i h)
  skips_builtin None i h = absurd (none-some i h)

  skips_waitable : (o : Option Item.Item) (i : Item.Item) → if_waitable o ≡ Some i → Skips i
  skips_waitable (Some (Item.waitable_item k s memory)) i h = subst Skips (same_Some _ i h) (λ now. refl)
  skips_waitable (Some x) i h = absurd (none-some i h)
  skips_waitable None i h = absurd (none-some i h)

  skips_error_context : (o : Option Item.Item) (i : Item.Item) → if_error_context o ≡ Some i → Skips i
  skips_error_context (Some (Item.error_context_item k s opts)) i h = subst Skips (same_Some _ i h) (λ now. refl)
  skips_error_context (Some x) i h = absurd (none-some i h)
  skips_error_context None i h = absurd (none-some i h)

  skips_context : (c : CanonItem) (i : Item.Item) → context_of c ≡ Some i → Skips i
  skips_context (canon.ContextGet s I32 slot) i h = subst Skips (same_Some _ i h) (λ now. refl)
  skips_context (canon.ContextSet s I32 slot) i h = subst Skips (same_Some _ i h) (λ now. refl)
  skips_context c i h = absurd (none-some i h)

  module _ (i : Item.Item) where
    skips_plain : (l : LocalInitializer) → ((name : ExternName) (e : Entity) → ¬ (l ≡ local.Import name e))
        → plain_item l ≡ Some i → Skips i
    unfolding plain_item
    skips_plain (local.Import name ty) other h = absurd (other name ty refl)
    skips_plain local.IntrinsicsImport other h = subst Skips (same_Some _ i h) (λ now. refl)
    skips_plain (local.Resource id a b) other h = subst Skips (same_Some _ i h) (λ now. refl)
    skips_plain (local.Lift a b c d) other h = subst Skips (same_Some _ i h) (λ now. refl)
    skips_plain (local.Lower a b c d) other h = subst Skips (same_Some _ i h) (λ now. refl)
    skips_plain (local.Builtin c) other h = skips_builtin (canonical_item c) i h
    skips_plain (local.WaitableSet c) other h = skips_waitable (canonical_item c) i h
    skips_plain (local.TaskReturn a b c) other h = subst Skips (same_Some _ i h) (λ now. refl)
    skips_plain (local.ErrorContext c) other h = skips_error_context (canonical_item c) i h
    skips_plain (local.Context c) other h = skips_context c i h
    skips_plain (local.ThreadNewIndirect a b c) other h = subst Skips (same_Some _ i h) (λ now. refl)
    skips_plain (local.ModuleStatic index ty) other h = subst Skips (same_Some _ i h) (λ now. refl)
    skips_plain (local.ModuleInstantiate m args) other h = subst Skips (same_Some _ i h) (λ now. refl)
    skips_plain (local.ModuleSynthetic items) other h = subst Skips (same_Some _ i h) (λ now. refl)
    skips_plain (local.ComponentInstantiate c args ty) other h = subst Skips (same_Some _ i h) (λ now. refl)
    skips_plain (local.ComponentSynthetic exports ty) other h = subst Skips (same_Some _ i h) (λ now. refl)
    skips_plain (local.AliasCoreExport k n name) other h = subst Skips (same_Some _ i h) (λ now. refl)
    skips_plain (local.AliasComponentExport k n name) other h = subst Skips (same_Some _ i h) (λ now. refl)
    skips_plain (local.Export name k n) other h = subst Skips (same_Some _ i h) (λ now. refl)
    skips_plain (local.ComponentStatic index vars) other h = absurd (none-some i h)
    skips_plain (local.AliasModule v) other h = absurd (none-some i h)
    skips_plain (local.AliasComponent v) other h = absurd (none-some i h)

  -- a local item that isn't an import
  pub skips_other : (l : LocalInitializer) → ((name : ExternName) (e : Entity) → ¬ (l ≡ local.Import name e))
      → (bodies : List Translation) (names : Names) (i : Item.Item) → ItemStands bodies names l i → Skips i
  skips_other l other bodies names i (stands_plain h) = skips_plain i l other h
  skips_other l other bodies names i (stands_module read) = λ now. refl
  skips_other l other bodies names i (stands_component read) = λ now. refl
  skips_other l other bodies names i (stands_nested at items exports given) = λ now. refl
