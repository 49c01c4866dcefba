-- Local items that begin no component instance.
use Rattle.std.proofs.Common.{◌≡◌, false, List, Option, Some, None, refl, subst}
use Rattle.std.proofs.lemmas.Option.{none-some, same_Some}
use Rattle.pc_types.specs.declared.parsed.WasmValType.TheVariants.{I32}
use Rattle.pc_parsed.specs.declared.canon.CanonItem.{CanonItem}
use Rattle.pc_parsed.specs.declared.canon.CanonItem.TheVariants as canon
use Rattle.pc_spec_reading.specs.Canonical.{canonical_item}
use Rattle.pc_spec_reading.specs.Item
use Rattle.pc_local.specs.declared.item.LocalInitializer.{LocalInitializer}
use Rattle.pc_local.specs.declared.item.LocalInitializer.TheVariants as local
use Rattle.pc_local.specs.declared.item.Translation.{Translation}
use Rattle.pc_local.specs.Plain.{context_of, if_builtin, if_error_context, if_waitable, plain_item}
use Rattle.pc_local.specs.Standing.{ItemStands, Names, stands_component, stands_module, stands_nested, stands_plain}
use Rattle.pc_inline_stack.specs.Stacks.{begins_child}
use Rattle.pc_inline_stack.proofs.RowItemLemmas.{is_instantiation}

-- an item that begins no component instance
abbrev Stays : Item.Item → Type 0
Stays i = is_instantiation i ≡ false

stays_builtin : (o : Option Item.Item) (i : Item.Item) → if_builtin o ≡ Some i → Stays i
stays_builtin (Some (Item.builtin_item k s operands)) i h = subst Stays (same_Some _ i h) refl
stays_builtin (Some x) i h = absurd (none-some i h)
stays_builtin None i h = absurd (none-some i h)

stays_waitable : (o : Option Item.Item) (i : Item.Item) → if_waitable o ≡ Some i → Stays i
stays_waitable (Some (Item.waitable_item k s memory)) i h = subst Stays (same_Some _ i h) refl
stays_waitable (Some x) i h = absurd (none-some i h)
stays_waitable None i h = absurd (none-some i h)

stays_error_context : (o : Option Item.Item) (i : Item.Item) → if_error_context o ≡ Some i → Stays i
stays_error_context (Some (Item.error_context_item k s opts)) i h = subst Stays (same_Some _ i h) refl
stays_error_context (Some x) i h = absurd (none-some i h)
stays_error_context None i h = absurd (none-some i h)

stays_context : (c : CanonItem) (i : Item.Item) → context_of c ≡ Some i → Stays i
stays_context (canon.ContextGet s I32 slot) i h = subst Stays (same_Some _ i h) refl
stays_context (canon.ContextSet s I32 slot) i h = subst Stays (same_Some _ i h) refl
stays_context c i h = absurd (none-some i h)

stays_plain : (i : Item.Item) (l : LocalInitializer) → begins_child l ≡ false → plain_item l ≡ Some i → Stays i
unfolding plain_item
stays_plain i (local.Import name ty) plain h = subst Stays (same_Some _ i h) refl
stays_plain i local.IntrinsicsImport plain h = subst Stays (same_Some _ i h) refl
stays_plain i (local.Resource id a b) plain h = subst Stays (same_Some _ i h) refl
stays_plain i (local.Lift a b c d) plain h = subst Stays (same_Some _ i h) refl
stays_plain i (local.Lower a b c d) plain h = subst Stays (same_Some _ i h) refl
stays_plain i (local.Builtin c) plain h = stays_builtin (canonical_item c) i h
stays_plain i (local.WaitableSet c) plain h = stays_waitable (canonical_item c) i h
stays_plain i (local.TaskReturn a b c) plain h = subst Stays (same_Some _ i h) refl
stays_plain i (local.ErrorContext c) plain h = stays_error_context (canonical_item c) i h
stays_plain i (local.Context c) plain h = stays_context c i h
stays_plain i (local.ThreadNewIndirect a b c) plain h = subst Stays (same_Some _ i h) refl
stays_plain i (local.ModuleStatic index ty) plain h = subst Stays (same_Some _ i h) refl
stays_plain i (local.ModuleInstantiate m args) plain h = subst Stays (same_Some _ i h) refl
stays_plain i (local.ModuleSynthetic items) plain h = subst Stays (same_Some _ i h) refl
stays_plain i (local.ComponentInstantiate c args ty) plain h = cc
stays_plain i (local.ComponentSynthetic exports ty) plain h = subst Stays (same_Some _ i h) refl
stays_plain i (local.AliasCoreExport k n name) plain h = subst Stays (same_Some _ i h) refl
stays_plain i (local.AliasComponentExport k n name) plain h = subst Stays (same_Some _ i h) refl
stays_plain i (local.Export name k n) plain h = subst Stays (same_Some _ i h) refl
stays_plain i (local.ComponentStatic index vars) plain h = absurd (none-some i h)
stays_plain i (local.AliasModule v) plain h = absurd (none-some i h)
stays_plain i (local.AliasComponent v) plain h = absurd (none-some i h)

-- a local item that begins none stands for an item that begins none
pub begins_none : (bodies : List Translation) (names : Names) (l : LocalInitializer) (i : Item.Item)
    → ItemStands bodies names l i → begins_child l ≡ false → is_instantiation i ≡ false
begins_none bodies names l i (stands_plain h) plain = stays_plain i l plain h
begins_none bodies names l i (stands_module read) plain = refl
begins_none bodies names l i (stands_component read) plain = refl
begins_none bodies names l i (stands_nested at items exports given) plain = refl
