-- The type of an entity that names an entry.
use Rattle.std.proofs.Common.{◌≡◌, ℕ, Bool, true, false, None, Result, Ok, Err, refl, sym, ap, subst, ◌∙◌}
use Rattle.std.proofs.Common.{true≢false}
use Rattle.std.specs.Prelude.{IfErr, IfOk, slice_get}
use Rattle.pc_types.specs.declared.parsed.DeclType.{DeclType}
use Rattle.pc_types.specs.declared.parsed.Entity.{Entity}
use Rattle.pc_types.specs.declared.parsed.Entity.TheVariants as entity
use Rattle.pc_types.specs.declared.parsed.TypeTable.{TypeTable}
use Rattle.pc_types.specs.declared.type_index.TypeComponentInstanceIndex.{TypeComponentInstanceIndex}
use Rattle.pc_types.specs.declared.type_index.TypeFuncIndex.{TypeFuncIndex}
use Rattle.pc_types.specs.declared.type_index.TypeModuleIndex.{TypeModuleIndex}
use Rattle.pc_types.specs.declared.types.TypeDef.{TypeDef}
use Rattle.pc_types.specs.declared.types.TypeDef.TheVariants as type
use Rattle.pc_types.specs.Table.{is_some_and}
use Rattle.pc_types_lists.specs.Types.{Types}
use Rattle.pc_types_builder.specs.Trees.{IsEntry}
use Rattle.pc_spec_reading.specs.Types.{has_entry, names_entry}
use Rattle.pc_inline_state.specs.declared.error.ItemError.{ItemError}
use Rattle.pc_inline_state.specs.declared.error.ItemFault.{ItemFault}
use Rattle.pc_inline_state.specs.declared.state.State.{State}
use Rattle.pc_inline_state.specs.Refused.{LacksRoom, LacksRoomOr}
use Rattle.pc_inline_state.proofs.RefusedLemmas.{free_lacks}
use Rattle.pc_inline_imports.specs.Given.{IsEntityType}

-- an error that has the cause of a fault, where there is no cause, is a want of room
pub result_lacks : {T : Type 0} (r : Result T ItemError) (k : ItemFault) (cause : Type 0) (st : State) → (cause → ⊥)
    → IfErr r (LacksRoomOr k cause st) → IfErr r (LacksRoom st)
result_lacks (Ok x) k cause st none lacks = tt
result_lacks {T} (Err e) k cause st none lacks = free_lacks {T = T} (Err e) st k cause e refl none lacks

module _ (t : TypeTable) (test : DeclType → Bool) (n : ℕ) (there : has_entry t test n ≡ true) where
  -- what is there doesn't fail the test
  pub not_failed : has_entry t test n ≡ false → ⊥
  not_failed fails = true≢false (sym there ∙ fails)

  -- and is an entry
  pub not_missing : slice_get t.types n ≡ None → ⊥
  not_missing none = true≢false (sym there ∙ ap (is_some_and test) none)

-- an entity that names an entry, where it is known which
pub named_as : (t : TypeTable) (e f : Entity) → e ≡ f → names_entry t e ≡ true → names_entry t f ≡ true
named_as t e f is named = subst (λ x. names_entry t x ≡ true) is named

module _ (types : Types) (t : TypeTable) (e : Entity) (n : ℕ) where
  -- the type of a function
  pub func_typed : e ≡ entity.Func n → (ty : TypeFuncIndex) → IsEntry types t n (type.ComponentFunc ty)
      → IsEntityType types t e (type.ComponentFunc ty)
  func_typed is ty entry =
      subst (λ x. IsEntityType types t x (type.ComponentFunc ty)) (sym is) (record { kind = (ty, refl); entry = entry })

  -- of a component instance
  pub instance_typed : e ≡ entity.Instance n → (ty : TypeComponentInstanceIndex)
      → IsEntry types t n (type.ComponentInstance ty) → IsEntityType types t e (type.ComponentInstance ty)
  instance_typed is ty entry =
      subst (λ x. IsEntityType types t x (type.ComponentInstance ty)) (sym is)
      (record { kind = (ty, refl); entry = entry })

  -- of a core module
  pub module_typed : e ≡ entity.Module n → (ty : TypeModuleIndex) → IsEntry types t n (type.Module ty)
      → IsEntityType types t e (type.Module ty)
  module_typed is ty entry =
      subst (λ x. IsEntityType types t x (type.Module ty)) (sym is) (record { kind = (ty, refl); entry = entry })

  -- of a component
  pub component_typed : e ≡ entity.Component n → (r : Result TypeDef ItemError)
      → IfOk r (λ d. IsEntry types t n d) → IfOk r (IsEntityType types t e)
  component_typed is (Ok d) entry =
      subst (λ x. IsEntityType types t x d) (sym is) (record { kind = tt; entry = entry })
  component_typed is (Err x) entry = tt

  -- and of a type
  pub type_typed : e ≡ entity.Type_ n → (r : Result TypeDef ItemError)
      → IfOk r (λ d. IsEntry types t n d) → IfOk r (IsEntityType types t e)
  type_typed is (Ok d) entry =
      subst (λ x. IsEntityType types t x d) (sym is) (record { kind = tt; entry = entry })
  type_typed is (Err x) entry = tt
