-- Types of functions as the builder and as the reading have them.
use Rattle.std.proofs.Common.{◌≡◌, ℕ, Option, None, Some, Result, Err, refl, if◌then◌else◌, inl, inr}
use Rattle.std.specs.Prelude.{slice_get}
use Rattle.pc_numbers.specs.declared.module_entity.ModuleInternedTypeIndex.{ModuleInternedTypeIndex}
use Rattle.pc_numbers.specs.declared.runtime.ResourceIndex.{ResourceIndex}
use Rattle.pc_types.specs.declared.parsed.CoreFuncSig.{CoreFuncSig}
use Rattle.pc_types.specs.declared.parsed.TypeTable.{TypeTable}
use Rattle.pc_types.specs.declared.type_index.TypeFuncIndex.{TypeFuncIndex}
use Rattle.pc_types.specs.declared.types.TypeDef.TheVariants as def
use Rattle.pc_types.specs.Table.{is_func}
use Rattle.pc_types.specs.TypeTree.{Identity, TypeTree}
use Rattle.pc_types_lists.specs.Types.{Types}
use Rattle.pc_types_lists.specs.Trees.{HasTree}
use Rattle.pc_dfg.specs.declared.dfg.ComponentDfg.{ComponentDfg}
use Rattle.pc_spec_reading.specs.Outcome.{Fault, bad_type, found}
use Rattle.pc_spec_reading.specs.Scope.{Moment, Scope}
use Rattle.pc_spec_reading.specs.Types.{has_entry, signature_at, tree_if, type_tree}
use Rattle.pc_inline_state.specs.Fits.{Fits}
use Rattle.pc_inline_state.specs.KnowsSame.{KnowsSame}
use Rattle.pc_inline_state.specs.Typed.{AreOfFunction, HasNoFunction}
use Rattle.pc_inline_state.proofs.KnowsLemmas.{entry_here}

-- the types of a function, as the reading has them, where resource numbers fit a graph
pub record FunctionThere (t : TypeTable) (s : Scope) (g : ComponentDfg) (types : Types) (ty core : ℕ)
    (n : TypeFuncIndex) (i : ModuleInternedTypeIndex) : Type 0 where
  pub tree : TypeTree
  pub signature : CoreFuncSig
  pub is_tree : tree_if t is_func s ty ≡ Some tree
  pub is_signature : signature_at t core ≡ Some signature
  pub has : (who : ResourceIndex → Identity) → Fits g who → HasTree types who (def.ComponentFunc n) tree
  pub signed : slice_get types.signatures i.0 ≡ Some signature

-- the function type and the signature that were converted
pub function_there : (t : TypeTable) (s : Scope) (g : ComponentDfg) (types : Types) → KnowsSame g types.resources s
    → (ty core : ℕ) (n : TypeFuncIndex) (i : ModuleInternedTypeIndex) → AreOfFunction types t ty core n i
    → FunctionThere t s g types ty core n i
unfolding tree_if signature_at
function_there t s g types knows ty core n i are =
    let entry = entry_here g types s knows t ty (def.ComponentFunc n) are.entry in
    record {
      tree = entry.0;
      signature = are.signature.0;
      is_tree = rw (are.there) entry.1;
      is_signature = are.signature.1;
      has = entry.2;
      signed = are.signature.2;
    }

-- where the table has no such function type or signature, the reading is stuck at it
pub no_function : (t : TypeTable) (s : Scope) (ty core : ℕ) (go : TypeTree → CoreFuncSig → Result Moment Fault)
    → HasNoFunction t ty core
    → found bad_type (tree_if t is_func s ty) (λ tree. found bad_type (signature_at t core) (go tree)) ≡ Err bad_type
unfolding tree_if signature_at
no_function t s ty core go h = elim h as (λ _. found bad_type
    (if has_entry t is_func ty then type_tree t s ty else None)
    (λ tree. found bad_type (slice_get t.core_funcs core) (go tree)) ≡ Err bad_type) [
      | inl none ↦ rw (none) refl
      | inr there ↦ rw (there.0, there.1) (by (type_tree t s ty))
    ]
  where
    by : (o : Option TypeTree)
        → ◌≡◌ {A = Result Moment Fault} (found bad_type o (λ (tree : TypeTree). Err bad_type)) (Err bad_type)
    by None = refl
    by (Some tree) = refl
