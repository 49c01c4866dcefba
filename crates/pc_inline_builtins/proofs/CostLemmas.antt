-- How much the steps of builtins add, by what their items may, and which steps they are.
use Rattle.std.proofs.Common.{◌≡◌, ◌≤◌, ◌+◌, ℕ, true, true≢false, List, [], ◌∷◌, Option, None, Some, refl, sym, ap}
use Rattle.std.proofs.Common.{arith, subst, ◌∙◌}
use Rattle.std.specs.Prelude.{is_some, option_and_then}
use Rattle.std.specs.Borrow.{Bor}
use Rattle.std.proofs.lemmas.List.Sums.{sum_by-cons}
use Rattle.std.proofs.lemmas.Option.{none-some, same_Some}
use Rattle.pc_types.specs.declared.parsed.TypeTable.{TypeTable}
use Rattle.pc_types.specs.declared.parsed.ValType.{ValType}
use Rattle.pc_types.specs.declared.parsed.ValType.TheVariants as val
use Rattle.pc_types.specs.declared.trampoline.TrampolineKind.TheVariants as kind
use Rattle.pc_types_lists.specs.Adds.{most_types}
use Rattle.pc_trampoline.specs.Shape.{shape_of}
use Rattle.pc_parsed.specs.declared.canon.CanonOption.{CanonOption}
use Rattle.pc_spec_reading.specs.Item
use Rattle.pc_inline_state.specs.Adds.{Adds, most_builtin, most_operand, most_returned}
use Rattle.pc_inline_state.specs.Tables.{Tables}
use Rattle.pc_inline_state.proofs.AddsLemmas.{adds_weaken}
use Rattle.pc_inline_builtins.specs.declared.builtin.Builtin.{Builtin}
use Rattle.pc_inline_builtins.specs.declared.builtin.First.{First}
use Rattle.pc_inline_builtins.specs.declared.builtin.First.TheVariants as first
use Rattle.pc_inline_builtins.specs.declared.builtin.Handle.{Handle}
use Rattle.pc_inline_builtins.specs.declared.builtin.Handle.TheVariants as handle
use Rattle.pc_inline_builtins.specs.declared.builtin.Second.{Second}
use Rattle.pc_inline_builtins.specs.declared.builtin.Second.TheVariants as second
use Rattle.pc_inline_builtins.specs.Made.{first_cost, results_cost}
use Rattle.pc_inline_builtins.specs.Written.{HasItsShape, handle_operand, if_builtin, item_of}

module _ (t : TypeTable) where
  -- what a builtin adds is what its item may add
  item_cost : (b : Builtin) (i : Item.Item) → item_of b ≡ Some i → 4 + first_cost t b.first ≤ most_builtin t (Some i)
  item_cost b i is = by b.first b.second is
    where
      of_handle_cost : (h : Handle) (n : ℕ) (more : List Item.Operand)
          → 4 + most_types t ≤ most_builtin t (Some (Item.builtin_item b.kind b.core (handle_operand h n ∷ more)))
      of_handle_cost handle.Resource n more = rw (sum_by-cons (most_operand t) (Item.a_resource n) more) (omega arith)
      of_handle_cost handle.Stream n more = rw (sum_by-cons (most_operand t) (Item.a_stream n) more) (omega arith)
      of_handle_cost handle.Future n more = rw (sum_by-cons (most_operand t) (Item.a_future n) more) (omega arith)

      by : (f : First) (s : Second) → item_of (record b { first = f; second = s }) ≡ Some i
          → 4 + first_cost t f ≤ most_builtin t (Some i)
      by first.Nothing second.Nothing is = subst (λ x. 4 ≤ most_builtin t (Some x)) (same_Some _ i is) (omega arith)
      by first.Nothing (second.Flag x) is = subst (λ x. 4 ≤ most_builtin t (Some x)) (same_Some _ i is) (omega arith)
      by first.Nothing (second.Memory n) is = subst (λ x. 4 ≤ most_builtin t (Some x)) (same_Some _ i is) (omega arith)
      by (first.Handle h n) second.Nothing is =
          subst (λ x. 4 + most_types t ≤ most_builtin t (Some x)) (same_Some _ i is) (of_handle_cost h n [])
      by (first.Handle h n) (second.Flag x) is =
          subst (λ x. 4 + most_types t ≤ most_builtin t (Some x)) (same_Some _ i is)
          (of_handle_cost h n (Item.a_flag x ∷ []))
      by (first.Handle h n) (second.Options x) is =
          subst (λ x. 4 + most_types t ≤ most_builtin t (Some x)) (same_Some _ i is)
          (of_handle_cost h n (Item.the_options x.now ∷ []))
      by first.ErrorContexts second.Nothing is =
          subst (λ x. 4 + 1 ≤ most_builtin t (Some x)) (same_Some _ i is) (omega arith)
      by first.ErrorContexts (second.Options x) is =
          subst (λ x. 4 + 1 ≤ most_builtin t (Some x)) (same_Some _ i is) (omega arith)
      by f s is = absurd (none-some i is)

  -- so is that of a function whose item it is
  pub builtin_adds : (x : Option Item.Item) (o : Option Builtin) (b : Builtin) → o ≡ Some b
      → option_and_then item_of o ≡ if_builtin x → is_some (item_of b) ≡ true → (a c : Tables)
      → Adds t (4 + first_cost t b.first) a c → Adds t (most_builtin t x) a c
  builtin_adds x o b found says named a c adds =
      by x (item_of b) refl (sym (ap (option_and_then item_of) found) ∙ says) named
    where
      by : (y : Option Item.Item) (i : Option Item.Item) → item_of b ≡ i → item_of b ≡ if_builtin y → is_some i ≡ true
          → Adds t (most_builtin t y) a c
      by y None is same some = absurd (true≢false (sym some))
      by (Some (Item.builtin_item k s operands)) (Some i) is same some =
          adds_weaken t (4 + first_cost t b.first) _ a c (item_cost b _ same) adds
      by (Some (Item.waitable_item k s n)) (Some i) is same some =
          adds_weaken t (4 + first_cost t b.first) _ a c (item_cost b _ same) adds
      by (Some (Item.error_context_item k s opts)) (Some i) is same some =
          adds_weaken t (4 + first_cost t b.first) _ a c (item_cost b _ same) adds
      by y (Some i) is same some = absurd (none-some i (sym same ∙ is))

  -- and that of the end of a task
  pub returned_adds : (returned : Option ValType) (a c : Tables) → Adds t (4 + results_cost t returned) a c
      → Adds t (most_returned t returned) a c
  returned_adds None a c adds = adds_weaken t (4 + 1) 6 a c (omega arith) adds
  returned_adds (Some (val.Prim p)) a c adds = adds_weaken t (4 + (1 + 1)) 6 a c (omega arith) adds
  returned_adds (Some (val.Type_ n)) a c adds =
      adds_weaken t (4 + (most_types t + 1)) (6 + (1 + most_types t)) a c (omega arith) adds

-- the item of a builtin that was found
pub found_item : (x : Option Item.Item) (o : Option Builtin) (b : Builtin) (i : Item.Item) → o ≡ Some b
    → option_and_then item_of o ≡ if_builtin x → if_builtin x ≡ Some i → item_of b ≡ Some i
found_item x o b i found says is = sym (ap (option_and_then item_of) found) ∙ says ∙ is

-- where none was, there is no item
pub no_item : (x : Option Item.Item) (o : Option Builtin) (i : Item.Item) → o ≡ None
    → option_and_then item_of o ≡ if_builtin x → if_builtin x ≡ Some i → ⊥
no_item x o i none says is = none-some i (sym (ap (option_and_then item_of) none) ∙ says ∙ is)

-- the end of a task has what its kind has
pub return_shaped : (core : ℕ) (returned : Option ValType) (opts : Bor (List CanonOption))
    → HasItsShape (record {
      kind = kind.TaskReturn;
      core = core;
      first = first.Results returned;
      second = second.Options opts;
    })
unfolding HasItsShape shape_of
return_shaped core returned opts = refl

-- and so has a new thread
pub thread_shaped : (core start n : ℕ)
    → HasItsShape (record {
      kind = kind.ThreadNewIndirect;
      core = core;
      first = first.Number start;
      second = second.Table n;
    })
unfolding HasItsShape shape_of
thread_shaped core start n = refl
