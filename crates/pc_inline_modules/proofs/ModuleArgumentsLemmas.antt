-- The arguments of a core module, with those that no import asks for.
use Rattle.std.proofs.Common.{◌≡◌, ◌<◌, ℕ, true, false, List, Result, Ok, Err, Option, Some, None, length, get_or, refl}
use Rattle.std.proofs.Common.{sym, ap, subst, ◌∙◌, arith}
use Rattle.std.specs.Prelude.{IfOk, slice_get, option_and_then, nat_lt}
use Rattle.std.specs.List.{AllZip, list_all}
use Rattle.std.proofs.lemmas.Option.{same_Some, slice_get-get_or}
use Rattle.pc_numbers.specs.declared.no_memory.NoMemory.{NoMemory}
use Rattle.pc_entity.specs.declared.string_pool.Atom.{Atom}
use Rattle.pc_entity.specs.Lists.{map_all}
use Rattle.pc_types.specs.declared.module_record.ModuleRecord.{ModuleRecord}
use Rattle.pc_types.specs.declared.parsed.CoreEntity.{CoreEntity}
use Rattle.pc_types.specs.declared.parsed.CoreKind.{CoreKind}
use Rattle.pc_types.specs.declared.parsed.TypeTable.{TypeTable}
use Rattle.pc_types.specs.Record.{kind_of}
use Rattle.pc_spec_reading.specs.Arguments.{has_instances, static_argument, static_arguments}
use Rattle.pc_spec_reading.specs.Scope.{Scope}
use Rattle.pc_dfg.specs.declared.core_def.CoreDef.{CoreDef}
use Rattle.pc_inline_names.specs.Both.{Both}
use Rattle.pc_inline_names.specs.Numbers.{AreNumbers, HasNumbers, IsNumber}
use Rattle.pc_inline_state.specs.declared.core_item.CoreItem.{CoreItem}
use Rattle.pc_inline_state.specs.declared.frame.Frame.{Frame}
use Rattle.pc_inline_state.specs.Bags.{argument_item}
use Rattle.pc_inline_state.specs.Found.{ArgumentsStand, ItemFound, knows_instances}
use Rattle.pc_inline_state.specs.Frames.{CoreInstanceStands, FrameStands}
use Rattle.pc_inline_state.specs.Points.{IsInput}
use Rattle.pc_inline_state.specs.Tables.{Tables}
use Rattle.pc_inline_state.proofs.ZipLemmas.{both_there, zip_at, zip_length}
use Rattle.pc_inline_modules.proofs.ExportedLemmas.{argument_stands}

-- what is there on both sides stands so
pub both_are : {A B : Type 0} (R : A → B → Type 0) (o : Option A) (w : Option B) (x : A) (y : B) → Both R o w
    → o ≡ Some x → w ≡ Some y → R x y
both_are R o w x y m at_x at_y =
    let z = both_there R o w x m at_x in
    subst (R x) (same_Some z.0 y (sym z.1 ∙ at_y)) z.2

-- so does what is read at a place of both lists
pub read_both : {A B : Type 0} (R : A → B → Type 0) (xs : List A) (ys : List B) (i : ℕ) (x : A) (y : B) → AllZip R xs ys
    → i < length xs → x ≡ get_or xs i x → R x (get_or ys i y)
read_both R xs ys i x y all within is =
    let each = zip_length R xs ys all in
    let also : i < length ys = omega (arith, within, each) in
    both_are R _ _ x (get_or ys i y) (zip_at R xs ys i all) (slice_get-get_or xs i x within ∙ ap Some (sym is))
    (slice_get-get_or ys i y also)

module _ (t : TypeTable) (ms : List ModuleRecord) (input : IsInput t ms) (b : Tables) (table : b.table ≡ t) (f : Frame)
    (args : List (List ℕ × ℕ)) (given : List (Atom × ℕ)) (has : HasNumbers b.names.texts args given)
    (i : List ℕ × List ℕ × CoreEntity) (ns : Atom × Atom) (are : AreNumbers b.names.texts i ns) (k : CoreKind)
    (kind : k ≡ kind_of i.2) (found : Option CoreItem)
    (is : (name : List ℕ) → IsNumber b.names.texts ns.1 name → found ≡ argument_item t ms f given ns.0 ns.1 name k)
  where
    -- what was found for an import by numbers, or nothing, stands for what the reading gives it
    pub import_given : (s : Scope) → FrameStands ms b f s
        → Both (ItemFound ms b (kind_of i.2)) found (static_argument ms s args i)
    import_given s stands =
        subst (λ o. Both (ItemFound ms b (kind_of i.2)) o (static_argument ms s args i))
        (sym (is i.1 are.of_name ∙ ap (argument_item t ms f given ns.0 ns.1 i.1) kind))
        (argument_stands t ms input b table f s stands given args has i ns are)

module _ (ms : List ModuleRecord) (b : Tables) (f : Frame) (args : List (List ℕ × ℕ)) where
  -- the code and the reading know the same core instances
  pub same_known : (s : Scope) → FrameStands ms b f s → knows_instances f args ≡ has_instances s args
  same_known s stands =
      ap (λ n. list_all (λ (a : List ℕ × ℕ). nat_lt a.1 n) args)
      (zip_length (CoreInstanceStands ms b) f.core_instances s.core_instances stands.core_instances)

  -- an argument isn't one of them
  pub unknown_given : (s : Scope) → FrameStands ms b f s → knows_instances f args ≡ false → (o : Option ModuleRecord)
      → option_and_then (static_arguments ms s args) o ≡ None
  unfolding static_arguments
  unknown_given s stands unknown None = refl
  unknown_given s stands unknown (Some r) = rw (sym (same_known s stands) ∙ unknown) refl

  -- all of them are
  known_given : (s : Scope) → FrameStands ms b f s → knows_instances f args ≡ true → (r : ModuleRecord)
      → static_arguments ms s args r ≡ map_all (static_argument ms s args) r.imports
  unfolding static_arguments
  known_given s stands known r = rw (sym (same_known s stands) ∙ known) refl

  -- so what is given for all imports is given to the module
  pub all_given : (r : Result (Option (List CoreDef)) NoMemory) (m : ℕ) (x : ModuleRecord)
      (imports : List (List ℕ × List ℕ × CoreEntity)) → imports ≡ x.imports → slice_get ms m ≡ Some x
      → knows_instances f args ≡ true
      → IfOk r (λ defs. (s : Scope) → FrameStands ms b f s
      → Both (ArgumentsStand ms b) defs (map_all (static_argument ms s args) imports))
      → IfOk r (λ defs. (s : Scope) → FrameStands ms b f s
      → Both (ArgumentsStand ms b) defs (option_and_then (static_arguments ms s args) (slice_get ms m)))
  all_given (Err e) m x imports all held known given = tt
  all_given (Ok defs) m x imports all held known given =
      λ s stands. subst (Both (ArgumentsStand ms b) defs)
      (ap (map_all (static_argument ms s args)) all
      ∙ sym (ap (option_and_then (static_arguments ms s args)) held ∙ known_given s stands known x))
      (given s stands)
