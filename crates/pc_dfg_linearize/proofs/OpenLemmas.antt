-- Ids that go onto the stack.
use Rattle.std.proofs.Common.{◌≡◌, ◌++◌, List, [], ◌∷◌, Option, None, Some, refl, sym, ap, ◌∙◌, option_map}
use Rattle.std.specs.Prelude.{slice_get}
use Rattle.std.specs.Option.{is_some}
use Rattle.std.proofs.lemmas.List.{append-nil, append_assoc}
use Rattle.std.proofs.lemmas.Option.{slice_get-map}
use Rattle.pc_numbers.specs.declared.module_entity.MemoryIndex.{MemoryIndex}
use Rattle.pc_numbers.specs.declared.module_entity.TableIndex.{TableIndex}
use Rattle.pc_dfg.specs.declared.core_def.CoreExport.{CoreExport}
use Rattle.pc_dfg.specs.declared.dfg.ComponentDfg.{ComponentDfg}
use Rattle.pc_dfg.specs.Names.{each_of}
use Rattle.pc_dfg.specs.Numbers.{memory_def, table_def, slots_of}
use Rattle.pc_dfg.specs.declared.ids.MemoryId.{MemoryId}
use Rattle.pc_dfg.specs.declared.ids.TableId.{TableId}
use Rattle.pc_dfg_linearize.specs.declared.id.Id.{Id}
use Rattle.pc_dfg_linearize.specs.declared.id.Id.TheVariants as id
use Rattle.pc_dfg_linearize.specs.declared.id.Task.{Task}
use Rattle.pc_dfg_linearize.specs.declared.id.Task.TheVariants as task
use Rattle.pc_dfg_linearize.specs.Parts.{in_def, parts}
use Rattle.pc_dfg_linearize.specs.Stack.{opens}

-- what a function makes of what may be there is there where that is
pub some_mapped : {A B : Type 0} (f : A → B) (o : Option A) → is_some (option_map f o) ≡ is_some o
some_mapped f None = refl
some_mapped f (Some x) = refl

-- two lists of ids, of which those of the first are on top
pub opens_append : (xs ys : List Id) → opens (xs ++ ys) ≡ opens ys ++ opens xs
opens_append [] ys = sym (append-nil (opens ys))
opens_append (x ∷ xs) ys =
    ap (λ ts. ts ++ task.Open x ∷ []) (opens_append xs ys) ∙ append_assoc (opens ys) (opens xs) (task.Open x ∷ [])

module _ (g : ComponentDfg) where
  memory_parts : (o : Option (CoreExport MemoryIndex)) → each_of (in_def g) (option_map memory_def o) ≡ []
  memory_parts None = refl
  memory_parts (Some x) = refl

  -- a memory is an item of a core instance, so it depends on nothing
  pub no_memory_parts : (m : MemoryId) → parts g (id.Memory m) ≡ []
  unfolding parts slots_of
  no_memory_parts m =
      ap (each_of (in_def g)) (slice_get-map memory_def g.memories m.0) ∙ memory_parts (slice_get g.memories m.0)

  table_parts : (o : Option (CoreExport TableIndex)) → each_of (in_def g) (option_map table_def o) ≡ []
  table_parts None = refl
  table_parts (Some x) = refl

  -- so does a table
  pub no_table_parts : (t : TableId) → parts g (id.Table t) ≡ []
  unfolding parts slots_of
  no_table_parts t =
      ap (each_of (in_def g)) (slice_get-map table_def g.tables t.0) ∙ table_parts (slice_get g.tables t.0)

  -- what depends on nothing puts nothing onto the stack
  pub opens_nothing : (ts : List Task) (x : Id) → parts g x ≡ [] → ts ≡ ts ++ opens (parts g x)
  opens_nothing ts x none = sym (ap (λ xs. ts ++ opens xs) none ∙ append-nil ts)
