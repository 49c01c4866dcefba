-- How a trampoline is seen: as an entry of lists, numbers and marks, by the numbers of what it names.
use Rattle.std.specs.Prelude.{ℕ, List, [], ◌∷◌, ◌++◌, Some, map, flat_map, option_map}
use Rattle.pc_numbers.specs.declared.module_entity.ModuleInternedTypeIndex.{ModuleInternedTypeIndex}
use Rattle.pc_numbers.specs.declared.runtime.LoweredIndex.{LoweredIndex}
use Rattle.pc_numbers.specs.declared.runtime.OptionsIndex.{OptionsIndex}
use Rattle.pc_numbers.specs.declared.runtime.RuntimeCallbackIndex.{RuntimeCallbackIndex}
use Rattle.pc_numbers.specs.declared.runtime.RuntimeMemoryIndex.{RuntimeMemoryIndex}
use Rattle.pc_numbers.specs.declared.runtime.RuntimePostReturnIndex.{RuntimePostReturnIndex}
use Rattle.pc_numbers.specs.declared.runtime.RuntimeTableIndex.{RuntimeTableIndex}
use Rattle.pc_types.specs.declared.trampoline.TrampolineKind.{TrampolineKind}
use Rattle.pc_types.specs.declared.types.TypeDef.TheVariants as def
use Rattle.pc_spec_plan.specs.PlanView as plan
use Rattle.pc_spec_plan.specs.Text.{stem, symbol_end}
use Rattle.pc_trampoline.specs.declared.part.Head.{Head}
use Rattle.pc_trampoline.specs.declared.part.Head.TheVariants as head
use Rattle.pc_trampoline.specs.declared.part.Mark.{Mark}
use Rattle.pc_trampoline.specs.declared.part.Mark.TheVariants as mark
use Rattle.pc_trampoline.specs.declared.part.Part.{Part}
use Rattle.pc_trampoline.specs.declared.part.Part.TheVariants as part
use Rattle.pc_trampoline.specs.declared.part.Parts.{Parts}
use Rattle.pc_trampoline.specs.declared.trampoline.Trampoline.{Trampoline}
use Rattle.pc_trampoline.specs.Parts.{list_of, parts_of}
use Rattle.pc_trampoline.specs.Transcoding.{address_bits, place_of}

-- the number of what is lowered, and of each options entry and slot
pub record Numbers (L O M T C P : Type 0) : Type 0 where
  pub lowered : L → ℕ
  pub options : O → ℕ
  pub memory : M → ℕ
  pub table : T → ℕ
  pub callback : C → ℕ
  pub post_return : P → ℕ

module _ {L O M T C P : Type 0} (n : Numbers L O M T C P) where
  -- a part, by number
  abbrev pub part_by : Part O M T C P → plan.TrampolinePart Mark
  part_by (part.Type_ ty) = plan.mark (mark.Type_ ty)
  part_by (part.Number i) = plan.number i
  part_by (part.Flag b) = plan.flag b
  part_by (part.Memory m) = plan.slot plan.memory (Some (n.memory m))
  part_by (part.MaybeMemory m) = plan.slot plan.memory (option_map n.memory m)
  part_by (part.Table t) = plan.slot plan.table (Some (n.table t))
  part_by (part.Callback c) = plan.slot plan.callback (option_map n.callback c)
  part_by (part.PostReturn p) = plan.slot plan.post_return (option_map n.post_return p)
  part_by (part.Options o) = plan.options (n.options o)

  -- the number of a resource, which stands in the symbol of its builtins
  abbrev pub resource_numbers : Part O M T C P → List ℕ
  resource_numbers (part.Type_ (def.Resource i)) = i.0 ∷ []
  resource_numbers p = []

  -- the numbers in a symbol
  abbrev pub symbol_numbers : Head L O → List (Part O M T C P) → List ℕ
  symbol_numbers (head.Lowering index ty o) parts = n.lowered index ∷ []
  symbol_numbers (head.Builtin c) parts = flat_map resource_numbers parts
  symbol_numbers head.Helper parts = []
  symbol_numbers (head.Transcoding op from64 to64) parts =
      place_of op ∷ address_bits from64 ∷ address_bits to64 ∷ []
  symbol_numbers (head.Trapping code) parts = code.0 ∷ []

  -- the parts with the core signature in front
  abbrev pub signed : ModuleInternedTypeIndex → List (Part O M T C P) → List (plan.TrampolinePart Mark)
  signed s parts = plan.mark (mark.Signature s) ∷ map part_by parts

  -- the entry of a kind under a core signature, from its head and its parts
  abbrev pub entry_of : ModuleInternedTypeIndex → TrampolineKind → Head L O → List (Part O M T C P)
      → plan.TrampolineEntry Mark
  entry_of s k (head.Lowering index ty o) parts =
      plan.lowers (n.lowered index) (mark.Signature s) (mark.Type_ (def.ComponentFunc ty)) (n.options o)
  entry_of s k (head.Builtin c) parts =
      plan.builtin k (symbol_numbers (head.Builtin c) parts) c.0 (signed s parts)
  entry_of s k h parts = plan.helper k (symbol_numbers h parts) (signed s parts)

  -- the entry of what a trampoline is made of
  abbrev pub parts_entry : ModuleInternedTypeIndex → Parts L O M T C P → plan.TrampolineEntry Mark
  parts_entry s p = entry_of s p.kind p.head (list_of p.parts)

  -- the entry of a trampoline under a core signature
  abbrev pub entry_by : ModuleInternedTypeIndex → Trampoline L O M T C P → plan.TrampolineEntry Mark
  entry_by s t = parts_entry s (parts_of t)

-- what a plan's trampoline is made of
abbrev pub PlanParts : Type 0
PlanParts =
    Parts LoweredIndex OptionsIndex RuntimeMemoryIndex RuntimeTableIndex RuntimeCallbackIndex RuntimePostReturnIndex

-- a plan's trampoline
abbrev pub PlanTrampoline : Type 0
PlanTrampoline =
    Trampoline LoweredIndex OptionsIndex RuntimeMemoryIndex RuntimeTableIndex RuntimeCallbackIndex
    RuntimePostReturnIndex

-- the numbers of a plan
abbrev pub plan_numbers : Numbers LoweredIndex OptionsIndex RuntimeMemoryIndex RuntimeTableIndex RuntimeCallbackIndex
    RuntimePostReturnIndex
plan_numbers = record {
  lowered = λ (i : LoweredIndex). i.0;
  options = λ (i : OptionsIndex). i.0;
  memory = λ (i : RuntimeMemoryIndex). i.0;
  table = λ (i : RuntimeTableIndex). i.0;
  callback = λ (i : RuntimeCallbackIndex). i.0;
  post_return = λ (i : RuntimePostReturnIndex). i.0;
}

-- the entry of a plan's trampoline under its core signature
abbrev pub entry_view : ModuleInternedTypeIndex → PlanTrampoline → plan.TrampolineEntry Mark
entry_view s t = entry_by plan_numbers s t

-- the symbol of a plan's trampoline, from what it is made of
abbrev pub symbol_of : PlanParts → List ℕ
symbol_of p = stem p.kind ++ symbol_end p.kind (symbol_numbers plan_numbers p.head (list_of p.parts))
