-- The layout of the context of a plan.
use Rattle.std.specs.Prelude.{ℕ, ◌+◌, ◌*◌, nat_le, zero, suc, List, [], ◌∷◌, length, Option, Some, None, if◌then◌else◌}
use Rattle.pc_entity.specs.declared.packed_option.PackedOption.{PackedOption}
use Rattle.pc_entity.specs.declared.packed_option.PackedOption.TheVariants as packed
use Rattle.pc_numbers.specs.declared.module_entity.ModuleInternedTypeIndex.{ModuleInternedTypeIndex}
use Rattle.pc_info.specs.declared.component.Component.{Component}
use Rattle.pc_offsets.specs.declared.layout.Field.{Field}
use Rattle.pc_offsets.specs.declared.offsets.VMComponentOffsets.{VMComponentOffsets}
use Rattle.pc_offsets.specs.Layout.{IsKept, size_of}

-- how many entries each array of a context has
pub record Entries : Type 0 where
  pub component_instances : ℕ
  pub trampolines : ℕ
  -- the greatest number of a used intrinsic, plus one
  pub intrinsics : ℕ
  pub lowerings : ℕ
  pub memories : ℕ
  pub tables : ℕ
  pub reallocs : ℕ
  pub callbacks : ℕ
  pub post_returns : ℕ
  pub resources : ℕ

-- a number that isn't zero, plus one
abbrev pub one_behind : ℕ → ℕ
one_behind zero = zero
one_behind (suc n) = suc (suc n)

-- the greatest number of an intrinsic with a signature here, plus one; zero where none has one
abbrev pub used_end : List (PackedOption ModuleInternedTypeIndex) → ℕ
used_end [] = 0
used_end (packed.None ∷ signatures) = one_behind (used_end signatures)
used_end (packed.Some signature ∷ signatures) = 1 + used_end signatures

-- those that a plan needs
abbrev pub entries_of : Component → Entries
entries_of c = record {
  component_instances = c.num_runtime_component_instances;
  trampolines = length c.trampolines;
  intrinsics = used_end c.unsafe_intrinsics;
  lowerings = c.num_lowerings;
  memories = c.num_runtime_memories;
  tables = c.num_runtime_tables;
  reallocs = c.num_runtime_reallocs;
  callbacks = c.num_runtime_callbacks;
  post_returns = c.num_runtime_post_returns;
  resources = c.num_resources;
}

-- so many entries of so many bytes, aligned
abbrev pub field : (count size align : ℕ) → Field
field count size align = record { count = count; size = size; align = align }

-- the fields of a context, where a pointer has p bytes: the magic number, two pointers, and ten arrays, which are the
-- flags of component instances, the function references of trampolines and of intrinsics, lowerings, memories, tables,
-- reallocs, callbacks, post-returns and destructors of resources
abbrev pub context : (p : ℕ) → Entries → List Field
context p e =
    field 1 4 4
    ∷ field 2 p p
    ∷ field e.component_instances 16 16
    ∷ field e.trampolines (4 * p) p
    ∷ field e.intrinsics (4 * p) p
    ∷ field e.lowerings (2 * p) p
    ∷ field e.memories p p
    ∷ field e.tables (2 * p) p
    ∷ field e.reallocs p p
    ∷ field e.callbacks p p
    ∷ field e.post_returns p p
    ∷ field e.resources p p
    ∷ []

-- the size of the context of a plan, where a `u32` holds it
unfoldable pub context_size : (p : ℕ) → Component → Option ℕ
context_size p c =
    let size = size_of (context p (entries_of c)) in
    if nat_le size 4294967295 then Some size else None

-- the entries for which offsets are kept
abbrev pub entries_for : {P : Type 0} → VMComponentOffsets P → Entries
entries_for o = record {
  component_instances = o.num_runtime_component_instances;
  trampolines = o.num_trampolines;
  intrinsics = o.num_unsafe_intrinsics;
  lowerings = o.num_lowerings;
  memories = o.num_runtime_memories;
  tables = o.num_runtime_tables;
  reallocs = o.num_runtime_reallocs;
  callbacks = o.num_runtime_callbacks;
  post_returns = o.num_runtime_post_returns;
  resources = o.num_resources;
}

-- the layout for which offsets are kept
abbrev pub layout_of : {P : Type 0} → (bytes : P → ℕ) → VMComponentOffsets P → List Field
layout_of bytes o = context (bytes o.ptr) (entries_for o)

-- offsets are those of their layout, which fits
abbrev pub IsLaidOut : {P : Type 0} → (bytes : P → ℕ) → VMComponentOffsets P → Type 0
IsLaidOut bytes o = IsKept (layout_of bytes o) o.starts o.size
