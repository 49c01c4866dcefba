-- No trampoline of a plan stands twice under one signature.
use Rattle.std.proofs.Common.{◌≡◌, ◌++◌, ◌⊎◌, inl, inr, ℕ, [], ◌∷◌, length, map, All, Some, refl, sym, ap, subst, ◌∙◌}
use Rattle.std.specs.Prelude.{slice_get}
use Rattle.std.specs.List.{flat_map}
use Rattle.std.proofs.lemmas.List.Elements.{All-head}
use Rattle.std.proofs.lemmas.Option.{same_Some, slice_get_within}
use Rattle.pc_entity.specs.Lists.{AreDistinct}
use Rattle.pc_dfg.specs.declared.ids.OptionsId.{OptionsId}
use Rattle.pc_dfg.specs.declared.ids.TableId.{TableId}
use Rattle.pc_numbers.specs.declared.module_entity.ModuleInternedTypeIndex.{ModuleInternedTypeIndex}
use Rattle.pc_numbers.specs.declared.runtime.LoweredIndex.{LoweredIndex}
use Rattle.pc_numbers.specs.declared.runtime.OptionsIndex.{OptionsIndex}
use Rattle.pc_numbers.specs.declared.runtime.RuntimeImportIndex.{RuntimeImportIndex}
use Rattle.pc_numbers.specs.declared.runtime.TrampolineIndex.{TrampolineIndex}
use Rattle.pc_types.specs.declared.trampoline.TrampolineKind.{TrampolineKind}
use Rattle.pc_spec_plan.specs.PlanView as plan
use Rattle.pc_trampoline.specs.declared.part.Head.{Head}
use Rattle.pc_trampoline.specs.declared.part.Head.TheVariants as head
use Rattle.pc_trampoline.specs.declared.part.Part.TheVariants as part
use Rattle.pc_trampoline.specs.declared.part.PartList.{PartList}
use Rattle.pc_trampoline.specs.declared.part.PartList.TheVariants as list
use Rattle.pc_trampoline.specs.Made.{parts_tell}
use Rattle.pc_trampoline.specs.Parts.{list_of, parts_of}
use Rattle.pc_trampoline.specs.View.{PlanTrampoline, entry_of, part_by}
use Rattle.pc_dfg.specs.declared.dfg.ComponentDfg.{ComponentDfg}
use Rattle.pc_dfg.specs.Numbers.{graph_numbers}
use Rattle.pc_dfg_linearize.specs.declared.id.Id.TheVariants as id
use Rattle.pc_dfg_linearize.specs.declared.state.Finish.{Finish}
use Rattle.pc_dfg_linearize.specs.Entries.{GraphPart, GraphParts, callback_in, head_in, list_in, memory_in, options_number}
use Rattle.pc_dfg_linearize.specs.Entries.{part_in, parts_in, post_return_in, table_in}
use Rattle.pc_dfg_linearize.specs.Numbers.{number_at}
use Rattle.pc_dfg_linearize.specs.Once.{Fills}
use Rattle.pc_dfg_linearize.specs.Parts.{HasNumber, in_part, in_trampoline, maybe_slot, number_of, options_id}
use Rattle.pc_dfg_linearize.specs.Represented.{Represents}
use Rattle.pc_dfg_linearize.proofs.PartLemmas.{all_left, all_right}
use Rattle.pc_dfg_linearize.proofs.RepresentedLemmas.{copied_parts}
use Rattle.pc_dfg_finish.proofs.SharedLemmas.{Callbacks, Memories, PostReturns, one_callback, one_entry, one_maybe}
use Rattle.pc_dfg_finish.proofs.SharedLemmas.{one_memory, one_post_return}

-- what stands before the parts, but for a lowering, as the graph has it
abbrev head_back : Head LoweredIndex OptionsIndex → Head RuntimeImportIndex OptionsId
head_back (head.Lowering index ty o) = head.Helper
head_back (head.Builtin c) = head.Builtin c
head_back head.Helper = head.Helper
head_back (head.Transcoding op from64 to64) = head.Transcoding op from64 to64
head_back (head.Trapping code) = head.Trapping code

-- the number of a lowering
abbrev lowered_at : Head LoweredIndex OptionsIndex → ℕ
lowered_at (head.Lowering index ty o) = index.0
lowered_at h = 0

module _ (f : Finish) (fills : Fills f) where
  one_table : (a b : TableId) → All (HasNumber f) (maybe_slot plan.table (Some a.0))
      → All (HasNumber f) (maybe_slot plan.table (Some b.0)) → table_in f a ≡ table_in f b → a ≡ b
  unfolding number_of
  one_table a b has has' same =
      let x = All-head (HasNumber f) (id.Table a) [] has in
      let y = All-head (HasNumber f) (id.Table b) [] has' in
      let one = one_entry f.numbers.tables f.counts.tables (fills.slots plan.table) a.0 b.0 x.0 y.0 x.1 y.1
      (ap (λ i. i.0) same) in
      ap (λ k. record { 0 = k }) one

  one_number : (a b : OptionsId) → All (HasNumber f) (options_id a.0 ∷ []) → All (HasNumber f) (options_id b.0 ∷ [])
      → options_number f a ≡ options_number f b → a ≡ b
  unfolding number_of
  one_number a b has has' same =
      let x = All-head (HasNumber f) (options_id a.0) [] has in
      let y = All-head (HasNumber f) (options_id b.0) [] has' in
      let one = one_entry f.numbers.options (length f.options) fills.options a.0 b.0 x.0 y.0 x.1 y.1
      (ap (λ i. i.0) same) in
      ap (λ k. record { 0 = k }) one

  -- parts that become one part are one
  one_part : (p q : GraphPart) → All (HasNumber f) (in_part (part_by graph_numbers p))
      → All (HasNumber f) (in_part (part_by graph_numbers q)) → part_in f p ≡ part_in f q → p ≡ q
  one_part (part.Type_ a) (part.Type_ b) has has' same = ap (λ x. part.Type_ x) (cc same)
  one_part (part.Number a) (part.Number b) has has' same = ap (λ x. part.Number x) (cc same)
  one_part (part.Flag a) (part.Flag b) has has' same = ap (λ x. part.Flag x) (cc same)
  one_part (part.Memory a) (part.Memory b) has has' same =
      ap (λ x. part.Memory x) (one_memory f fills a b has has' (cc same))
  one_part (part.MaybeMemory a) (part.MaybeMemory b) has has' same =
      ap (λ x. part.MaybeMemory x)
      (one_maybe (memory_in f) (Memories f fills) (one_memory f fills) a b has has' (cc same))
  one_part (part.Table a) (part.Table b) has has' same = ap (λ x. part.Table x) (one_table a b has has' (cc same))
  one_part (part.Callback a) (part.Callback b) has has' same =
      ap (λ x. part.Callback x)
      (one_maybe (callback_in f) (Callbacks f fills) (one_callback f fills) a b has has' (cc same))
  one_part (part.PostReturn a) (part.PostReturn b) has has' same =
      ap (λ x. part.PostReturn x)
      (one_maybe (post_return_in f) (PostReturns f fills) (one_post_return f fills) a b has has' (cc same))
  one_part (part.Options a) (part.Options b) has has' same =
      ap (λ x. part.Options x) (one_number a b has has' (cc same))
  one_part p q has has' same = absurd (cc same)

  one_list : (ps qs : PartList GraphPart)
      → All (HasNumber f) (flat_map in_part (map (part_by graph_numbers) (list_of ps)))
      → All (HasNumber f) (flat_map in_part (map (part_by graph_numbers) (list_of qs)))
      → list_in f ps ≡ list_in f qs → ps ≡ qs
  one_list list.Empty list.Empty has has' same = refl
  one_list (list.One p) (list.One q) has has' same =
      let left = all_left (HasNumber f) (in_part (part_by graph_numbers p)) [] has in
      let right = all_left (HasNumber f) (in_part (part_by graph_numbers q)) [] has' in
      ap (λ x. list.One x) (one_part p q left right (cc same))
  one_list (list.Two p p') (list.Two q q') has has' same =
      let xs = in_part (part_by graph_numbers p) in
      let xs' = in_part (part_by graph_numbers p') in
      let ys = in_part (part_by graph_numbers q) in
      let ys' = in_part (part_by graph_numbers q') in
      let first = one_part p q (all_left (HasNumber f) xs (xs' ++ []) has)
      (all_left (HasNumber f) ys (ys' ++ []) has') (cc same) in
      let second = one_part p' q'
      (all_left (HasNumber f) xs' [] (all_right (HasNumber f) xs (xs' ++ []) has))
      (all_left (HasNumber f) ys' [] (all_right (HasNumber f) ys (ys' ++ []) has')) (cc same) in
      λ i. list.Two (first i) (second i)
  one_list ps qs has has' same = absurd (cc same)

  -- what stands before the parts is one with them, or it is one lowering
  one_head : (s r : ModuleInternedTypeIndex) (t u : TrampolineIndex) (k l : TrampolineKind)
      (h j : Head RuntimeImportIndex OptionsId) (ps qs : PartList GraphPart)
      → All (HasNumber f) (in_trampoline t (entry_of graph_numbers s k h (list_of ps)))
      → All (HasNumber f) (in_trampoline u (entry_of graph_numbers r l j (list_of qs)))
      → head_in f t h ≡ head_in f u j → list_in f ps ≡ list_in f qs → (t.0 ≡ u.0) ⊎ ((h ≡ j) × (ps ≡ qs))
  unfolding number_of
  one_head s r t u k l (head.Lowering a ty o) (head.Lowering b ty' o') ps qs has has' same parts =
      let x = All-head (HasNumber f) (id.Lowering t) (id.Options o ∷ []) has in
      let y = All-head (HasNumber f) (id.Lowering u) (id.Options o' ∷ []) has' in
      inl (one_entry f.numbers.lowerings f.counts.lowerings fills.lowerings t.0 u.0 x.0 y.0 x.1 y.1
      (ap lowered_at same))
  one_head s r t u k l (head.Lowering a ty o) j ps qs has has' same parts = absurd (cc same)
  one_head s r t u k l h (head.Lowering b ty o) ps qs has has' same parts = absurd (cc same)
  one_head s r t u k l h j ps qs has has' same parts = inr (ap head_back same, one_list ps qs has has' parts)

  -- trampolines that become one are one, or are of one number
  one_trampoline : (s r : ModuleInternedTypeIndex) (t u : TrampolineIndex) (p q : GraphParts)
      → All (HasNumber f) (in_trampoline t (entry_of graph_numbers s p.kind p.head (list_of p.parts)))
      → All (HasNumber f) (in_trampoline u (entry_of graph_numbers r q.kind q.head (list_of q.parts)))
      → parts_in f t p ≡ parts_in f u q → (t.0 ≡ u.0) ⊎ (p ≡ q)
  one_trampoline s r t u p q has has' same =
      elim (one_head s r t u p.kind q.kind p.head q.head p.parts q.parts has has' (ap (λ x. x.head) same)
      (ap (λ x. x.parts) same)) [
        | inl number ↦ inl number
        | inr both ↦
            let kind = ap (λ x. x.kind) same in
            let front = both.0 in
            let parts = both.1 in
            inr (λ i. record { kind = kind i; head = front i; parts = parts i })
      ]

-- no trampoline of the plan stands twice, where none of the graph does
pub trampolines_apart : (g : ComponentDfg) (f : Finish) → Represents g f → Fills f → AreDistinct g.trampolines
    → (i j : ℕ) (s : ModuleInternedTypeIndex) (x : PlanTrampoline) → slice_get f.signatures i ≡ Some s
    → slice_get f.trampolines i ≡ Some x → slice_get f.signatures j ≡ Some s → slice_get f.trampolines j ≡ Some x
    → i ≡ j
unfolding number_of
trampolines_apart g f is fills distinct i j s x signed at signed' at' =
    let k = fills.trampolines.given i (slice_get_within f.trampolines i x at) in
    let l = fills.trampolines.given j (slice_get_within f.trampolines j x at') in
    let a = is.trampolines k.0 i k.1 in
    let b = is.trampolines l.0 j l.1 in
    let t : TrampolineIndex = record { 0 = k.0 } in
    let u : TrampolineIndex = record { 0 = l.0 } in
    let has = subst (All (HasNumber f)) (copied_parts g k.0 a.entry a.at) (is.parts (id.Trampoline t) (i, k.1)) in
    let has' = subst (All (HasNumber f)) (copied_parts g l.0 b.entry b.at) (is.parts (id.Trampoline u) (j, l.1)) in
    let made = same_Some a.made b.made (sym a.there ∙ at ∙ sym at' ∙ b.there) in
    let signature = same_Some a.entry.0 b.entry.0 (sym a.signature ∙ signed ∙ sym signed' ∙ b.signature) in
    let same = sym a.is ∙ ap parts_of made ∙ b.is in
    let number : k.0 ≡ l.0 =
    elim (one_trampoline f fills a.entry.0 b.entry.0 t u (parts_of a.entry.1) (parts_of b.entry.1) has has' same) [
      | inl one ↦ one
      | inr parts ↦
          let what = parts_tell a.entry.1 b.entry.1 parts in
          distinct k.0 l.0 a.entry a.at (b.at ∙ sym (λ n. Some (signature n, what n)))
    ] in
    same_Some i j (sym k.1 ∙ ap (number_at f.numbers.trampolines) number ∙ l.1)
