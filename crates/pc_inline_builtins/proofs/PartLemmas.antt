-- Parts of builtins, one by one and in a row: what they stand for, also when the tables have grown.
use Rattle.std.proofs.Common.{◌≡◌, ◌<◌, ℕ, zero, suc, Bool, List, [], ◌∷◌, All, Option, None, Some, length, map, refl, sym, ap, subst}
use Rattle.std.proofs.Common.{arith, ◌∙◌}
use Rattle.std.specs.List.{AllZip}
use Rattle.pc_types.specs.declared.types.TypeDef.{TypeDef}
use Rattle.pc_types.specs.TypeTree.{TypeTree}
use Rattle.pc_spec_plan.specs.CoreValue as value
use Rattle.pc_spec_plan.specs.CoreValue.{MaybeValue, map_part, map_parts}
use Rattle.pc_spec_plan.specs.PlanView as plan
use Rattle.pc_trampoline.specs.declared.part.Mark.{Mark as Number}
use Rattle.pc_trampoline.specs.declared.part.Mark.TheVariants as mark
use Rattle.pc_trampoline.specs.declared.part.Part.TheVariants as part
use Rattle.pc_trampoline.specs.View.{part_by}
use Rattle.pc_parsed.specs.Mark.{Mark, of_type}
use Rattle.pc_dfg.specs.declared.dfg.ComponentDfg.{ComponentDfg}
use Rattle.pc_dfg.specs.declared.ids.OptionsId.{OptionsId}
use Rattle.pc_dfg.specs.declared.ids.TableId.{TableId}
use Rattle.pc_dfg.specs.Grows as graph
use Rattle.pc_dfg.specs.Held.{HeldPart, HeldSlot}
use Rattle.pc_dfg.specs.Lists as list
use Rattle.pc_dfg.specs.Means.{MeansPart, MeansParts, MeansSlot, means_and_part, means_flag, means_mark, means_no_parts}
use Rattle.pc_dfg.specs.Means.{means_no_slot, means_number, means_options_part, means_slot, means_slot_part}
use Rattle.pc_dfg.specs.Numbers.{graph_numbers}
use Rattle.pc_dfg.proofs.AllLemmas.{all_none}
use Rattle.pc_dfg.proofs.GrowLemmas.{kept, within}
use Rattle.pc_dfg.proofs.KeptLemmas.{means_kept, options_kept}
use Rattle.pc_spec_reading.specs.Builtins.{parts_of, type_part}
use Rattle.pc_inline_state.specs.Fits.{Fits}
use Rattle.pc_inline_state.specs.Frames.{Both, both}
use Rattle.pc_inline_state.specs.Holds.{Numbered, number_of, whole_of}
use Rattle.pc_inline_state.specs.Slots.{EntryStands, SlotStands}
use Rattle.pc_inline_state.specs.Tables.{Keeps, Tables}
use Rattle.pc_inline_canon.proofs.MarkLemmas.{maybe_twice, options_twice, still}
use Rattle.pc_inline_builtins.specs.Made.{HasIts, Part, PartStands}
use Rattle.pc_inline_builtins.specs.Reads.{ReadPart}
use Rattle.pc_inline_builtins.specs.Written.{both_of}

module _ (b : Tables) where
  -- a type
  pub type_stands : (d : TypeDef) (tree : TypeTree) → HasIts b d tree → PartStands b (part.Type_ d) (type_part tree)
  unfolding HeldPart
  type_stands d tree holds = record {
    numbered = value.mark_part (record { number = mark.Type_ d; whole = of_type tree; holds = holds });
    means = means_mark;
    is = refl;
    held = tt;
  }

  -- a number
  pub number_stands : (n : ℕ) → PartStands b (part.Number n) (value.number_part n)
  unfolding HeldPart
  number_stands n = record { numbered = value.number_part n; means = means_number; is = refl; held = tt }

  -- a flag
  pub flag_stands : (x : Bool) → PartStands b (part.Flag x) (value.flag_part x)
  unfolding HeldPart
  flag_stands x = record { numbered = value.flag_part x; means = means_flag; is = refl; held = tt }

  -- options
  pub options_stands : (o : OptionsId) (v : value.Options Mark) → EntryStands b o.0 v → o.0 < length b.graph.options
      → PartStands b (part.Options o) (value.options_part v)
  unfolding HeldPart
  options_stands o v entry held = record {
    numbered = value.options_part entry.numbered;
    means = means_options_part entry.means;
    is = ap value.options_part entry.is;
    held = held;
  }

  -- a table
  pub table_stands : (n : TableId) (v : MaybeValue Mark) → SlotStands b plan.table (Some n.0) v
      → HeldSlot b.graph plan.table (Some n.0) → PartStands b (part.Table n) (value.value_part v)
  unfolding HeldPart
  table_stands n v slot held = record {
    numbered = value.value_part slot.numbered;
    means = means_slot_part slot.means;
    is = ap value.value_part slot.is;
    held = held;
  }

  -- parts in a row, with numbers and whole
  pub record PartsMean (ps : List Part) (vs : List ReadPart) : Type 0 where
    pub numbered : value.Parts (Numbered b.types (Fits b.graph))
    pub means : MeansParts b.graph (map (part_by graph_numbers) ps)
        (map_parts (number_of b.types (Fits b.graph)) numbered)
    pub is : map_parts (whole_of b.types (Fits b.graph)) numbered ≡ parts_of vs
    pub held : All (HeldPart b.graph) (map (part_by graph_numbers) ps)

  pub all_cons : {A : Type 0} (P : A → Type 0) (x : A) (xs : List A) → P x → All P xs → All P (x ∷ xs)
  all_cons P x xs p all zero d below = p
  all_cons P x xs p all (suc k) d below = all k d (omega (arith, below))

  pub parts_mean : (ps : List Part) (vs : List ReadPart) → AllZip (PartStands b) ps vs → PartsMean ps vs
  parts_mean [] [] zip = record {
    numbered = value.no_parts;
    means = means_no_parts;
    is = refl;
    held = all_none (HeldPart b.graph);
  }
  parts_mean [] (v ∷ vs) zip = absurd zip
  parts_mean (p ∷ ps) [] zip = absurd zip
  parts_mean (p ∷ ps) (v ∷ vs) zip =
      let one = zip.0 in
      let rest = parts_mean ps vs zip.1 in
      record {
        numbered = value.and_part one.numbered rest.numbered;
        means = means_and_part one.means rest.means;
        is = λ i. value.and_part (one.is i) (rest.is i);
        held = all_cons (HeldPart b.graph) _ _ one.held rest.held;
      }

  -- no, one or two parts
  pub both_stand : (p q : Option Part) (v w : Option ReadPart) → Both (PartStands b) p v → Both (PartStands b) q w
      → AllZip (PartStands b) (both_of p q) (both_of v w)
  both_stand None None None None m n = tt
  both_stand None None None (Some w) m n = elim n [ ]
  both_stand None None (Some v) w m n = elim m [ ]
  both_stand None (Some q) None None m n = elim n [ ]
  both_stand None (Some q) None (Some w) m (both s) = (s, tt)
  both_stand None (Some q) (Some v) w m n = elim m [ ]
  both_stand (Some p) q None w m n = elim m [ ]
  both_stand (Some p) None (Some v) None (both r) n = (r, tt)
  both_stand (Some p) None (Some v) (Some w) m n = elim n [ ]
  both_stand (Some p) (Some q) (Some v) None m n = elim n [ ]
  both_stand (Some p) (Some q) (Some v) (Some w) (both r) (both s) = (r, (s, tt))

module _ {τ υ ω : Type 0} (f : τ → υ) (h : υ → ω) where
  -- a part mapped twice is mapped once by both
  part_twice : (p : value.Part τ) → map_part h (map_part f p) ≡ map_part (λ m. h (f m)) p
  part_twice (value.mark_part m) = refl
  part_twice (value.number_part n) = refl
  part_twice (value.flag_part b) = refl
  part_twice (value.value_part v) = let a = maybe_twice f h v in λ i. value.value_part (a i)
  part_twice (value.options_part o) = let a = options_twice f h o in λ i. value.options_part (a i)

module _ (g h : ComponentDfg) (grows : graph.Grows g h) where
  slot_means : {k : plan.SlotKind} {n : Option ℕ} {v : MaybeValue Number} → MeansSlot g k n v → MeansSlot h k n v
  slot_means means_no_slot = means_no_slot
  slot_means (means_slot {k = k} at m) = means_slot (kept g h grows (list.slots k) _ _ at) (means_kept g h grows m)

  part_means : {p : plan.TrampolinePart Number} {v : value.Part Number} → MeansPart g p v → MeansPart h p v
  part_means means_mark = means_mark
  part_means means_number = means_number
  part_means means_flag = means_flag
  part_means (means_slot_part s) = means_slot_part (slot_means s)
  part_means (means_options_part o) = means_options_part (options_kept g h grows o)

  slot_held : (k : plan.SlotKind) (n : Option ℕ) → HeldSlot g k n → HeldSlot h k n
  unfolding HeldSlot
  slot_held k None held = held
  slot_held k (Some n) held = within g h grows (list.slots k) n held

  part_held : (p : plan.TrampolinePart Number) → HeldPart g p → HeldPart h p
  unfolding HeldPart
  part_held (plan.mark m) held = held
  part_held (plan.number n) held = held
  part_held (plan.flag x) held = held
  part_held (plan.slot k n) held = slot_held k n held
  part_held (plan.options o) held = within g h grows list.options o held

-- a part stands for what it stood for when the tables have grown
pub part_kept : (b c : Tables) → Keeps b c → (p : Part) (v : ReadPart) → PartStands b p v → PartStands c p v
part_kept b c keeps p v s =
    let on : Numbered b.types (Fits b.graph) → Numbered c.types (Fits c.graph) =
    still b.types c.types keeps.types b.graph c.graph keeps.fits in
    record {
      numbered = map_part on s.numbered;
      means = subst (MeansPart c.graph (part_by graph_numbers p))
          (sym (part_twice on (number_of c.types (Fits c.graph)) s.numbered))
          (part_means b.graph c.graph keeps.graph s.means);
      is = part_twice on (whole_of c.types (Fits c.graph)) s.numbered ∙ s.is;
      held = part_held b.graph c.graph keeps.graph (part_by graph_numbers p) s.held;
    }
