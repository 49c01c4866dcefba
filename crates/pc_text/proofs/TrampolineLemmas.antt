-- The lines of trampolines, by what they are made of.
use Rattle.std.proofs.Common.{◌≡◌, ℕ, ◌+◌, ◌<◌, ◌≤◌, Bool, true, false, List, [], ◌∷◌, ◌++◌, length, map, drop, get_or}
use Rattle.std.proofs.Common.{refl, sym, ap, subst, ◌∙◌, append_assoc, add-one, true≢false}
use Rattle.std.proofs.Math.Seq.{drop-cons}
use Rattle.std.proofs.lemmas.List.{append-nil, drop_all}
use Rattle.std.specs.Prelude.{codes, slice_get, unwrap_or}
use Rattle.std.specs.List.{flat_map}
use Rattle.pc_numbers.specs.declared.module_entity.ModuleInternedTypeIndex.{ModuleInternedTypeIndex}
use Rattle.pc_numbers.specs.declared.runtime.LoweredIndex.{LoweredIndex}
use Rattle.pc_numbers.specs.declared.runtime.OptionsIndex.{OptionsIndex}
use Rattle.pc_numbers.specs.declared.runtime.RuntimeCallbackIndex.{RuntimeCallbackIndex}
use Rattle.pc_numbers.specs.declared.runtime.RuntimeMemoryIndex.{RuntimeMemoryIndex}
use Rattle.pc_numbers.specs.declared.runtime.RuntimePostReturnIndex.{RuntimePostReturnIndex}
use Rattle.pc_numbers.specs.declared.runtime.RuntimeTableIndex.{RuntimeTableIndex}
use Rattle.pc_types.specs.declared.trampoline.TrampolineKind.{TrampolineKind}
use Rattle.pc_types.specs.declared.trampoline.TrampolineKind.TheVariants as kind
use Rattle.pc_spec_plan.specs.Text.{in_brackets, line_end, number, numbered, part, stem, symbol_end, trampoline_end}
use Rattle.pc_spec_plan.specs.Text.{trampoline_line}
use Rattle.pc_trampoline.specs.declared.part.Head.{Head}
use Rattle.pc_trampoline.specs.declared.part.Head.TheVariants as head
use Rattle.pc_trampoline.specs.declared.part.Part.{Part}
use Rattle.pc_trampoline.specs.Parts.{list_of, parts_of}
use Rattle.pc_trampoline.specs.Shape as shape
use Rattle.pc_trampoline.specs.Shape.{HeadShape, IsShaped, Shape, head_shape, shape_of}
use Rattle.pc_trampoline.specs.View.{PlanParts, PlanTrampoline, entry_of, entry_view, part_by, parts_entry}
use Rattle.pc_trampoline.specs.View.{plan_numbers, symbol_numbers, symbol_of}
use Rattle.pc_info.specs.View.{no_signature, trampolines_view}
use Rattle.pc_text.specs.TrampolineText.{after_head, after_symbol}

-- whether a head is that of a lowering
abbrev is_lowering : HeadShape → Bool
is_lowering shape.lowering = true
is_lowering shape.builtin = false
is_lowering shape.helper = false
is_lowering shape.transcoding = false
is_lowering shape.trapping = false

-- a lowering is of one kind
lowering_kind : (k : TrampolineKind) → shape.lowering ≡ (shape_of k).head → k ≡ kind.LowerImport
unfolding shape_of
lowering_kind kind.LowerImport h = refl
lowering_kind k h = absurd (true≢false (ap is_lowering h))

-- a part of a plan's trampoline
abbrev PlanPart : Type 0
PlanPart = Part OptionsIndex RuntimeMemoryIndex RuntimeTableIndex RuntimeCallbackIndex RuntimePostReturnIndex

-- the text of parts
abbrev parts_text : List PlanPart → List ℕ
parts_text ps = flat_map part (map (part_by plan_numbers) ps)

-- what stands in a line from the symbol on is the symbol and what follows it, whatever the signature is
end_by : (s : ModuleInternedTypeIndex) (k : TrampolineKind) (h : Head LoweredIndex OptionsIndex) (ps : List PlanPart)
    → head_shape h ≡ (shape_of k).head
    → trampoline_end (entry_of plan_numbers s k h ps)
    ≡ (stem k ++ symbol_end k (symbol_numbers plan_numbers h ps)) ++ after_head h (parts_text ps)
end_by s k (head.Lowering index ty o) ps shaped =
    let line = stem kind.LowerImport ++ in_brackets (index.0 ∷ []) in
    subst (λ (l : TrampolineKind). line ++ number index.0 ++ number o.0
    ≡ (stem l ++ symbol_end l (index.0 ∷ [])) ++ (number index.0 ++ number o.0)) (sym (lowering_kind k shaped))
    (append_assoc line (number index.0) (number o.0))
end_by s k (head.Builtin c) ps shaped =
    append_assoc (stem k ++ symbol_end k (symbol_numbers plan_numbers (head.Builtin c) ps)) (number c.0) (parts_text ps)
end_by s k head.Helper ps shaped = refl
end_by s k (head.Transcoding op from64 to64) ps shaped = refl
end_by s k (head.Trapping code) ps shaped = refl

-- the same of what a trampoline is made of
made_end : (s : ModuleInternedTypeIndex) (made : PlanParts) → IsShaped made
    → trampoline_end (parts_entry plan_numbers s made) ≡ symbol_of made ++ after_symbol made
made_end s made shaped =
    end_by s made.kind made.head (list_of made.parts) (ap (λ (whole : Shape). whole.head) shaped)

-- the pieces of a line stand behind each other
pieces : (old a b c d e z : List ℕ)
    → old ++ a ++ b ++ c ++ d ++ e ++ z ≡ old ++ (a ++ b ++ c ++ (d ++ e) ++ z)
pieces old a b c d e z = simp append_assoc

-- the pieces of a trampoline's line make the line, whatever the signature is
pub line_of : (s : ModuleInternedTypeIndex) (t : PlanTrampoline) (made : PlanParts) (old : List ℕ) (n : ℕ)
    → made ≡ parts_of t → IsShaped made
    → old ++ codes "trampoline" ++ number n ++ codes " " ++ symbol_of (parts_of t) ++ after_symbol made ++ line_end
    ≡ old ++ trampoline_line n (entry_view s t)
line_of s t made old n is shaped =
    let same = subst (λ (m : PlanParts). trampoline_end (parts_entry plan_numbers s m)
    ≡ symbol_of (parts_of t) ++ after_symbol made) is
    (made_end s made shaped
    ∙ ap (λ (m : PlanParts). symbol_of m ++ after_symbol made) is) in
    pieces old (codes "trampoline") (number n) (codes " ") (symbol_of (parts_of t)) (after_symbol made) line_end
    ∙ ap (λ (end : List ℕ). old ++ (codes "trampoline" ++ number n ++ codes " " ++ end ++ line_end)) (sym same)

-- the lines of trampolines from a place on
abbrev pub lines_from : ℕ → List ModuleInternedTypeIndex → List PlanTrampoline → List ℕ
lines_from n signatures ts = numbered trampoline_line n (trampolines_view n signatures ts)

-- one line more was printed, and those behind it are left
pub line_done : (n : ℕ) (signatures : List ModuleInternedTypeIndex) (ts : List PlanTrampoline) (d : PlanTrampoline)
    (before after all : List ℕ) → n < length ts
    → ((s : ModuleInternedTypeIndex) → after ≡ before ++ trampoline_line n (entry_view s (get_or ts n d)))
    → before ++ lines_from n signatures (drop n ts) ≡ all
    → after ++ lines_from (n + 1) signatures (drop (n + 1) ts) ≡ all
line_done n signatures ts d before after all within printed left =
    let s = unwrap_or (slice_get signatures n) no_signature in
    let t = get_or ts n d in
    let line = trampoline_line n (entry_view s t) in
    let rest = lines_from (n + 1) signatures (drop (n + 1) ts) in
    let next : drop n ts ≡ t ∷ drop (n + 1) ts = rw add-one (drop-cons ts n d within) in
    ap (λ (o : List ℕ). o ++ rest) (printed s) ∙ append_assoc before line rest
    ∙ ap (λ (ys : List PlanTrampoline). before ++ lines_from n signatures ys) (sym next) ∙ left

-- at the end all lines are printed
pub lines_end : (n : ℕ) (signatures : List ModuleInternedTypeIndex) (ts : List PlanTrampoline) (out all : List ℕ)
    → length ts ≤ n → out ++ lines_from n signatures (drop n ts) ≡ all → out ≡ all
lines_end n signatures ts out all past left =
    sym (append-nil out)
    ∙ ap (λ (ys : List PlanTrampoline). out ++ lines_from n signatures ys) (sym (drop_all n ts past)) ∙ left
