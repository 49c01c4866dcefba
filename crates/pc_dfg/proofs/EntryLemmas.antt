-- A trampoline is told by its entry, and by what its parts are.
use Rattle.std.proofs.Common.{◌≡◌, Bool, List, [], ◌∷◌, Option, None, Some, refl, ap, subst, sym, ◌∙◌}
use Rattle.std.proofs.lemmas.Option.{same_Some}
use Rattle.std.specs.Prelude.{map, option_map, slice_get, true, false}
use Rattle.pc_dfg.specs.declared.ids.CallbackId.{CallbackId}
use Rattle.pc_dfg.specs.declared.ids.MemoryId.{MemoryId}
use Rattle.pc_dfg.specs.declared.ids.OptionsId.{OptionsId}
use Rattle.pc_dfg.specs.declared.ids.PostReturnId.{PostReturnId}
use Rattle.pc_dfg.specs.declared.ids.TableId.{TableId}
use Rattle.pc_numbers.specs.declared.module_entity.ModuleInternedTypeIndex.{ModuleInternedTypeIndex}
use Rattle.pc_numbers.specs.declared.runtime.RuntimeImportIndex.{RuntimeImportIndex}
use Rattle.pc_types.specs.declared.trampoline.TrampolineKind.{TrampolineKind}
use Rattle.pc_types.specs.declared.trampoline.TrampolineKind.TheVariants as kind
use Rattle.pc_spec_plan.specs.PlanView as plan
use Rattle.pc_trampoline.specs.declared.part.Head.{Head}
use Rattle.pc_trampoline.specs.declared.part.Head.TheVariants as head
use Rattle.pc_trampoline.specs.declared.part.Mark.{Mark}
use Rattle.pc_trampoline.specs.declared.part.Part.{Part}
use Rattle.pc_trampoline.specs.declared.part.Part.TheVariants as part
use Rattle.pc_trampoline.specs.declared.part.PartList.{PartList}
use Rattle.pc_trampoline.specs.declared.part.PartList.TheVariants as list
use Rattle.pc_trampoline.specs.declared.transcode.FixedEncoding.TheVariants as encoding
use Rattle.pc_trampoline.specs.declared.transcode.Transcode.{Transcode}
use Rattle.pc_trampoline.specs.declared.transcode.Transcode.TheVariants as op
use Rattle.pc_trampoline.specs.Made.{parts_tell}
use Rattle.pc_trampoline.specs.Parts.{list_of, parts_of}
use Rattle.pc_trampoline.specs.Shape as shape
use Rattle.pc_trampoline.specs.Shape.{head_shape, part_shape, shape_of}
use Rattle.pc_trampoline.specs.Transcoding.{address_bits, place_of}
use Rattle.pc_trampoline.specs.View.{entry_of, part_by}
use Rattle.pc_trampoline.proofs.ShapeLemmas.{made_shaped}
use Rattle.pc_dfg.specs.Numbers.{SignedTrampoline, graph_numbers, trampoline_entry}
use Rattle.pc_dfg.specs.Told.{IsLowering}

-- a part of a graph's trampoline
abbrev pub GraphPart : Type 0
GraphPart = Part OptionsId MemoryId TableId CallbackId PostReturnId

-- what stands before the parts of a graph's trampoline
abbrev pub GraphHead : Type 0
GraphHead = Head RuntimeImportIndex OptionsId

-- two parts that are one, if they are slots of one kind or none is a slot
abbrev pub PartSame : plan.TrampolinePart Mark → plan.TrampolinePart Mark → Type 0
PartSame (plan.mark m) (plan.mark n) = m ≡ n
PartSame (plan.number m) (plan.number n) = m ≡ n
PartSame (plan.flag a) (plan.flag b) = a ≡ b
PartSame (plan.slot k m) (plan.slot l n) = k ≡ l → m ≡ n
PartSame (plan.options m) (plan.options n) = m ≡ n
PartSame p q = true ≡ false

-- the same of two lists, place by place
abbrev pub PartsSame : List (plan.TrampolinePart Mark) → List (plan.TrampolinePart Mark) → Type 0
PartsSame [] [] = Unit {0}
PartsSame (p ∷ ps) (q ∷ qs) = PartSame p q × PartsSame ps qs
PartsSame ps qs = true ≡ false

-- two entries that are one, but for slots and the signature of a lowering
abbrev pub EntrySame : plan.TrampolineEntry Mark → plan.TrampolineEntry Mark → Type 0
EntrySame (plan.lowers r s ty o) (plan.lowers q t uy p) = (r ≡ q) × (ty ≡ uy) × (o ≡ p)
EntrySame (plan.builtin k xs c ps) (plan.builtin l ys d qs) = (k ≡ l) × (c ≡ d) × PartsSame ps qs
EntrySame (plan.helper k xs ps) (plan.helper l ys qs) = (k ≡ l) × (xs ≡ ys) × PartsSame ps qs
EntrySame e f = true ≡ false

-- parts with a mark in front
abbrev pub StartsMarked : List (plan.TrampolinePart Mark) → Type 0
StartsMarked (plan.mark m ∷ ps) = Unit {0}
StartsMarked ps = true ≡ false

-- an entry whose parts, if it is a helper's, have a mark in front
abbrev pub IsMarked : plan.TrampolineEntry Mark → Type 0
IsMarked (plan.helper k xs ps) = StartsMarked ps
IsMarked e = Unit {0}

-- each entry of a graph's trampolines is one
marked_by : (s : ModuleInternedTypeIndex) (k : TrampolineKind) (h : GraphHead) (ps : List GraphPart)
    → IsMarked (entry_of graph_numbers s k h ps)
marked_by s k (head.Lowering index ty o) ps = tt
marked_by s k (head.Builtin c) ps = tt
marked_by s k head.Helper ps = tt
marked_by s k (head.Transcoding op a b) ps = tt
marked_by s k (head.Trapping code) ps = tt

pub marked : (x : SignedTrampoline) → IsMarked (trampoline_entry x)
marked x = marked_by x.0 (parts_of x.1).kind (parts_of x.1).head (list_of (parts_of x.1).parts)

-- numbers that are one, with their ids
memories_tell : (m n : Option MemoryId) → option_map (λ (x : MemoryId). x.0) m ≡ option_map (λ (x : MemoryId). x.0) n
    → m ≡ n
memories_tell None None h = refl
memories_tell (Some m) (Some n) h = ap (λ x. Some (record { 0 = x })) (same_Some m.0 n.0 h)
memories_tell m n h = cc

callbacks_tell : (m n : Option CallbackId)
    → option_map (λ (x : CallbackId). x.0) m ≡ option_map (λ (x : CallbackId). x.0) n → m ≡ n
callbacks_tell None None h = refl
callbacks_tell (Some m) (Some n) h = ap (λ x. Some (record { 0 = x })) (same_Some m.0 n.0 h)
callbacks_tell m n h = cc

post_returns_tell : (m n : Option PostReturnId)
    → option_map (λ (x : PostReturnId). x.0) m ≡ option_map (λ (x : PostReturnId). x.0) n → m ≡ n
post_returns_tell None None h = refl
post_returns_tell (Some m) (Some n) h = ap (λ x. Some (record { 0 = x })) (same_Some m.0 n.0 h)
post_returns_tell m n h = cc

-- a part of a shape is told by its entry
part_tells : (p q : GraphPart) → part_shape p ≡ part_shape q
    → PartSame (part_by graph_numbers p) (part_by graph_numbers q) → p ≡ q
part_tells (part.Type_ a) (part.Type_ b) s h = let one : a ≡ b = cc in ap part.Type_ one
part_tells (part.Number a) (part.Number b) s h = ap part.Number h
part_tells (part.Flag a) (part.Flag b) s h = ap part.Flag h
part_tells (part.Memory a) (part.Memory b) s h =
    ap (λ x. part.Memory (record { 0 = x })) (same_Some a.0 b.0 (h refl))
part_tells (part.MaybeMemory a) (part.MaybeMemory b) s h = ap part.MaybeMemory (memories_tell a b (h refl))
part_tells (part.Table a) (part.Table b) s h = ap (λ x. part.Table (record { 0 = x })) (same_Some a.0 b.0 (h refl))
part_tells (part.Callback a) (part.Callback b) s h = ap part.Callback (callbacks_tell a b (h refl))
part_tells (part.PostReturn a) (part.PostReturn b) s h = ap part.PostReturn (post_returns_tell a b (h refl))
part_tells (part.Options a) (part.Options b) s h = ap (λ x. part.Options (record { 0 = x })) h
part_tells p q s h = cc

-- up to two parts are told by the list of their entries
list_tells : (ps qs : PartList GraphPart) → map part_shape (list_of ps) ≡ map part_shape (list_of qs)
    → PartsSame (map (part_by graph_numbers) (list_of ps)) (map (part_by graph_numbers) (list_of qs)) → ps ≡ qs
list_tells list.Empty list.Empty s h = refl
list_tells (list.One a) (list.One b) s h =
    let one : part_shape a ≡ part_shape b = cc in ap list.One (part_tells a b one h.0)
list_tells (list.Two a c) (list.Two b d) s h =
    let one : part_shape a ≡ part_shape b = cc in
    let two : part_shape c ≡ part_shape d = cc in
    let first = part_tells a b one h.0 in
    let second = part_tells c d two h.1.0 in
    λ i. list.Two (first i) (second i)
list_tells ps qs s h = cc

-- a lowering's kind
lowering_kind : (k : TrampolineKind) → (shape_of k).head ≡ shape.lowering → k ≡ kind.LowerImport
unfolding shape_of
lowering_kind kind.LowerImport h = refl
lowering_kind k h = cc

-- the transcodings in order
transcodings : List Transcode
transcodings =
    op.Copy encoding.Utf8 ∷ op.Copy encoding.Utf16 ∷ op.Copy encoding.Latin1 ∷ op.Latin1ToUtf16 ∷ op.Latin1ToUtf8
    ∷ op.Utf16ToCompactProbablyUtf16 ∷ op.Utf16ToCompactUtf16 ∷ op.Utf16ToLatin1 ∷ op.Utf16ToUtf8
    ∷ op.Utf8ToCompactUtf16 ∷ op.Utf8ToLatin1 ∷ op.Utf8ToUtf16 ∷ []

-- each stands at its number
at_its_place : (a : Transcode) → slice_get transcodings (place_of a) ≡ Some a
unfolding transcodings
at_its_place (op.Copy encoding.Utf8) = refl
at_its_place (op.Copy encoding.Utf16) = refl
at_its_place (op.Copy encoding.Latin1) = refl
at_its_place a = refl

place_tells : (a b : Transcode) → place_of a ≡ place_of b → a ≡ b
place_tells a b h = same_Some a b (sym (at_its_place a) ∙ ap (slice_get transcodings) h ∙ at_its_place b)

bits_tell : (a b : Bool) → address_bits a ≡ address_bits b → a ≡ b
bits_tell true true h = refl
bits_tell false false h = refl
bits_tell a b h = cc

-- a lowering has no parts
no_parts : (k : TrampolineKind) → k ≡ kind.LowerImport → (shape_of k).parts ≡ []
unfolding shape_of
no_parts k is = ap (λ z. (shape_of z).parts) is

-- two lists with no parts are one
both_none : (ps qs : PartList GraphPart) → map part_shape (list_of ps) ≡ [] → map part_shape (list_of qs) ≡ []
    → ps ≡ qs
both_none list.Empty list.Empty x y = refl
both_none ps qs x y = cc

module _ (s t : ModuleInternedTypeIndex) (k l : TrampolineKind) where
  -- entries that are one have one kind
  kinds_tell : (h f : GraphHead) (ps qs : List GraphPart) → head_shape h ≡ (shape_of k).head
      → head_shape f ≡ (shape_of l).head
      → EntrySame (entry_of graph_numbers s k h ps) (entry_of graph_numbers t l f qs) → k ≡ l
  kinds_tell (head.Lowering r a o) (head.Lowering q b p) ps qs x y e =
      lowering_kind k (sym x) ∙ sym (lowering_kind l (sym y))
  kinds_tell (head.Builtin c) (head.Builtin d) ps qs x y e = e.0
  kinds_tell head.Helper head.Helper ps qs x y e = e.0
  kinds_tell head.Helper (head.Transcoding b v w) ps qs x y e = e.0
  kinds_tell head.Helper (head.Trapping b) ps qs x y e = e.0
  kinds_tell (head.Transcoding a v w) head.Helper ps qs x y e = e.0
  kinds_tell (head.Transcoding a v w) (head.Transcoding b from to) ps qs x y e = e.0
  kinds_tell (head.Transcoding a v w) (head.Trapping b) ps qs x y e = e.0
  kinds_tell (head.Trapping a) head.Helper ps qs x y e = e.0
  kinds_tell (head.Trapping a) (head.Transcoding b v w) ps qs x y e = e.0
  kinds_tell (head.Trapping a) (head.Trapping b) ps qs x y e = e.0
  kinds_tell h f ps qs x y e = cc

  -- heads of one shape are told by their entries
  heads_tell : (h f : GraphHead) (ps qs : List GraphPart) → head_shape h ≡ head_shape f
      → EntrySame (entry_of graph_numbers s k h ps) (entry_of graph_numbers t l f qs) → h ≡ f
  heads_tell (head.Lowering r a o) (head.Lowering q b p) ps qs same e =
      let host : r.0 ≡ q.0 = e.0 in
      let marks = e.1 in
      let ty : a.0 ≡ b.0 = cc in
      let options : o.0 ≡ p.0 = e.2 in
      λ i. head.Lowering (record { 0 = host i }) (record { 0 = ty i }) (record { 0 = options i })
  heads_tell (head.Builtin c) (head.Builtin d) ps qs same e = ap (λ n. head.Builtin (record { 0 = n })) e.1
  heads_tell head.Helper head.Helper ps qs same e = refl
  heads_tell (head.Transcoding a v w) (head.Transcoding b x y) ps qs same e =
      let numbers = e.1 in
      let place : place_of a ≡ place_of b = cc in
      let from : address_bits v ≡ address_bits x = cc in
      let to : address_bits w ≡ address_bits y = cc in
      let one = place_tells a b place in
      let two = bits_tell v x from in
      let three = bits_tell w y to in
      λ i. head.Transcoding (one i) (two i) (three i)
  heads_tell (head.Trapping a) (head.Trapping b) ps qs same e =
      let numbers = e.1 in
      let code : a.0 ≡ b.0 = cc in
      ap (λ n. head.Trapping (record { 0 = n })) code
  heads_tell h f ps qs same e = cc

  -- under one head, the parts of entries that are one are one
  parts_tell_by : (h : GraphHead) (ps qs : PartList GraphPart) → head_shape h ≡ (shape_of k).head
      → map part_shape (list_of ps) ≡ (shape_of k).parts → map part_shape (list_of qs) ≡ (shape_of k).parts
      → EntrySame (entry_of graph_numbers s k h (list_of ps)) (entry_of graph_numbers t l h (list_of qs)) → ps ≡ qs
  parts_tell_by (head.Lowering r a o) ps qs h x y e =
      let none = no_parts k (lowering_kind k (sym h)) in
      both_none ps qs (x ∙ none) (y ∙ none)
  parts_tell_by (head.Builtin c) ps qs h x y e = list_tells ps qs (x ∙ sym y) e.2.1
  parts_tell_by head.Helper ps qs h x y e = list_tells ps qs (x ∙ sym y) e.2.1
  parts_tell_by (head.Transcoding a v w) ps qs h x y e = list_tells ps qs (x ∙ sym y) e.2.1
  parts_tell_by (head.Trapping a) ps qs h x y e = list_tells ps qs (x ∙ sym y) e.2.1

  -- and so are the signatures, unless they are of lowerings
  signature_by : (h : GraphHead) (ps qs : List GraphPart)
      → EntrySame (entry_of graph_numbers s k h ps) (entry_of graph_numbers t l h qs)
      → (head_shape h ≡ shape.lowering → s ≡ t) → s ≡ t
  signature_by (head.Lowering r a o) ps qs e lowers = lowers refl
  signature_by (head.Builtin c) ps qs e lowers = (let marks = e.2.0 in cc)
  signature_by head.Helper ps qs e lowers = (let marks = e.2.0 in cc)
  signature_by (head.Transcoding a v w) ps qs e lowers = (let marks = e.2.0 in cc)
  signature_by (head.Trapping a) ps qs e lowers = (let marks = e.2.0 in cc)

-- a trampoline with its signature is told by its entry, where the signatures of lowerings are told
pub trampoline_tells : (x y : SignedTrampoline) → EntrySame (trampoline_entry x) (trampoline_entry y)
    → (IsLowering x.1 → x.1 ≡ y.1 → x.0 ≡ y.0) → x ≡ y
trampoline_tells x y e lowers =
    let p = parts_of x.1 in
    let q = parts_of y.1 in
    let front : head_shape p.head ≡ (shape_of p.kind).head = ap (λ z. z.head) (made_shaped x.1) in
    let back : head_shape q.head ≡ (shape_of q.kind).head = ap (λ z. z.head) (made_shaped y.1) in
    let kinds = kinds_tell x.0 y.0 p.kind q.kind p.head q.head (list_of p.parts) (list_of q.parts) front back e in
    let shapes = front ∙ ap (λ z. (shape_of z).head) kinds ∙ sym back in
    let heads = heads_tell x.0 y.0 p.kind q.kind p.head q.head (list_of p.parts) (list_of q.parts) shapes e in
    let one = subst (λ z. EntrySame (trampoline_entry x) (entry_of graph_numbers y.0 q.kind z (list_of q.parts)))
    (sym heads) e in
    let first : map part_shape (list_of p.parts) ≡ (shape_of p.kind).parts = ap (λ z. z.parts) (made_shaped x.1) in
    let second : map part_shape (list_of q.parts) ≡ (shape_of p.kind).parts =
    ap (λ z. z.parts) (made_shaped y.1) ∙ ap (λ z. (shape_of z).parts) (sym kinds) in
    let parts = parts_tell_by x.0 y.0 p.kind q.kind p.head p.parts q.parts front first second one in
    let same = parts_tell x.1 y.1 (λ i. record { kind = kinds i; head = heads i; parts = parts i }) in
    let signature = signature_by x.0 y.0 p.kind q.kind p.head (list_of p.parts) (list_of q.parts) one
    (λ is. lowers is same) in
    λ i. (signature i, same i)
