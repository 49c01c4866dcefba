-- Where `==` of what trampolines are made of answers true, the two are one.
use Rattle.std.specs.Prelude.{◌≡◌, Bool, true, ◌==◌, ◌&&◌, refl}
use Rattle.std.specs.Cmp.{booleans_Decides}
use Rattle.std.proofs.Common.{ap, sym, true≢false}
use Rattle.std.proofs.lemmas.Bool.Decides.{Decides-eqb}
use mathlib.Core.Bool.{beq}
use Rattle.pc_entity.specs.Exact.{same_options}
use Rattle.pc_entity.proofs.Elements.{and_true}
use Rattle.pc_types.specs.contracts.trampoline.TrampolineKindPartialEq.TheImpl as eq_TrampolineKind
use Rattle.pc_types.specs.Equal.{definition_exact}
use Rattle.pc_types.specs.EqualWords.{kind_exact}
use Rattle.pc_trampoline.specs.contracts.transcode.FixedEncodingPartialEq.TheImpl as eq_FixedEncoding
use Rattle.pc_trampoline.specs.contracts.transcode.TranscodePartialEq.TheImpl as eq_Transcode
use Rattle.pc_trampoline.specs.declared.part.Head.TheVariants as head
use Rattle.pc_trampoline.specs.declared.part.Part.TheVariants as part
use Rattle.pc_trampoline.specs.declared.part.PartList.TheVariants as list
use Rattle.pc_trampoline.specs.declared.trampoline.Trampoline.{Trampoline}
use Rattle.pc_trampoline.specs.declared.transcode.FixedEncoding.{FixedEncoding}
use Rattle.pc_trampoline.specs.declared.transcode.FixedEncoding.TheVariants as encoding
use Rattle.pc_trampoline.specs.declared.transcode.Transcode.{Transcode}
use Rattle.pc_trampoline.specs.declared.transcode.Transcode.TheVariants as op
use Rattle.pc_trampoline.specs.Fields.{head_eq, list_eq, part_eq, parts_eq}
use Rattle.pc_trampoline.specs.Made.{parts_tell}
use Rattle.pc_trampoline.specs.Parts.{parts_of}

-- `==` of encodings is equality of values
pub fixed_exact : (a b : FixedEncoding) → eq_FixedEncoding.ghosts.eq a b ≡ true → a ≡ b
fixed_exact encoding.Utf8 encoding.Utf8 h = refl
fixed_exact encoding.Utf16 encoding.Utf16 h = refl
fixed_exact encoding.Latin1 encoding.Latin1 h = refl
fixed_exact a b h = absurd (true≢false (sym h))

-- `==` of transcodings is equality of values
pub transcode_exact : (a b : Transcode) → eq_Transcode.ghosts.eq a b ≡ true → a ≡ b
transcode_exact (op.Copy a) (op.Copy b) h = ap op.Copy (fixed_exact a b h)
transcode_exact op.Latin1ToUtf16 op.Latin1ToUtf16 h = refl
transcode_exact op.Latin1ToUtf8 op.Latin1ToUtf8 h = refl
transcode_exact op.Utf16ToCompactProbablyUtf16 op.Utf16ToCompactProbablyUtf16 h = refl
transcode_exact op.Utf16ToCompactUtf16 op.Utf16ToCompactUtf16 h = refl
transcode_exact op.Utf16ToLatin1 op.Utf16ToLatin1 h = refl
transcode_exact op.Utf16ToUtf8 op.Utf16ToUtf8 h = refl
transcode_exact op.Utf8ToCompactUtf16 op.Utf8ToCompactUtf16 h = refl
transcode_exact op.Utf8ToLatin1 op.Utf8ToLatin1 h = refl
transcode_exact op.Utf8ToUtf16 op.Utf8ToUtf16 h = refl
transcode_exact a b h = absurd (true≢false (sym h))

-- answers true of one value alone
abbrev pub Exact : {A : Type 0} → (A → A → Bool) → Type 0
Exact {A} E = (a b : A) → E a b ≡ true → a ≡ b

module _ {A : Type 0} where
  -- `==` of up to two parts is equality of values
  pub list_exact : {E : A → A → Bool} → Exact E → Exact (list_eq E)
  list_exact e list.Empty list.Empty h = refl
  list_exact e (list.One a) (list.One b) h = ap list.One (e a b h)
  list_exact {E} e (list.Two a c) (list.Two b d) h =
      let both = and_true (E a b) (E c d) h in
      let first = e a b both.0 in
      let second = e c d both.1 in
      λ i. list.Two (first i) (second i)
  list_exact e a b h = absurd (true≢false (sym h))

module _ {L O : Type 0} where
  -- `==` of heads is equality of values
  pub head_exact : {EL : L → L → Bool} {EO : O → O → Bool} → Exact EL → Exact EO → Exact (head_eq EL EO)
  head_exact {EL} {EO} l o (head.Lowering a i c) (head.Lowering b j d) h =
      let first = and_true (EL a b) ((i.0 == j.0) && EO c d) h in
      let rest = and_true (i.0 == j.0) (EO c d) first.1 in
      let index = l a b first.0 in
      let ty = (Decides-eqb i.0 j.0).0 rest.0 in
      let options = o c d rest.1 in
      λ x. head.Lowering (index x) (record { 0 = ty x }) (options x)
  head_exact l o (head.Builtin a) (head.Builtin b) h =
      ap (λ n. head.Builtin (record { 0 = n })) ((Decides-eqb a.0 b.0).0 h)
  head_exact l o head.Helper head.Helper h = refl
  head_exact l o (head.Transcoding a v w) (head.Transcoding b p q) h =
      let first = and_true (eq_Transcode.ghosts.eq a b) (beq v p && beq w q) h in
      let rest = and_true (beq v p) (beq w q) first.1 in
      let op = transcode_exact a b first.0 in
      let from64 = (booleans_Decides v p).0 rest.0 in
      let to64 = (booleans_Decides w q).0 rest.1 in
      λ x. head.Transcoding (op x) (from64 x) (to64 x)
  head_exact l o (head.Trapping a) (head.Trapping b) h =
      ap (λ n. head.Trapping (record { 0 = n })) ((Decides-eqb a.0 b.0).0 h)
  head_exact l o a b h = absurd (true≢false (sym h))

module _ {O M T C P : Type 0} where
  -- `==` of parts is equality of values
  pub part_exact : {EO : O → O → Bool} {EM : M → M → Bool} {ET : T → T → Bool} {EC : C → C → Bool}
      {EP : P → P → Bool} → Exact EO → Exact EM → Exact ET → Exact EC → Exact EP → Exact (part_eq EO EM ET EC EP)
  part_exact o m t c p (part.Type_ a) (part.Type_ b) h = ap part.Type_ (definition_exact a b h)
  part_exact o m t c p (part.Number a) (part.Number b) h = ap part.Number ((Decides-eqb a b).0 h)
  part_exact o m t c p (part.Flag a) (part.Flag b) h = ap part.Flag ((booleans_Decides a b).0 h)
  part_exact o m t c p (part.Memory a) (part.Memory b) h = ap part.Memory (m a b h)
  part_exact o m t c p (part.MaybeMemory a) (part.MaybeMemory b) h = ap part.MaybeMemory (same_options m a b h)
  part_exact o m t c p (part.Table a) (part.Table b) h = ap part.Table (t a b h)
  part_exact o m t c p (part.Callback a) (part.Callback b) h = ap part.Callback (same_options c a b h)
  part_exact o m t c p (part.PostReturn a) (part.PostReturn b) h = ap part.PostReturn (same_options p a b h)
  part_exact o m t c p (part.Options a) (part.Options b) h = ap part.Options (o a b h)
  part_exact o m t c p a b h = absurd (true≢false (sym h))

module _ {L O M T C P : Type 0} {EL : L → L → Bool} {EO : O → O → Bool} {EM : M → M → Bool} {ET : T → T → Bool}
    {EC : C → C → Bool} {EP : P → P → Bool} (l : Exact EL) (o : Exact EO) (m : Exact EM) (t : Exact ET) (c : Exact EC)
    (p : Exact EP) where
  -- `==` of what trampolines are made of is equality of values
  pub parts_exact : Exact (parts_eq EL EO EM ET EC EP)
  parts_exact a b h =
      let same_list = list_eq (part_eq EO EM ET EC EP) a.parts b.parts in
      let first = and_true (eq_TrampolineKind.ghosts.eq a.kind b.kind) (head_eq EL EO a.head b.head && same_list) h in
      let rest = and_true (head_eq EL EO a.head b.head) same_list first.1 in
      let kind = kind_exact a.kind b.kind first.0 in
      let front = head_exact l o a.head b.head rest.0 in
      let parts = list_exact (part_exact o m t c p) a.parts b.parts rest.1 in
      λ i. record { kind = kind i; head = front i; parts = parts i }

  -- trampolines whose parts compare equal are one
  pub trampoline_exact : Exact (λ (x y : Trampoline L O M T C P). parts_eq EL EO EM ET EC EP (parts_of x) (parts_of y))
  trampoline_exact x y h = parts_tell x y (parts_exact (parts_of x) (parts_of y) h)
