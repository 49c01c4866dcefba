-- What `==` of trampolines is: an equivalence, since it is equality of values.
use Rattle.std.specs.Prelude.{◌≡◌, Bool, true, false, ◌==◌, ◌&&◌, ℕ, None, Some, refl}
use Rattle.std.specs.Option.{option_eq}
use Rattle.std.specs.Cmp.{IsPartialEquivalence, IsEquivalence, booleans_Decides, equiv}
use Rattle.std.proofs.Common.{ap, sym, ◌∙◌}
use Rattle.std.proofs.lemmas.Bool.Decides.{Decides-eqb}
use mathlib.Core.Bool.{beq}
use Rattle.pc_entity.proofs.Elements.{true_and}
use Rattle.pc_types.specs.contracts.trampoline.TrampolineKindEq.TheImpl.Laws as laws_of_kinds
use Rattle.pc_types.specs.contracts.trampoline.TrampolineKindPartialEq.TheImpl as eq_TrampolineKind
use Rattle.pc_types.specs.contracts.types.TypeDefEq.TheImpl.Laws as laws_of_types
use Rattle.pc_trampoline.specs.contracts.transcode.TranscodeEq.TheImpl.Laws as laws_of_transcodes
use Rattle.pc_trampoline.specs.contracts.transcode.TranscodePartialEq.TheImpl as eq_Transcode
use Rattle.pc_trampoline.specs.declared.part.Head.TheVariants as head
use Rattle.pc_trampoline.specs.declared.part.Part.TheVariants as part
use Rattle.pc_trampoline.specs.declared.part.PartList.TheVariants as list
use Rattle.pc_trampoline.specs.Exact.{Exact}
use Rattle.pc_trampoline.specs.Fields.{head_eq, list_eq, part_eq, parts_eq}

-- answers true of a value and itself
abbrev pub Itself : {A : Type 0} → (A → A → Bool) → Type 0
Itself {A} E = (a : A) → E a a ≡ true

-- two tests that imply each other answer alike
same_answer : (v w : Bool) → (v ≡ true → w ≡ true) → (w ≡ true → v ≡ true) → v ≡ w
same_answer true w f g = sym (f refl)
same_answer false true f g = g refl
same_answer false false f g = refl

module _ {A : Type 0} {E : A → A → Bool} (exact : Exact E) where
  -- a test that answers true of one value alone answers so the other way round
  turned : (a b : A) → E a b ≡ true → E b a ≡ true
  turned a b h = let same = exact a b h in sym (λ i. E (same i) (sym same i)) ∙ h

  -- a test that answers true of one value alone is symmetric and transitive
  pub exact_per : IsPartialEquivalence E
  exact_per = record {
    symm = λ a b. same_answer (E a b) (E b a) (turned a b) (turned b a);
    trans = λ a b c h k. ap (λ x. E x c) (exact a b h) ∙ k;
  }

  -- and an equivalence, where it answers true of each value and itself
  pub exact_equiv : Itself E → IsEquivalence E
  exact_equiv itself = equiv exact_per itself

-- a number is itself
number_itself : Itself (λ (m n : ℕ). m == n)
number_itself n = (Decides-eqb n n).1 refl

-- a flag is itself
flag_itself : Itself beq
flag_itself b = (booleans_Decides b b).1 refl

-- an option is itself
option_itself : {A : Type 0} (E : A → A → Bool) → Itself E → Itself (option_eq E)
option_itself E e None = refl
option_itself E e (Some x) = e x

-- up to two parts are themselves
list_itself : {A : Type 0} (E : A → A → Bool) → Itself E → Itself (list_eq E)
list_itself E e list.Empty = refl
list_itself E e (list.One x) = e x
list_itself E e (list.Two x y) = true_and (E x x) (E y y) (e x) (e y)

-- a head is itself
head_itself : {L O : Type 0} (EL : L → L → Bool) (EO : O → O → Bool) → Itself EL → Itself EO
    → Itself (head_eq EL EO)
head_itself EL EO l o (head.Lowering a i c) =
    true_and (EL a a) ((i.0 == i.0) && EO c c) (l a)
    (true_and (i.0 == i.0) (EO c c) (number_itself i.0) (o c))
head_itself EL EO l o (head.Builtin c) = number_itself c.0
head_itself EL EO l o head.Helper = refl
head_itself EL EO l o (head.Transcoding op v w) =
    true_and (eq_Transcode.ghosts.eq op op) (beq v v && beq w w) ((laws_of_transcodes.laws-law).refl op)
    (true_and (beq v v) (beq w w) (flag_itself v) (flag_itself w))
head_itself EL EO l o (head.Trapping code) = number_itself code.0

module _ {L O M T C P : Type 0} (EL : L → L → Bool) (EO : O → O → Bool) (EM : M → M → Bool) (ET : T → T → Bool)
    (EC : C → C → Bool) (EP : P → P → Bool) (l : Itself EL) (o : Itself EO) (m : Itself EM) (t : Itself ET)
    (c : Itself EC) (p : Itself EP) where
  -- a part is itself
  part_itself : Itself (part_eq EO EM ET EC EP)
  part_itself (part.Type_ x) = (laws_of_types.laws-law).refl x
  part_itself (part.Number x) = number_itself x
  part_itself (part.Flag x) = flag_itself x
  part_itself (part.Memory x) = m x
  part_itself (part.MaybeMemory x) = option_itself EM m x
  part_itself (part.Table x) = t x
  part_itself (part.Callback x) = option_itself EC c x
  part_itself (part.PostReturn x) = option_itself EP p x
  part_itself (part.Options x) = o x

  -- what trampolines are made of is itself
  pub parts_itself : Itself (parts_eq EL EO EM ET EC EP)
  parts_itself a =
      let same_list = list_eq (part_eq EO EM ET EC EP) a.parts a.parts in
      true_and (eq_TrampolineKind.ghosts.eq a.kind a.kind) (head_eq EL EO a.head a.head && same_list)
      ((laws_of_kinds.laws-law).refl a.kind)
      (true_and (head_eq EL EO a.head a.head) same_list (head_itself EL EO l o a.head)
      (list_itself (part_eq EO EM ET EC EP) part_itself a.parts))
