-- `==` of what a trampoline is made of, field by field, over `==` of the numbers that it has.
use Rattle.std.specs.Prelude.{ℕ, Bool, true, false, ◌==◌, ◌&&◌, ◌⊎◌, Option}
use Rattle.std.specs.Option.{option_eq}
use Rattle.std.proofs.Common.{inl, inr}
use mathlib.Core.Bool.{beq}
use mathlib.Core.Logic.{⊎_elim}
use Rattle.pc_numbers.specs.declared.runtime.RuntimeComponentInstanceIndex.{RuntimeComponentInstanceIndex}
use Rattle.pc_types.specs.contracts.trampoline.TrampolineKindPartialEq.TheImpl as eq_TrampolineKind
use Rattle.pc_types.specs.contracts.types.TypeDefPartialEq.TheImpl as eq_TypeDef
use Rattle.pc_types.specs.declared.type_index.TypeFuncIndex.{TypeFuncIndex}
use Rattle.pc_types.specs.declared.types.TypeDef.{TypeDef}
use Rattle.pc_trampoline.specs.contracts.transcode.TranscodePartialEq.TheImpl as eq_Transcode
use Rattle.pc_trampoline.specs.declared.part.Head.{Head}
use Rattle.pc_trampoline.specs.declared.part.Head.TheVariants as head
use Rattle.pc_trampoline.specs.declared.part.Part.{Part}
use Rattle.pc_trampoline.specs.declared.part.Part.TheVariants as part
use Rattle.pc_trampoline.specs.declared.part.PartList.{PartList}
use Rattle.pc_trampoline.specs.declared.part.PartList.TheVariants as list
use Rattle.pc_trampoline.specs.declared.part.Parts.{Parts}
use Rattle.pc_trampoline.specs.declared.transcode.Transcode.{Transcode}
use Rattle.pc_trampoline.specs.declared.transcode.Trap.{Trap}

-- `==` of one or the other
abbrev pub on_either : {A B : Type 0} → (A → A → Bool) → (B → B → Bool) → A ⊎ B → A ⊎ B → Bool
on_either E F c d = ⊎_elim (λ x. ⊎_elim (λ y. E x y) (λ _. false) d) (λ x. ⊎_elim (λ _. false) (λ y. F x y) d) c

-- `==` of a field
abbrev pub on_one : {A : Type 0} → (A → A → Bool) → A × Unit {0} → A × Unit {0} → Bool
on_one E x y = E x.0 y.0

-- `==` of two fields
abbrev pub on_two : {A B : Type 0} → (A → A → Bool) → (B → B → Bool) → A × (B × Unit {0}) → A × (B × Unit {0}) → Bool
on_two E F x y = E x.0 y.0 && F x.1.0 y.1.0

-- `==` of three fields
abbrev pub on_three : {A B C : Type 0} → (A → A → Bool) → (B → B → Bool) → (C → C → Bool)
    → A × (B × (C × Unit {0})) → A × (B × (C × Unit {0})) → Bool
on_three E F G x y = E x.0 y.0 && (F x.1.0 y.1.0 && G x.1.1.0 y.1.1.0)

-- the fields of up to two parts
abbrev pub ListFields : Type 0 → Type 0
ListFields A = Unit {0} ⊎ (A × Unit {0}) ⊎ (A × (A × Unit {0})) ⊎ ⊥

module _ {A : Type 0} where
  -- the fields of up to two parts
  abbrev pub list_fields : PartList A → ListFields A
  list_fields list.Empty = inl tt
  list_fields (list.One x) = inr (inl (x, tt))
  list_fields (list.Two x y) = inr (inr (inl (x, (y, tt))))

  -- `==` of up to two parts
  abbrev pub list_eq : (A → A → Bool) → PartList A → PartList A → Bool
  list_eq E a b =
      on_either (λ x y. true) (on_either (on_one E) (on_either (on_two E E) (λ x y. absurd x)))
      (list_fields a) (list_fields b)

-- the fields of a head
abbrev pub HeadFields : Type 0 → Type 0 → Type 0
HeadFields L O =
    (L × (TypeFuncIndex × (O × Unit {0}))) ⊎ (RuntimeComponentInstanceIndex × Unit {0}) ⊎ Unit {0}
    ⊎ (Transcode × (Bool × (Bool × Unit {0}))) ⊎ (Trap × Unit {0}) ⊎ ⊥

module _ {L O : Type 0} where
  -- the fields of a head
  abbrev pub head_fields : Head L O → HeadFields L O
  head_fields (head.Lowering index ty options) = inl (index, (ty, (options, tt)))
  head_fields (head.Builtin instance) = inr (inl (instance, tt))
  head_fields head.Helper = inr (inr (inl tt))
  head_fields (head.Transcoding op from64 to64) = inr (inr (inr (inl (op, (from64, (to64, tt))))))
  head_fields (head.Trapping code) = inr (inr (inr (inr (inl (code, tt)))))

  -- `==` of heads
  abbrev pub head_eq : (L → L → Bool) → (O → O → Bool) → Head L O → Head L O → Bool
  head_eq EL EO a b =
      on_either (on_three EL (λ i j. i.0 == j.0) EO) (on_either (on_one (λ i j. i.0 == j.0)) (on_either (λ x y. true)
      (on_either (on_three eq_Transcode.ghosts.eq beq beq) (on_either (on_one (λ i j. i.0 == j.0)) (λ x y. absurd x)))))
      (head_fields a) (head_fields b)

-- the fields of a part
abbrev pub PartFields : Type 0 → Type 0 → Type 0 → Type 0 → Type 0 → Type 0
PartFields O M T C P =
    (TypeDef × Unit {0}) ⊎ (ℕ × Unit {0}) ⊎ (Bool × Unit {0}) ⊎ (M × Unit {0}) ⊎ (Option M × Unit {0})
    ⊎ (T × Unit {0}) ⊎ (Option C × Unit {0}) ⊎ (Option P × Unit {0}) ⊎ (O × Unit {0}) ⊎ ⊥

module _ {O M T C P : Type 0} where
  -- the fields of a part
  abbrev pub part_fields : Part O M T C P → PartFields O M T C P
  part_fields (part.Type_ x) = inl (x, tt)
  part_fields (part.Number x) = inr (inl (x, tt))
  part_fields (part.Flag x) = inr (inr (inl (x, tt)))
  part_fields (part.Memory x) = inr (inr (inr (inl (x, tt))))
  part_fields (part.MaybeMemory x) = inr (inr (inr (inr (inl (x, tt)))))
  part_fields (part.Table x) = inr (inr (inr (inr (inr (inl (x, tt))))))
  part_fields (part.Callback x) = inr (inr (inr (inr (inr (inr (inl (x, tt)))))))
  part_fields (part.PostReturn x) = inr (inr (inr (inr (inr (inr (inr (inl (x, tt))))))))
  part_fields (part.Options x) = inr (inr (inr (inr (inr (inr (inr (inr (inl (x, tt)))))))))

  -- `==` of parts
  abbrev pub part_eq : (O → O → Bool) → (M → M → Bool) → (T → T → Bool) → (C → C → Bool) → (P → P → Bool)
      → Part O M T C P → Part O M T C P → Bool
  part_eq EO EM ET EC EP a b =
      on_either (on_one eq_TypeDef.ghosts.eq) (on_either (on_one ◌==◌) (on_either (on_one beq)
      (on_either (on_one EM) (on_either (on_one (option_eq EM)) (on_either (on_one ET)
      (on_either (on_one (option_eq EC)) (on_either (on_one (option_eq EP)) (on_either (on_one EO)
      (λ x y. absurd x)))))))))
      (part_fields a) (part_fields b)

module _ {L O M T C P : Type 0} (EL : L → L → Bool) (EO : O → O → Bool) (EM : M → M → Bool) (ET : T → T → Bool)
    (EC : C → C → Bool) (EP : P → P → Bool) where
  -- `==` of what trampolines are made of
  abbrev pub parts_eq : Parts L O M T C P → Parts L O M T C P → Bool
  parts_eq a b =
      eq_TrampolineKind.ghosts.eq a.kind b.kind
      && (head_eq EL EO a.head b.head && list_eq (part_eq EO EM ET EC EP) a.parts b.parts)
