-- How the nodes of an instance are read one after the other, and what a total that is past leaves of them.
use Rattle.std.proofs.Common.{◌≡◌, ◌<◌, ◌+◌, ◌*◌, ℕ, zero, suc, Bool, true, false, List, [], ◌∷◌, ◌++◌, Option, None}
use Rattle.std.proofs.Common.{Some, length, refl, sym, ap, subst, ◌∙◌, arith, if◌then◌else◌, drop}
use Rattle.std.specs.Prelude.{nat_lt, slice_get}
use Rattle.std.proofs.lemmas.Bool.Decides.{Decides-ltb}
use Rattle.std.proofs.lemmas.List.{length-append}
use Rattle.pc_types.specs.declared.types.ComponentExternData.{ComponentExternData}
use Rattle.pc_spec_plan.specs.ExportNode.{ExportNode, ExportNodes, NamedNode, and_node, no_nodes}
use Rattle.pc_parsed.specs.Mark.{Mark}
use Rattle.pc_spec_reading.specs.Nodes.{Reached, more, passed, reached, refused, then_reach}
use Rattle.pc_spec_reading.specs.Nodes.{extern_data, value_node, value_nodes, within_total}
use Rattle.pc_spec_reading.specs.Outcome.{Fault}
use Rattle.pc_spec_reading.specs.Value.{NamedValues, and_value, no_values}
use Rattle.pc_spec_reading.specs.World.{World, full, grown, has_room}
use Rattle.pc_inline_exports.specs.Subjects.{Part, Reader, closing, part_nodes, put_before, reads_on}
use Rattle.pc_inline_exports.specs.Subjects.{resume, subject_node, value_parts, with_node}

-- a total that has grown twice
pub grown_twice : (o : Option ℕ) (n k : ℕ) → grown (grown o n) k ≡ grown o (n + k)
grown_twice None n k = refl
grown_twice (Some t) n k = let same : (t + n) + k ≡ t + (n + k) = omega arith in ap Some same

-- where the larger total has room, so has the smaller
pub less_room : (t n k : ℕ) (b : Bool) → nat_lt (t + n) full ≡ b → nat_lt (t + (n + k)) full ≡ true → b ≡ true
less_room t n k true is room = refl
less_room t n k false is room =
    let below : t + (n + k) < full = (Decides-ltb (t + (n + k)) full).0 room in
    sym is ∙ (Decides-ltb (t + n) full).1 (omega (arith, below))

-- what is left where a total of more is looked at after one of less
pub within_more : {A : Type 0} (o : Option ℕ) (n k : ℕ) (r : Reached A)
    → within_total (grown o n) (within_total (grown o (n + k)) r) ≡ within_total (grown o (n + k)) r
within_more None n k r = refl
within_more {A} (Some t) n k r = by (nat_lt (t + n) full) refl (nat_lt (t + (n + k)) full) refl
  where
    by : (a : Bool) → nat_lt (t + n) full ≡ a → (b : Bool) → nat_lt (t + (n + k)) full ≡ b
        → ◌≡◌ {A = Reached A} (if a then (if b then r else passed) else passed) (if b then r else passed)
    by true is b are = refl
    by false is false are = refl
    by false is true are = absurd (let no : false ≡ true = less_room t n k false is are in cc)

-- no node is too much nowhere
pub room_here : {A : Type 0} (o : Option ℕ) (r : Reached A) → has_room o ≡ true → r ≡ within_total (grown o (8 * 0)) r
room_here None r room = refl
room_here {A} (Some n) r room =
    let same : n + 8 * 0 ≡ n = omega arith in
    subst (λ m. r ≡ within_total (Some m) r) (sym same) (by (has_room (Some n)) room)
  where
    by : (b : Bool) → b ≡ true → ◌≡◌ {A = Reached A} r (if b then r else passed)
    by true is = refl
    by false is = absurd (let no : ⊥ = cc in no)

-- what goes on after what a total may leave out
pub then_within : {A B : Type 0} (o : Option ℕ) (r : Reached A) (go : A → World → Reached B)
    → then_reach (within_total o r) go ≡ within_total o (then_reach r go)
then_within {A} {B} o r go = by (has_room o)
  where
    by : (b : Bool)
        → ◌≡◌ {A = Reached B} (then_reach (if b then r else passed) go) (if b then then_reach r go else passed)
    by true = refl
    by false = refl

-- a refusal, whatever waits
pub resume_refused : (rs : List Reader) (name : List ℕ) (meta : ComponentExternData) (f : Fault)
    → resume rs name meta (refused f) ≡ refused f
unfolding resume
resume_refused [] name meta f = refl
resume_refused (r ∷ rs) name meta f = resume_refused rs r.name r.meta f

-- the same of a total that may be past
pub resume_within : (rs : List Reader) (name : List ℕ) (meta : ComponentExternData) (o : Option ℕ)
    (q : Reached (ExportNode Mark)) → resume rs name meta (within_total o q) ≡ within_total o (resume rs name meta q)
unfolding resume
resume_within [] name meta o q = refl
resume_within (r ∷ rs) name meta o q =
    ap (resume rs r.name r.meta) (then_within o q (λ x v. reads_on (with_node r name meta x) v))
    ∙ resume_within rs r.name r.meta o (then_reach q (λ x v. reads_on (with_node r name meta x) v))

-- nodes in front of others, the last of them by itself
before_more : (xs : List (NamedNode Mark)) (x : NamedNode Mark) (ns : ExportNodes Mark)
    → put_before (xs ++ x ∷ []) ns ≡ put_before xs (and_node x.name x.extern_data x.node ns)
before_more [] x ns = refl
before_more (y ∷ xs) x ns = ap (and_node y.name y.extern_data y.node) (before_more xs x ns)

-- a list from a place on begins with what stands there
pub drop_here : {A : Type 0} (xs : List A) (n : ℕ) (x : A) → slice_get xs n ≡ Some x → drop n xs ≡ x ∷ drop (suc n) xs
drop_here [] n x is = absurd (let no : ⊥ = cc in no)
drop_here (y ∷ xs) zero x is = let same : y ≡ x = cc in ap (λ z. z ∷ xs) same
drop_here (y ∷ xs) (suc n) x is = drop_here xs n x is

-- and past its end it is empty
pub drop_past : {A : Type 0} (xs : List A) (n : ℕ) → slice_get xs n ≡ None → drop n xs ≡ []
drop_past [] zero is = refl
drop_past [] (suc n) is = refl
drop_past (y ∷ xs) zero is = absurd (let no : ⊥ = cc in no)
drop_past (y ∷ xs) (suc n) is = drop_past xs n is

-- one more
pub one_more : (n : ℕ) → n + 1 ≡ suc n
one_more n = omega arith

module _ (r : Reader) where
  closing_more : (p : Part) (x : ExportNode Mark) (q : Reached (ExportNodes Mark))
      → then_reach (then_reach q (more p.name p.meta x)) (closing r) ≡ then_reach q (closing (with_node r p.name p.meta x))
  closing_more p x (reached ns w) =
      let one : NamedNode Mark = record { name = p.name; extern_data = p.meta; node = x } in
      let same = before_more r.reads one ns in
      λ i. closing (record r { reads = [] }) (sym same i) w
  closing_more p x (refused f) = refl
  closing_more p x passed = refl

  part_more : (p : Part) (ps : List Part) (q : Reached (ExportNode Mark))
      → then_reach (then_reach q (λ n v. then_reach (part_nodes ps v) (more p.name p.meta n))) (closing r)
      ≡ then_reach q (λ x v. then_reach (part_nodes ps v) (closing (with_node r p.name p.meta x)))
  part_more p ps (reached x v) = closing_more p x (part_nodes ps v)
  part_more p ps (refused f) = refl
  part_more p ps passed = refl

  -- the next part of an instance is reached, then those behind it
  pub reads_part : (p : Part) → slice_get r.parts (length r.reads) ≡ Some p → (w : World)
      → reads_on r w ≡ then_reach (subject_node p.subject w) (λ x v. reads_on (with_node r p.name p.meta x) v)
  reads_part p at w =
      let n = length r.reads in
      let more_reads : (x : NamedNode Mark) → length (r.reads ++ x ∷ []) ≡ suc n
      = λ x. length-append r.reads (x ∷ []) ∙ one_more n in
      ap (λ ps. then_reach (part_nodes ps w) (closing r)) (drop_here r.parts n p at)
      ∙ part_more p (drop (suc n) r.parts) (subject_node p.subject w)
      ∙ (λ i. then_reach (subject_node p.subject w) (λ x v.
      then_reach (part_nodes (drop (sym (more_reads (record {
        name =
            p.name;
        extern_data = p.meta;
        node = x;
      })) i) r.parts) v)
      (closing (with_node r p.name p.meta x))))

  -- an instance without further parts
  pub reads_end : slice_get r.parts (length r.reads) ≡ None → (w : World) → reads_on r w ≡ closing r no_nodes w
  reads_end at w = ap (λ ps. then_reach (part_nodes ps w) (closing r)) (drop_past r.parts (length r.reads) at)

-- values are reached as parts
pub values_are : (vs : NamedValues) (w : World) → value_nodes vs w ≡ part_nodes (value_parts vs) w
unfolding value_nodes
values_are no_values w = refl
values_are (and_value name v vs) w =
    λ i. then_reach (value_node v w) (λ n u. then_reach (values_are vs u i) (more name.name (extern_data name) n))
