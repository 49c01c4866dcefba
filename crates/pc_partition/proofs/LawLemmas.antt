-- The laws of partitions and of their meets.
use Rattle.std.proofs.Common.{◌≡◌, ◌≤◌, ℕ, [], length, Option, None, Some, refl, ap, arith, sym, ◌∙◌}
use Rattle.std.specs.Prelude.{min}
use Rattle.std.proofs.lemmas.Option.{none-some, same_Some}
use Rattle.pc_partition.specs.declared.partition.SameVmctxPartition.{SameVmctxPartition}
use Rattle.pc_partition.specs.declared.partition.SameVmctxPartition.TheVariants.{Top, Known}
use Rattle.pc_partition.specs.Partition.{IsMeet, IsPartition, Refines, Together, extent, lesser, representative}
use Rattle.pc_partition.proofs.ClassLemmas.{held}
use Rattle.pc_partition.proofs.LookUpLemmas.{same_by_look_ups}

-- the lesser of two extents
lesser_comm : (m n : Option ℕ) → lesser m n ≡ lesser n m
lesser_comm None None = refl
lesser_comm None (Some n) = refl
lesser_comm (Some m) None = refl
lesser_comm (Some m) (Some n) = let e : min m n ≡ min n m = omega arith in ap Some e

lesser_assoc : (l m n : Option ℕ) → lesser (lesser l m) n ≡ lesser l (lesser m n)
lesser_assoc None m n = refl
lesser_assoc (Some l) None n = refl
lesser_assoc (Some l) (Some m) None = refl
lesser_assoc (Some l) (Some m) (Some n) = let e : min (min l m) n ≡ min l (min m n) = omega arith in ap Some e

lesser_itself : (n : Option ℕ) → lesser n n ≡ n
lesser_itself None = refl
lesser_itself (Some n) = let e : min n n ≡ n = omega arith in ap Some e

lesser_zero : (n : Option ℕ) → lesser (Some 0) n ≡ Some 0
lesser_zero None = refl
lesser_zero (Some n) = let e : min 0 n ≡ 0 = omega arith in ap Some e

-- a representative is together with its number
pub with_own : (p : SameVmctxPartition) (f : ℕ) → IsPartition p → Together p f (representative p f)
with_own p f is = sym (is.own f)

-- and no lower number is
pub least_of_class : (p : SameVmctxPartition) (f g : ℕ) → IsPartition p → Together p f g → representative p f ≤ g
least_of_class p f g is together =
    let same : representative p f ≡ representative p g = together in
    let low : representative p g ≤ g = is.below g in
    omega (arith, same, low)

-- so what puts the same together has the same representatives
same_representatives : (p q : SameVmctxPartition) → IsPartition p → IsPartition q → Refines p q → Refines q p
    → (f : ℕ) → representative p f ≡ representative q f
same_representatives p q in_p in_q there back f =
    let low : representative q f ≤ representative p f =
    least_of_class q f (representative p f) in_q (there f (representative p f) (with_own p f in_p)) in
    let high : representative p f ≤ representative q f =
    least_of_class p f (representative q f) in_p (back f (representative q f) (with_own q f in_q)) in
    omega (arith, low, high)

-- and what has the same extent too is the same
pub told_once : (p q : SameVmctxPartition) → IsPartition p → IsPartition q → extent p ≡ extent q → Refines p q
    → Refines q p → p ≡ q
told_once Top Top in_p in_q size there back = refl
told_once Top (Known b) in_p in_q size there back = absurd (none-some (length b) size)
told_once (Known a) Top in_p in_q size there back = absurd (none-some (length a) (sym size))
told_once (Known a) (Known b) in_p in_q size there back =
    let same : a ≡ b = same_by_look_ups a b (same_Some (length a) (length b) size) (λ i x y at_a at_b.
    sym (held a i x at_a) ∙ same_representatives (Known a) (Known b) in_p in_q there back i ∙ held b i y at_b) in
    ap Known same

-- a meet is below both
pub meet_left : (p q met : SameVmctxPartition) → IsMeet p q met → Refines met p
meet_left p q met is i j t = ((is.together i j).0 t).0

pub meet_right : (p q met : SameVmctxPartition) → IsMeet p q met → Refines met q
meet_right p q met is i j t = ((is.together i j).0 t).1

-- and above all that is
pub meet_greatest : (p q met other : SameVmctxPartition) → IsMeet p q met → Refines other p → Refines other q
    → Refines other met
meet_greatest p q met other is to_p to_q i j t = (is.together i j).1 (to_p i j t, to_q i j t)

-- the top is above all, and the empty list below
pub below_top : (p : SameVmctxPartition) → Refines p Top
below_top p i j t = refl

pub above_bottom : (p : SameVmctxPartition) → Refines (Known []) p
above_bottom p i j t = let same : i ≡ j = t in ap (representative p) same

bottom_is_partition : IsPartition (Known [])
bottom_is_partition = record { below = λ f. omega arith; own = λ f. refl }

-- a meet doesn't hang on the order
pub meet_turned : (p q met other : SameVmctxPartition) → IsMeet p q met → IsMeet q p other → met ≡ other
meet_turned p q met other one two =
    told_once met other one.is_partition two.is_partition
    (one.size ∙ lesser_comm (extent p) (extent q) ∙ sym two.size)
    (meet_greatest q p other met two (meet_right p q met one) (meet_left p q met one))
    (meet_greatest p q met other one (meet_right q p other two) (meet_left q p other two))

-- nor on which two of three are met first
pub meet_grouped : (p q r pq qr one other : SameVmctxPartition) → IsMeet p q pq → IsMeet pq r one → IsMeet q r qr
    → IsMeet p qr other → one ≡ other
meet_grouped p q r pq qr one other first then second last =
    told_once one other then.is_partition last.is_partition
    (then.size
    ∙ ap (λ n. lesser n (extent r)) first.size
    ∙ lesser_assoc (extent p) (extent q) (extent r)
    ∙ ap (lesser (extent p)) (sym second.size)
    ∙ sym last.size)
    (λ i j t.
    let u = (then.together i j).0 t in
    let v = (first.together i j).0 u.0 in
    (last.together i j).1 (v.0, (second.together i j).1 (v.1, u.1)))
    (λ i j t.
    let u = (last.together i j).0 t in
    let v = (second.together i j).0 u.1 in
    (then.together i j).1 ((first.together i j).1 (u.0, v.0), v.1))

-- a partition met with itself is itself
pub meet_itself : (p met : SameVmctxPartition) → IsPartition p → IsMeet p p met → met ≡ p
meet_itself p met in_p is =
    told_once met p is.is_partition in_p (is.size ∙ lesser_itself (extent p)) (meet_left p p met is)
    (λ i j t. (is.together i j).1 (t, t))

-- the top is the identity
pub meet_with_top : (p met : SameVmctxPartition) → IsPartition p → IsMeet Top p met → met ≡ p
meet_with_top p met in_p is =
    told_once met p is.is_partition in_p is.size (meet_right Top p met is) (λ i j t. (is.together i j).1 (refl, t))

-- the empty list absorbs
pub meet_with_bottom : (p met : SameVmctxPartition) → IsMeet (Known []) p met → met ≡ Known []
meet_with_bottom p met is =
    told_once met (Known []) is.is_partition bottom_is_partition (is.size ∙ lesser_zero (extent p))
    (meet_left (Known []) p met is)
    (λ i j t. (is.together i j).1 (t, above_bottom p i j t))
