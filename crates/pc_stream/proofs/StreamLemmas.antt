-- What several calls of a stream do one after the other.
use Rattle.std.proofs.Common.{◌≡◌, ℕ, ◌+◌, ◌-◌, ◌≤◌, min, List, [], ◌++◌, length, take, drop, Option, None, Some, refl}
use Rattle.std.proofs.Common.{sym, ap, ◌∙◌, subst, inl, inr, append_assoc, length-append, arith}
use Rattle.std.proofs.lemmas.List.{append-nil, take_at, drop_at, length-take, take_rest}
use Rattle.std.proofs.Math.Seq.{take-add}
use Rattle.pc_stream.specs.Stream.{Gives, Takes, ShowsFault}

-- two calls give the bytes of both
pub Gives-then : (old mid new : Option (List ℕ)) (xs ys : List ℕ) → Gives old mid xs → Gives mid new ys
    → Gives old new (xs ++ ys)
Gives-then None mid new xs ys first second = tt
Gives-then (Some a) None new xs ys first second = absurd first
Gives-then (Some a) (Some b) None xs ys first second = absurd second
Gives-then (Some a) (Some b) (Some c) xs ys first second =
    first ∙ ap (λ (l : List ℕ). xs ++ l) second ∙ sym (append_assoc xs ys c)

-- a call that takes nothing
pub Takes-nil : (old : Option (List ℕ)) → Takes old old []
Takes-nil None = tt
Takes-nil (Some written) = sym (append-nil written)

-- two calls take the bytes of both
pub Takes-then : (old mid new : Option (List ℕ)) (xs ys : List ℕ) → Takes old mid xs → Takes mid new ys
    → Takes old new (xs ++ ys)
Takes-then None None None xs ys first second = tt
Takes-then None None (Some c) xs ys first second = second
Takes-then None (Some b) new xs ys first second = absurd first
Takes-then (Some a) None None xs ys first second = tt
Takes-then (Some a) None (Some c) xs ys first second = absurd second
Takes-then (Some a) (Some b) None xs ys first second = tt
Takes-then (Some a) (Some b) (Some c) xs ys first second =
    second ∙ ap (λ (l : List ℕ). l ++ ys) first ∙ append_assoc a xs ys

-- a front of the text was taken, and then the first n bytes of the rest
pub Takes-front : (old mid new : Option (List ℕ)) (text : List ℕ) (taken n : ℕ) → Takes old mid (take taken text)
    → Takes mid new (take n (take (length text - taken) (drop taken text))) → Takes old new (take (taken + n) text)
Takes-front old mid new text taken n first second =
    let P : List ℕ → Type 0 = Takes old new in
    let e : take taken text ++ take n (take (length text - taken) (drop taken text)) ≡ take (taken + n) text =
    ap (λ (l : List ℕ). take taken text ++ take n l) (take_rest text taken) ∙ sym (take-add taken n text) in
    subst P e (Takes-then old mid new _ _ first second)

-- of bytes that were told, those behind the given ones are left
pub Gives-told : (told given : List ℕ) (old new : Option (List ℕ)) → old ≡ Some told → Gives old new given
    → (length given ≤ length told) × (new ≡ Some (drop (length given) told))
Gives-told told given None new is_told gives = absurd (cc is_told)
Gives-told told given (Some left) None is_told gives = absurd gives
Gives-told told given (Some left) (Some rest) is_told gives =
    let split : told ≡ given ++ rest = cc (is_told, gives) in (
      omega (arith, ap length split, length-append given rest),
      ap (λ (l : List ℕ). Some l)
          (sym (ap (λ (l : List ℕ). drop (length given) l) split ∙ drop_at given rest (length given) refl)),
    )

-- a buffer into which the next n bytes were copied holds them at its front
pub front-copied : (bytes shown left copied buf : List ℕ) (at n : ℕ) → shown ≡ bytes → drop at bytes ≡ left
    → copied ≡ take n (take (length shown - at) (drop at shown))
    → n ≡ min (length buf) (length (take (length shown - at) (drop at shown)))
    → take n (copied ++ drop n buf) ≡ take n left
front-copied bytes shown left copied buf at n is_shown is_left is_copied count =
    let all : take (length shown - at) (drop at shown) ≡ left =
    take_rest shown at ∙ ap (λ (l : List ℕ). drop at l) is_shown ∙ is_left in
    let front : copied ≡ take n left = is_copied ∙ ap (λ (l : List ℕ). take n l) all in
    let long : length copied ≡ n = omega (arith, ap length front, length-take n left, ap length all) in
    take_at copied (drop n buf) n long ∙ front

-- a fault since a later moment is one since an earlier moment
pub ShowsFault-since : (before mid after : ℕ) → before ≤ mid → ShowsFault mid after → ShowsFault before after
ShowsFault-since before mid after later (inl rose) = inl (omega arith)
ShowsFault-since before mid after later (inr last) = inr last
