-- Texts for the numbers below a bound, of which there is one more.
use Rattle.std.proofs.Common.{◌≡◌, ℕ, zero, suc, ◌+◌, List, ◌++◌, ◌∙◌, ap, sym, append_assoc, add-one, arith}
use Rattle.std.proofs.lemmas.List.{append-nil}
use Rattle.std.specs.List.{flat_map, range_with_len}
use Rattle.pc_spec_facts.specs.Text.{each_below}

-- the text of one number more stands behind the others
last_text : (text : ℕ → List ℕ) (a n m : ℕ) → a + n ≡ m
    → flat_map text (range_with_len a (suc n)) ≡ flat_map text (range_with_len a n) ++ text m
last_text text a zero m at =
    let same : a ≡ m = omega (arith, at) in
    append-nil (text a) ∙ ap text same
last_text text a (suc n) m at =
    let next : (a + 1) + n ≡ m = omega (arith, at) in
    ap (λ (rest : List ℕ). text a ++ rest) (last_text text (a + 1) n m next)
    ∙ sym (append_assoc (text a) (flat_map text (range_with_len (a + 1) n)) (text m))

-- the line of one number more was appended
pub one_more : {A : Type 0} (line : ℕ → A → List ℕ) (value : ℕ → A) (start before after : List ℕ) (n : ℕ) (x : A)
    → x ≡ value n → before ≡ start ++ each_below n (λ k. line k (value k)) → after ≡ before ++ line n x
    → after ≡ start ++ each_below (n + 1) (λ k. line k (value k))
one_more line value start before after n x is had put =
    let text : ℕ → List ℕ = λ k. line k (value k) in
    let here : 0 + n ≡ n = omega arith in
    let more : each_below (n + 1) text ≡ each_below n text ++ text n = rw add-one (last_text text 0 n n here) in
    put ∙ ap (λ (y : List ℕ). y ++ line n x) had ∙ ap (λ v. (start ++ each_below n text) ++ line n v) is
    ∙ append_assoc start (each_below n text) (text n) ∙ ap (λ (y : List ℕ). start ++ y) (sym more)
