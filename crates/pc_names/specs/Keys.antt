-- Which texts have which keys, in the interners here, and that their keys are equal exactly for equal texts.
use Rattle.std.specs.Prelude.{◌≡◌, ℕ, List, Some, IsTrue, ◌↔◌, nat_eq, slice_get}
use Rattle.std.specs.Str.{bytes_eq}
use Rattle.std.proofs.Common.{sym, ap, ◌∙◌}
use Rattle.std.proofs.lemmas.Bool.{eq-eqb, eqb-true}
use Rattle.std.proofs.lemmas.Option.{same_Some}
use Rattle.std.proofs.lemmas.Slice.Eq.{bytes_eq-Decides}
use Rattle.pc_entity.specs.Lists.{AreDistinct}
use Rattle.pc_entity.specs.declared.string_pool.Atom.{Atom}

-- a text is its own key
pub text_keys : (text other k l : List ℕ) → k ≡ text → l ≡ other → IsTrue (bytes_eq k l) ↔ (text ≡ other)
text_keys text other k l a b = (
  λ t. sym a ∙ (bytes_eq-Decides k l).0 t
      ∙ b,
  λ e. (bytes_eq-Decides k l).1 (a ∙ e ∙ sym b),
)

-- the text stands at this number, among distinct texts
pub record IsNumbered (texts : List (List ℕ)) (text : List ℕ) (atom : Atom) : Type 0 where
  pub at : slice_get texts atom.0 ≡ Some text
  pub distinct : AreDistinct texts

-- distinct texts have distinct numbers
pub number_keys : (texts : List (List ℕ)) (text other : List ℕ) (k l : Atom) → IsNumbered texts text k
    → IsNumbered texts other l
    → IsTrue (nat_eq k.0 l.0) ↔ (text ≡ other)
number_keys texts text other k l a b = (
  λ t. same_Some text other (sym a.at ∙ ap (slice_get texts) (eqb-true k.0 l.0 t) ∙ b.at),
  λ e. eq-eqb k.0 l.0 (a.distinct k.0 l.0 other (a.at ∙ ap Some e) b.at),
)
