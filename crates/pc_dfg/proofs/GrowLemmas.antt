-- Lists and graphs that have only grown.
use Rattle.std.proofs.Common.{◌≡◌, ◌<◌, ℕ, List, [], ◌∷◌, ◌++◌, length, sym, subst, ap, ◌∙◌, arith}
use Rattle.std.proofs.lemmas.List.{append_assoc, append-nil}
use Rattle.pc_entity.specs.Lists.{Kept}
use Rattle.pc_entity.proofs.Growing.{append_kept}
use Rattle.pc_entity.proofs.LookupLemmas.{kept_within}
use Rattle.pc_dfg.specs.declared.dfg.ComponentDfg.{ComponentDfg}
use Rattle.pc_dfg.specs.Grows.{Extends, Grows}
use Rattle.pc_dfg.specs.Lists.{ListName, entries_of}

module _ {A : Type 0} where
  -- a list is in front of itself
  pub unchanged : {xs : List A} → Extends xs xs
  unchanged {xs} = record { more = []; is = sym (append-nil xs) }

  -- and of itself with more
  pub appended : {xs : List A} {ys : List A} (x : A) → ys ≡ xs ++ x ∷ [] → Extends xs ys
  appended x e = record { more = x ∷ []; is = e }

  -- what is in front of what is in front
  pub extends_trans : (xs ys zs : List A) → Extends xs ys → Extends ys zs → Extends xs zs
  extends_trans xs ys zs first second = record {
    more = first.more ++ second.more;
    is = second.is ∙ ap (λ l. l ++ second.more) first.is ∙ append_assoc xs first.more second.more;
  }

  -- look-ups in front are kept
  pub extends_kept : (xs ys : List A) → Extends xs ys → Kept xs ys
  extends_kept xs ys e = subst (Kept xs) (sym e.is) (append_kept xs e.more)

module _ (g h : ComponentDfg) (grows : Grows g h) where
  -- each number names what it named
  pub kept : (l : ListName) → Kept (entries_of g l) (entries_of h l)
  kept l = extends_kept (entries_of g l) (entries_of h l) (grows.lists l)

  -- each number that named something does
  pub within : (l : ListName) (n : ℕ) → n < length (entries_of g l) → n < length (entries_of h l)
  within l n below = kept_within (entries_of g l) (entries_of h l) (kept l) n below

-- a graph has only grown where it is as it was
pub grows_refl : (g : ComponentDfg) → Grows g g
grows_refl g = record {
  lists = λ l. unchanged;
  component_instances = omega arith;
  signatures = λ place s at. at;
}

-- and where it grew twice
pub grows_trans : (a b c : ComponentDfg) → Grows a b → Grows b c → Grows a c
grows_trans a b c first second = record {
  lists = λ l. extends_trans (entries_of a l) (entries_of b l) (entries_of c l) (first.lists l) (second.lists l);
  component_instances = omega (arith, first.component_instances, second.component_instances);
  signatures = λ place s at. second.signatures place s (first.signatures place s at);
}
