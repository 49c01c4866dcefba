-- Facts are joined in any grouping.
use Rattle.std.proofs.Common.{◌≡◌, ℕ, ◌<◌, ◌+◌, Bool, true, false, ◌||◌, List, [], ◌∷◌, ◌++◌, length, take, get_or}
use Rattle.std.proofs.Common.{refl, sym, ap, ◌∙◌, subst}
use Rattle.std.proofs.lemmas.Grind.{take_at_read}
use Rattle.pc_types_lists.specs.declared.facts.TypeFacts.{TypeFacts}
use Rattle.pc_types_lists.specs.Facts.{no_facts, join}
use Rattle.pc_types_lists.specs.Table.{AreJoined}

or_none : (a : Bool) → (a || false) ≡ a
or_none true = refl
or_none false = refl

or_assoc : (a b c : Bool) → ((a || b) || c) ≡ (a || (b || c))
or_assoc true b c = refl
or_assoc false b c = refl

pub join_none : (a : TypeFacts) → join a no_facts ≡ a
join_none a = λ i. record {
  string = or_none a.string i;
  list = or_none a.list i;
  own = or_none a.own i;
  borrow = or_none a.borrow i;
  future = or_none a.future i;
  stream = or_none a.stream i;
  error_context = or_none a.error_context i;
}

join_assoc : (a b c : TypeFacts) → join (join a b) c ≡ join a (join b c)
join_assoc a b c = λ i. record {
  string = or_assoc a.string b.string c.string i;
  list = or_assoc a.list b.list c.list i;
  own = or_assoc a.own b.own c.own i;
  borrow = or_assoc a.borrow b.borrow c.borrow i;
  future = or_assoc a.future b.future c.future i;
  stream = or_assoc a.stream b.stream c.stream i;
  error_context = or_assoc a.error_context b.error_context c.error_context i;
}

module _ {A : Type 0} where
  -- the facts of one item more
  joined_push : (R : A → TypeFacts → Type 0) (ws : List A) (w : A) (a x : TypeFacts) → AreJoined R ws a → R w x
      → AreJoined R (ws ++ w ∷ []) (join a x)
  joined_push R [] w a x h r = (x, no_facts, r, refl, ap (λ y. join y x) h ∙ sym (join_none x))
  joined_push R (v ∷ ws) w a x h r =
      (h.0, join h.1 x, h.2, joined_push R ws w h.1 x h.3 r, ap (λ y. join y x) h.4 ∙ join_assoc h.0 h.1 x)

  -- a step of a loop over the items
  pub joined_next : (R : A → TypeFacts → Type 0) (ws : List A) (i : ℕ) (w : A) (a x : TypeFacts) → i < length ws
      → w ≡ get_or ws i w
      → AreJoined R (take i ws) a → R w x → AreJoined R (take (i + 1) ws) (join a x)
  joined_next R ws i w a x within is h r =
      subst (λ l. AreJoined R l (join a x))
      (sym ((take_at_read ws i w within).1 ∙ ap (λ z. take i ws ++ z ∷ []) (sym is)))
      (joined_push R (take i ws) w a x h r)

  -- a weaker relation
  pub joined_more : (R S : A → TypeFacts → Type 0) → ((w : A) (x : TypeFacts) → R w x → S w x)
      → (ws : List A) (x : TypeFacts) → AreJoined R ws x → AreJoined S ws x
  joined_more R S more [] x h = h
  joined_more R S more (w ∷ ws) x h = (h.0, h.1, more w h.0 h.2, joined_more R S more ws h.1 h.3, h.4)
