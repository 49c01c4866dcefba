-- The names that lead to a place, from the place back to the start.
use Rattle.std.proofs.Common.{◌≡◌, ℕ, ◌<◌, ◌≤◌, ◌+◌, ◌-◌, ◌++◌, List, [], ◌∷◌, length, reverse, None, Some, sym, ap, ◌∙◌}
use Rattle.std.proofs.Common.{arith, append_assoc}
use Rattle.std.specs.Prelude.{slice_get}
use Rattle.std.proofs.lemmas.List.{append-nil, reverse-append}
use Rattle.std.proofs.lemmas.Option.{none-some, same_Some}
use Rattle.pc_entity.proofs.LookupLemmas.{found_at}
use Rattle.pc_types.specs.declared.parsed.Entity.{Entity}
use Rattle.pc_types.specs.declared.parsed.TypeTable.{TypeTable}
use Rattle.pc_types_walk.specs.declared.walk.Place.{Place}
use Rattle.pc_types_walk.specs.Walks.{AreNamed, export_at}

-- the names to one place are those to another, and then some more, the last one first
pub record Leads (names : List (List (List ℕ))) (place at : ℕ) (back : List (List ℕ)) : Type 0 where
  pub to : List (List ℕ)
  pub through : List (List ℕ)
  pub there : slice_get names place ≡ Some to
  pub here : slice_get names at ≡ Some through
  pub is : through ++ reverse back ≡ to

module _ (t : TypeTable) (places : List Place) (names : List (List (List ℕ))) (named : AreNamed t places names) where
  -- at the place itself
  pub leads_start : (place : ℕ) → (to : List (List ℕ)) → slice_get names place ≡ Some to → Leads names place place []
  leads_start place to there = record { to = to; through = to; there = there; here = there; is = append-nil to }

  -- one place further to the start
  pub leads_further : (place at : ℕ) (back : List (List ℕ)) → Leads names place at back → 0 < at → (p : Place)
      → slice_get places (at - 1) ≡ Some p → (x : List ℕ × Entity) → export_at t p.entry p.export ≡ Some x
      → Leads names place p.parent (back ++ x.0 ∷ [])
  leads_further place at back leads far p here x is =
      let f = named.further (at - 1) p here in
      let next : at - 1 + 1 ≡ at = omega (arith, far) in
      let same : f.1 ≡ x = same_Some f.1 x (sym f.4 ∙ is) in
      let through : leads.through ≡ f.0 ++ x.0 ∷ [] =
      same_Some _ _ (sym leads.here ∙ ap (slice_get names) (sym next) ∙ f.5 ∙ ap (λ y. Some (f.0 ++ y.0 ∷ [])) same) in
      record {
        to = leads.to;
        through = f.0;
        there = leads.there;
        here = f.3;
        is = ap (λ l. f.0 ++ l) (reverse-append back (x.0 ∷ []))
            ∙ sym (append_assoc f.0 (x.0 ∷ []) (reverse back))
            ∙ ap (λ l. l ++ reverse back) (sym through) ∙ leads.is;
      }

  -- its parent is in front of it
  pub parent_before : (at : ℕ) → 0 < at → (p : Place) → slice_get places (at - 1) ≡ Some p → p.parent < at
  parent_before at far p here = let f = (named.further (at - 1) p here).2 in omega (arith, far, f)

  -- an export leads to it
  pub export_there : (at : ℕ) → 0 < at → (p : Place) → slice_get places (at - 1) ≡ Some p
      → export_at t p.entry p.export ≡ None → ⊥
  export_there at far p here none =
      let f = named.further (at - 1) p here in
      none-some f.1 (sym none ∙ f.4)

  -- at the start all names are gone through
  pub leads_end : (place : ℕ) (back : List (List ℕ)) → Leads names place 0 back
      → slice_get names place ≡ Some (reverse back)
  leads_end place back leads =
      let none : leads.through ≡ [] = same_Some _ _ (sym leads.here ∙ named.start) in
      leads.there ∙ ap Some (sym leads.is ∙ ap (λ l. l ++ reverse back) none)

  -- there are names to each place
  pub names_there : (place : ℕ) → place ≤ length places → (to : List (List ℕ)) × (slice_get names place ≡ Some to)
  names_there place within = found_at names place (omega (arith, named.count, within))
