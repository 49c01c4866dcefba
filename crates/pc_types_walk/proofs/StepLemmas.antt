-- A step of a walk: what was found and what is to come stay all, in order, and less is to come.
use Rattle.std.proofs.Common.{◌≡◌, ◌⊎◌, ◌<◌, ◌≤◌, ◌+◌, ℕ, Bool, true, false, List, [], ◌∷◌, ◌++◌, length}
use Rattle.std.proofs.Common.{drop, map}
use Rattle.std.proofs.Common.{reverse, Option, Some, None, refl, sym, ap, ◌∙◌, subst, arith, inl, inr, ◌==◌, true≢false}
use Rattle.std.specs.Prelude.{slice_get, option_and_then}
use Rattle.std.specs.Option.{option_map}
use Rattle.std.specs.List.{AllZip, flat_map}
use Rattle.std.proofs.lemmas.List.{append_assoc, append-nil, length-append, reverse-append}
use Rattle.std.proofs.lemmas.Bool.{eqb-true}
use Rattle.std.proofs.lemmas.Option.{none-some, same_Some, slice_get_within}
use Rattle.pc_entity.proofs.Growing.{slice_get-append, slice_get-append_seam}
use Rattle.pc_entity.proofs.LookupLemmas.{found_at}
use Rattle.pc_types.specs.declared.parsed.Entity.{Entity}
use Rattle.pc_types.specs.declared.parsed.Entity.TheVariants as entity
use Rattle.pc_types.specs.declared.parsed.TypeTable.{TypeTable}
use Rattle.pc_spec_reading.specs.Once.{each_once}
use Rattle.pc_spec_reading.specs.Resource.{ResourcePath, here, resource_paths, same_number, type_paths}
use Rattle.pc_types_walk.specs.declared.walk.Entered.{Entered}
use Rattle.pc_types_walk.specs.declared.walk.Found.{Found}
use Rattle.pc_types_walk.specs.declared.walk.Place.{Place}
use Rattle.pc_types_walk.specs.declared.walk.Walk.{Walk}
use Rattle.pc_types_walk.specs.declared.walk.Walker.{Walker}
use Rattle.pc_types_walk.specs.Leads.{AreLeads, IsPart, Part, a_resource, an_instance, entity_of, export_paths}
use Rattle.pc_types_walk.specs.Leads.{paths_of}
use Rattle.pc_types_walk.specs.Steps.{Ends, EntersNew, Goes, IsEntered, MeetsNew, Owed, Passed, Passes, PassesEntity}
use Rattle.pc_types_walk.specs.Steps.{Stands, Starts, Walked, ahead, below, fresh, has, next_export, with_number, work}
use Rattle.pc_types_walk.specs.Steps.{work_in}
use Rattle.pc_types_walk.specs.Steps.{work_inside, work_outside}
use Rattle.pc_types_walk.specs.Walks.{AreNamed, IsFound, IsWalk, export_at}
use Rattle.pc_types_walk.proofs.FreshLemmas.{AllMet, ends_alike, fresh_alike, fresh_same, none, once_fresh, or_either}
use Rattle.pc_types_walk.proofs.ListLemmas.{append_found, drop_none, drop_some, zip_cons, zip_more, zip_nil, zip_push}
use Rattle.pc_types_walk.proofs.WalkLemmas.{answered, at, entered, finished, over, stands_same, visited_met}
use Rattle.pc_types_walk.proofs.WorkLemmas.{outside_entered, outside_same, work_at}

-- the names that lead to one place more
named_more : (t : TypeTable) (places : List Place) (names : List (List (List ℕ))) (p : Place) (prefix : List (List ℕ))
    (x : List ℕ × Entity) → AreNamed t places names → slice_get names p.parent ≡ Some prefix
    → export_at t p.entry p.export ≡ Some x
    → AreNamed t (places ++ p ∷ []) (names ++ (prefix ++ x.0 ∷ []) ∷ [])
named_more t places names p prefix x named at there = record {
  start = slice_get-append names _ 0 [] named.start;
  count = omega (
    arith,
    named.count,
    length-append names ((prefix ++ x.0 ∷ []) ∷ []),
    length-append places (p ∷ []),
  );
  further = λ k q found. elim (append_found places p k q found)
      as (λ _. (pre : List (List ℕ)) × (y : List ℕ × Entity) × (q.parent ≤ k)
      × (slice_get (names ++ (prefix ++ x.0 ∷ []) ∷ []) q.parent ≡ Some pre) × (export_at t q.entry q.export ≡ Some y)
      × (slice_get (names ++ (prefix ++ x.0 ∷ []) ∷ []) (k + 1) ≡ Some (pre ++ y.0 ∷ []))) [
        | inl before ↦ (
            let old = named.further k q before in (
              old.0,
              old.1,
              old.2,
              slice_get-append names _ q.parent old.0 old.3,
              old.4,
              slice_get-append names _ (k + 1) (old.0 ++ old.1.0 ∷ []) old.5,
            ))
        | inr last ↦ subst (λ r. (pre : List (List ℕ)) × (y : List ℕ × Entity) × (r.parent ≤ k)
            × (slice_get (names ++ (prefix ++ x.0 ∷ []) ∷ []) r.parent ≡ Some pre)
            × (export_at t r.entry r.export ≡ Some y)
            × (slice_get (names ++ (prefix ++ x.0 ∷ []) ∷ []) (k + 1) ≡ Some (pre ++ y.0 ∷ []))) last.1 (
              prefix,
              x,
              omega (arith, slice_get_within names p.parent prefix at, named.count, last.0),
              slice_get-append names _ p.parent prefix at,
              there,
              subst (λ m. slice_get (names ++ (prefix ++ x.0 ∷ []) ∷ []) m ≡ Some (prefix ++ x.0 ∷ []))
                  (omega (arith, named.count, last.0))
                  (slice_get-append_seam names (prefix ++ x.0 ∷ []) []),
            )
      ];
}

-- the new place has these names
named_last : (t : TypeTable) (places : List Place) (names : List (List (List ℕ))) → AreNamed t places names
    → (new : List (List ℕ)) → slice_get (names ++ new ∷ []) (length places + 1) ≡ Some new
named_last t places names named new =
    subst (λ m. slice_get (names ++ new ∷ []) m ≡ Some new) named.count (slice_get-append_seam names new [])

module _ (t : TypeTable) (leads : List (List ℕ)) (all : List ResourcePath) where
  -- a walk on its way, with the entry on top apart from the others
  pub record OnTop (met visited : ℕ → Bool) (top : Entered) (left : List (List ℕ × Part)) (rest : List Entered)
      (w : Walk) : Type 0 where
    pub names : List (List (List ℕ))
    pub named : AreNamed t w.places names
    pub so_far : List ResourcePath
    pub found : AllZip (IsFound names) w.found so_far
    pub places : List ℕ
    pub through : slice_get leads top.entry ≡ Some places
    pub prefix : List (List ℕ)
    pub led : slice_get names top.place ≡ Some prefix
    pub parts : AllZip (IsPart t top.entry) (drop top.next places) left
    pub fs : List Walked
    pub inside : AllZip (IsEntered t leads names) rest fs
    pub stands : Stands (paths_of t) met visited (at top.entry prefix left ∷ fs)
    pub comes : so_far ++ fresh met (ahead (paths_of t) (at top.entry prefix left ∷ fs)) ≡ all

  -- it has one
  on_top : (met visited : ℕ → Bool) (top : Entered) (rest : List Entered) (w : Walk)
      → Goes t leads all met visited (top ∷ rest) w
      → (left : List (List ℕ × Part)) × OnTop met visited top left rest w
  on_top met visited top rest w goes =
      let z = zip_cons (IsEntered t leads goes.names) top rest goes.walked goes.inside in
      let f = z.0 in
      let shape : goes.walked ≡ at top.entry f.prefix f.left ∷ z.1 =
      z.2 ∙ ap (λ e. at e f.prefix f.left ∷ z.1) (sym z.3.2) in (
        f.left,
        record {
          names = goes.names;
          named = goes.named;
          so_far = goes.so_far;
          found = goes.found;
          places = z.3.0;
          through = z.3.1;
          prefix = f.prefix;
          led = z.3.3;
          parts = z.3.4;
          fs = z.1;
          inside = z.4;
          stands = subst (Stands (paths_of t) met visited) shape goes.stands;
          comes = subst (λ ws. goes.so_far ++ fresh met (ahead (paths_of t) ws) ≡ all) shape goes.left;
        },
      )

  -- met, entered and answered alike
  goes_same : (met met' visited visited' : ℕ → Bool) → ((n : ℕ) → met' n ≡ met n)
      → ((n : ℕ) → visited' n ≡ visited n) → (stack stack' : List Entered) → stack' ≡ stack → (w w' : Walk) → w' ≡ w
      → Goes t leads all met visited stack w → Goes t leads all met' visited' stack' w'
  goes_same met met' visited visited' same entered stack stack' is w w' walk goes =
      subst (λ s. Goes t leads all met' visited' s w') (sym is)
      (subst (Goes t leads all met' visited' stack) (sym walk) (record {
        names = goes.names;
        named = goes.named;
        so_far = goes.so_far;
        found = goes.found;
        walked = goes.walked;
        inside = goes.inside;
        stands = stands_same (paths_of t) met met' visited visited' same entered goes.walked goes.stands;
        left = ap (λ l. goes.so_far ++ l) (fresh_same met' met same (ahead (paths_of t) goes.walked)) ∙ goes.left;
      }))

  -- the entry on top is left
  leave : (met visited : ℕ → Bool) (top : Entered) (rest : List Entered) (w : Walk)
      → Goes t leads all met visited (top ∷ rest) w → next_export leads top ≡ None → Goes t leads all met visited rest w
  leave met visited top rest w goes last =
      let x = on_top met visited top rest w goes in
      let o = x.1 in
      let none_left = drop_none o.places top.next
      (sym (ap (option_and_then (λ places. slice_get places top.next)) o.through) ∙ last) in
      let empty : x.0 ≡ [] =
      zip_nil (IsPart t top.entry) x.0 (subst (λ l. AllZip (IsPart t top.entry) l x.0) none_left o.parts) in
      record {
        names = o.names;
        named = o.named;
        so_far = o.so_far;
        found = o.found;
        walked = o.fs;
        inside = o.inside;
        stands = finished (paths_of t) met visited top.entry o.prefix o.fs
            (subst (λ l. Stands (paths_of t) met visited (at top.entry o.prefix l ∷ o.fs)) empty o.stands);
        left = subst (λ l. o.so_far ++ fresh met (ahead (paths_of t) (at top.entry o.prefix l ∷ o.fs)) ≡ all) empty
            o.comes;
      }

  -- the entry on top with one more export passed
  abbrev pub behind : Entered → Entered
  behind top = record { entry = top.entry; place = top.place; next = top.next + 1 }

  -- where the next export leads
  abbrev pub place_at : Entered → ℕ → Place
  place_at top i = record { parent = top.place; entry = top.entry; export = i }

  module _ (ready : AreLeads t leads) (met visited : ℕ → Bool) (top : Entered) (rest : List Entered) (w : Walk)
      (name : List ℕ) (xs : List (List ℕ × Part)) where
    -- an export whose ends are met is passed
    pass_over_top : (p : Part) → (o : OnTop met visited top ((name, p) ∷ xs) rest w)
        → AllZip (IsPart t top.entry) (drop (top.next + 1) o.places) xs
        → AllMet met (export_paths (paths_of t) (name, p))
        → Goes t leads all met visited (behind top ∷ rest) w
    pass_over_top p o parts met_all =
        let gone = over (paths_of t) met visited top.entry o.prefix (name, p) xs o.fs o.stands met_all in
        record {
          names = o.names;
          named = o.named;
          so_far = o.so_far;
          found = o.found;
          walked = at top.entry o.prefix xs ∷ o.fs;
          inside = ((o.places, o.through, refl, o.led, parts), o.inside);
          stands = gone.0;
          left = ap (λ l. o.so_far ++ l) (sym gone.1) ∙ o.comes;
        }

    -- those inside stand by more names too
    inside_more : (names : List (List (List ℕ))) (new : List (List ℕ)) (os : List Entered) (ws : List Walked)
        → AllZip (IsEntered t leads names) os ws → AllZip (IsEntered t leads (names ++ new ∷ [])) os ws
    inside_more names new os ws =
        zip_more (IsEntered t leads names) (IsEntered t leads (names ++ new ∷ []))
        (λ e f h. (h.0, h.1, h.2, slice_get-append names (new ∷ []) e.place f.prefix h.3, h.4)) os ws

    -- and what was found
    found_more : (names : List (List (List ℕ))) (new : List (List ℕ)) (found : List Found) (ps : List ResourcePath)
        → AllZip (IsFound names) found ps → AllZip (IsFound (names ++ new ∷ [])) found ps
    found_more names new found ps =
        zip_more (IsFound names) (IsFound (names ++ new ∷ []))
        (λ f p h. (h.0, slice_get-append names (new ∷ []) f.place p.names h.1)) found ps

    -- a resource is met
    meet_top : (n i : ℕ) → (o : OnTop met visited top ((name, a_resource n) ∷ xs) rest w)
        → IsPart t top.entry i (name, a_resource n)
        → AllZip (IsPart t top.entry) (drop (top.next + 1) o.places) xs → met n ≡ false
        → Goes t leads all (with_number n met) visited (behind top ∷ rest) (record {
          places = w.places ++ place_at top i ∷ [];
          found = w.found ++ record { number = n; place = length w.places + 1 } ∷ [];
        })
    meet_top n i o part parts new =
        let names : List (List ℕ) = o.prefix ++ name ∷ [] in
        let path : ResourcePath = record { names = names; number = n } in
        let gone = answered (paths_of t) met visited top.entry n o.prefix name xs o.fs new o.stands in
        record {
          names = o.names ++ names ∷ [];
          named = named_more t w.places o.names (place_at top i) o.prefix _ o.named o.led part.0;
          so_far = o.so_far ++ path ∷ [];
          found = zip_push (IsFound (o.names ++ names ∷ [])) w.found o.so_far _ path
              (found_more o.names names w.found o.so_far o.found)
              (refl, named_last t w.places o.names o.named names);
          walked = at top.entry o.prefix xs ∷ o.fs;
          inside = inside_more o.names names (behind top ∷ rest) (at top.entry o.prefix xs ∷ o.fs)
              ((o.places, o.through, refl, o.led, parts), o.inside);
          stands = gone.0;
          left = append_assoc o.so_far (path ∷ [])
              (fresh (with_number n met) (ahead (paths_of t) (at top.entry o.prefix xs ∷ o.fs)))
              ∙ ap (λ l. o.so_far ++ l) (sym gone.1) ∙ o.comes;
        }

    -- an instance entry is entered
    enter_top : (j i : ℕ) → (o : OnTop met visited top ((name, an_instance j) ∷ xs) rest w)
        → IsPart t top.entry i (name, an_instance j)
        → AllZip (IsPart t top.entry) (drop (top.next + 1) o.places) xs → (ys : List ℕ) → slice_get leads j ≡ Some ys
        → Goes t leads all met (with_number j visited)
        (record { entry = j; place = length w.places + 1; next = 0 } ∷ behind top ∷ rest)
        (record { places = w.places ++ place_at top i ∷ []; found = w.found })
    enter_top j i o part parts ys there =
        let names : List (List ℕ) = o.prefix ++ name ∷ [] in
        let within = ready.through j ys there in
        let gone = entered (paths_of t) met visited top.entry j o.prefix name xs within.exports o.fs part.1
        within.firsts o.stands in
        record {
          names = o.names ++ names ∷ [];
          named = named_more t w.places o.names (place_at top i) o.prefix _ o.named o.led part.0;
          so_far = o.so_far;
          found = found_more o.names names w.found o.so_far o.found;
          walked = at j names within.exports ∷ at top.entry o.prefix xs ∷ o.fs;
          inside = (
            (ys, there, refl, named_last t w.places o.names o.named names, within.there),
            inside_more o.names names (behind top ∷ rest) (at top.entry o.prefix xs ∷ o.fs)
                ((o.places, o.through, refl, o.led, parts), o.inside),
          );
          stands = gone.0;
          left = ap (λ l. o.so_far ++ l) (sym gone.1) ∙ o.comes;
        }

    -- what is to come where an export is passed
    less_behind : (x : List ℕ × Part) (o : OnTop met visited top (x ∷ xs) rest w) (i : ℕ)
        → drop top.next o.places ≡ i ∷ drop (top.next + 1) o.places
        → work_in leads top ≡ work_in leads (behind top) + 1
    less_behind x o i split = omega (
      arith,
      work_at leads top o.places o.through,
      work_at leads (behind top) o.places o.through,
      ap length split,
    )

  module _ (ready : AreLeads t leads) (top : Entered) (rest : List Entered) (i : ℕ) (old new : Walker)
      (stacked : reverse old.stack.items ≡ behind top ∷ rest) where
    -- the walk goes on, and less is to come
    abbrev pub GoesOn : Type 0
    GoesOn =
        Goes t leads all (has new.met) (has new.visited) (reverse new.stack.items) new.walk
        × (work leads (has new.visited) (reverse new.stack.items) < work leads (has old.visited) (top ∷ rest))

    -- an export whose ends are met
    over_step : (name : List ℕ) (p : Part) (xs : List (List ℕ × Part))
        (o : OnTop (has old.met) (has old.visited) top ((name, p) ∷ xs) rest old.walk)
        → AllZip (IsPart t top.entry) (drop (top.next + 1) o.places) xs
        → drop top.next o.places ≡ i ∷ drop (top.next + 1) o.places
        → AllMet (has old.met) (export_paths (paths_of t) (name, p)) → Passed old new → GoesOn
    over_step name p xs o parts split met_all passed =
        let stack = ap reverse passed.stack ∙ stacked in
        let less : work_outside (has new.visited) 0 leads + (work_in leads (behind top) + work_inside leads rest)
        < work_outside (has old.visited) 0 leads + (work_in leads top + work_inside leads rest) = omega (
          arith,
          outside_same (has old.visited) (has new.visited) passed.visited 0 leads,
          less_behind ready (has old.met) (has old.visited) top rest old.walk name xs (name, p) o i split,
        ) in (
          goes_same (has old.met) (has new.met) (has old.visited) (has new.visited) passed.met passed.visited
              (behind top ∷ rest) (reverse new.stack.items) stack old.walk new.walk passed.walk
              (pass_over_top ready (has old.met) (has old.visited) top rest old.walk name xs p o parts met_all),
          subst (λ s. work leads (has new.visited) s < work leads (has old.visited) (top ∷ rest)) (sym stack) less,
        )

    -- a resource that wasn't met
    meet_step : (name : List ℕ) (n : ℕ) (xs : List (List ℕ × Part))
        (o : OnTop (has old.met) (has old.visited) top ((name, a_resource n) ∷ xs) rest old.walk)
        → IsPart t top.entry i (name, a_resource n)
        → AllZip (IsPart t top.entry) (drop (top.next + 1) o.places) xs
        → drop top.next o.places ≡ i ∷ drop (top.next + 1) o.places
        → MeetsNew (place_at top i) n old new → GoesOn
    meet_step name n xs o part parts split meets =
        let stack = ap reverse meets.stack ∙ stacked in
        let places = meets.places in
        let found = meets.found in
        let less : work_outside (has new.visited) 0 leads + (work_in leads (behind top) + work_inside leads rest)
        < work_outside (has old.visited) 0 leads + (work_in leads top + work_inside leads rest) = omega (
          arith,
          outside_same (has old.visited) (has new.visited) meets.visited 0 leads,
          less_behind ready (has old.met) (has old.visited) top rest old.walk name xs (name, a_resource n) o i split,
        ) in (
          goes_same (with_number n (has old.met)) (has new.met) (has old.visited) (has new.visited) meets.met
              meets.visited (behind top ∷ rest) (reverse new.stack.items) stack _ new.walk
              (λ k. record { places = places k; found = found k })
              (meet_top ready (has old.met) (has old.visited) top rest old.walk name xs n i o part parts meets.before),
          subst (λ s. work leads (has new.visited) s < work leads (has old.visited) (top ∷ rest)) (sym stack) less,
        )

    -- an instance entry that wasn't entered
    enter_step : (name : List ℕ) (n : ℕ) (xs : List (List ℕ × Part))
        (o : OnTop (has old.met) (has old.visited) top ((name, an_instance n) ∷ xs) rest old.walk)
        → IsPart t top.entry i (name, an_instance n)
        → AllZip (IsPart t top.entry) (drop (top.next + 1) o.places) xs
        → drop top.next o.places ≡ i ∷ drop (top.next + 1) o.places
        → EntersNew (place_at top i) n old new → GoesOn
    enter_step name n xs o part parts split enters =
        let inner : Entered = record { entry = n; place = length old.walk.places + 1; next = 0 } in
        let stack = ap reverse enters.stack ∙ reverse-append old.stack.items (inner ∷ [])
        ∙ ap (λ l. inner ∷ l) stacked in
        let within : n < length leads =
        omega (arith, part.1, slice_get_within leads top.entry o.places o.through) in
        let there = found_at leads n within in
        let places = enters.places in
        let found = enters.found in
        let less : work_outside (has new.visited) 0 leads
        + (work_in leads inner + (work_in leads (behind top) + work_inside leads rest))
        < work_outside (has old.visited) 0 leads + (work_in leads top + work_inside leads rest) = omega (
          arith,
          outside_same (with_number n (has old.visited)) (has new.visited) enters.visited 0 leads,
          outside_entered (has old.visited) 0 leads n n there.0 there.1 (omega arith) enters.before,
          work_at leads inner there.0 there.1,
          less_behind ready (has old.met) (has old.visited) top rest old.walk name xs (name, an_instance n) o i split,
        ) in (
          goes_same (has old.met) (has new.met) (with_number n (has old.visited)) (has new.visited) enters.met
              enters.visited (inner ∷ behind top ∷ rest) (reverse new.stack.items) stack _ new.walk
              (λ k. record { places = places k; found = found k })
              (enter_top ready (has old.met) (has old.visited) top rest old.walk name xs n i o part parts there.0
              there.1),
          subst (λ s. work leads (has new.visited) s < work leads (has old.visited) (top ∷ rest)) (sym stack) less,
        )

    -- any export
    part_step : (name : List ℕ) (p : Part) (xs : List (List ℕ × Part))
        (o : OnTop (has old.met) (has old.visited) top ((name, p) ∷ xs) rest old.walk)
        → IsPart t top.entry i (name, p)
        → AllZip (IsPart t top.entry) (drop (top.next + 1) o.places) xs
        → drop top.next o.places ≡ i ∷ drop (top.next + 1) o.places
        → PassesEntity (place_at top i) (entity_of p) old new → GoesOn
    part_step name (a_resource n) xs o part parts split passes = elim passes as (λ _. GoesOn) [
      | inl met ↦ over_step name (a_resource n) xs o parts split
          (λ m ends. elim ends as (λ _. has old.met m ≡ true) [
            | inl same ↦ subst (λ k. has old.met k ≡ true) (sym same) met.0
            | inr nothing ↦ absurd nothing
          ]) met.1
      | inr new_one ↦ meet_step name n xs o part parts split new_one
    ]
    part_step name (an_instance n) xs o part parts split passes = elim passes as (λ _. GoesOn) [
      | inl was ↦ over_step name (an_instance n) xs o parts split
          (visited_met (paths_of t) (has old.met) (has old.visited) top.entry n o.prefix name
          ((name, an_instance n) ∷ xs) o.fs part.1 was.0 o.stands) was.1
      | inr new_one ↦ enter_step name n xs o part parts split new_one
    ]

    -- the next export of the entry on top
    pub next_step : next_export leads top ≡ Some i
        → Goes t leads all (has old.met) (has old.visited) (top ∷ rest) old.walk → Passes t (place_at top i) old new
        → GoesOn
    next_step next goes passes =
        let x = on_top (has old.met) (has old.visited) top rest old.walk goes in
        let o = x.1 in
        let split = drop_some o.places top.next i
        (sym (ap (option_and_then (λ places. slice_get places top.next)) o.through) ∙ next) in
        let z = zip_cons (IsPart t top.entry) i (drop (top.next + 1) o.places) x.0
        (subst (λ l. AllZip (IsPart t top.entry) l x.0) split o.parts) in
        let y = subst (λ l. (q : OnTop (has old.met) (has old.visited) top l rest old.walk)
        × AllZip (IsPart t top.entry) (drop (top.next + 1) q.places) z.1
        × (drop top.next q.places ≡ i ∷ drop (top.next + 1) q.places)) z.2 (o, z.4, split) in
        part_step z.0.0 z.0.1 z.1 y.0 z.3 y.1 y.2 (passes (z.0.0, entity_of z.0.1) z.3.0)

  -- the entry on top is left: less is to come
  pub leave_step : (met visited : ℕ → Bool) (top : Entered) (rest : List Entered) (w : Walk)
      → next_export leads top ≡ None
      → Goes t leads all met visited (top ∷ rest) w
      → Goes t leads all met visited rest w × (work leads visited rest < work leads visited (top ∷ rest))
  leave_step met visited top rest w last goes =
      let less : work_outside visited 0 leads + work_inside leads rest
      < work_outside visited 0 leads + (work_in leads top + work_inside leads rest) = omega arith in
      (leave met visited top rest w goes last, less)

  -- where none are left that were entered, the walk is at its end
  pub goes_end : (met visited : ℕ → Bool) (w : Walk) → Goes t leads all met visited [] w → IsWalk t w all
  goes_end met visited w goes =
      let empty = zip_nil (IsEntered t leads goes.names) goes.walked goes.inside in
      let left : goes.so_far ++ [] ≡ all =
      subst (λ ws. goes.so_far ++ fresh met (ahead (paths_of t) ws) ≡ all) empty goes.left in
      record {
        names = goes.names;
        named = goes.named;
        found = subst (AllZip (IsFound goes.names) w.found) (sym (append-nil goes.so_far) ∙ left) goes.found;
      }

-- no names lead to the start
named_start : (t : TypeTable) → AreNamed t [] ([] ∷ [])
named_start t = record { start = refl; count = refl; further = λ k p found. absurd (none-some p found) }

-- a path under no names is itself
below_none : (ps : List ResourcePath) → map (below []) ps ≡ ps
below_none [] = refl
below_none (p ∷ ps) = ap (λ l. p ∷ l) (below_none ps)

-- a walk at its start
pub goes_start : (t : TypeTable) (leads : List (List ℕ)) → AreLeads t leads → (n : ℕ) (places : List ℕ)
    → slice_get leads n ≡ Some places → (w : Walker) → Starts n w
    → Goes t leads (each_once same_number (paths_of t n)) (has w.met) (has w.visited) (reverse w.stack.items) w.walk
goes_start t leads ready n places there w starts =
    let through = ready.through n places there in
    let first : Entered = record { entry = n; place = 0; next = 0 } in
    let walked = at n [] through.exports ∷ [] in
    goes_same t leads (each_once same_number (paths_of t n)) none (has w.met) (with_number n none) (has w.visited)
    starts.met starts.visited (first ∷ []) (reverse w.stack.items) (ap reverse starts.stack) _ w.walk starts.walk
    (record {
      names = [] ∷ [];
      named = named_start t;
      so_far = [];
      found = tt;
      walked = walked;
      inside = ((places, there, refl, refl, through.there), tt);
      stands = record {
        owed = λ k v m ends. elim (or_either (n == k) false v)
            as (λ _. (none m ≡ true) ⊎ Owed (paths_of t) walked k m) [
              | inl same ↦ (
                  let is : n ≡ k = eqb-true n k same in
                  inr (inl (
                    omega (arith, is),
                    ends_alike (paths_of t n) (flat_map (export_paths (paths_of t)) through.exports) through.firsts m
                        (subst (λ i. Ends m (paths_of t i)) (sym is) ends),
                  )))
              | inr nothing ↦ absurd (true≢false (sym nothing))
            ];
        falls = (tt, tt);
      };
      left =
          sym (fresh_alike (paths_of t n) (flat_map (export_paths (paths_of t)) through.exports) through.firsts none []
          [])
          ∙ ap (fresh none) (append-nil (map (below []) (paths_of t n)) ∙ below_none (paths_of t n))
          ∙ sym (once_fresh (paths_of t n));
    })

-- a walk that finds nothing
pub walk_nowhere : (t : TypeTable) (w : Walk) → w ≡ record { places = []; found = [] } → IsWalk t w []
walk_nowhere t w is =
    subst (λ x. IsWalk t x []) (sym is) (record { names = [] ∷ []; named = named_start t; found = tt })

-- a walk that is at a resource at once
pub walk_here : (t : TypeTable) (w : Walk) (n : ℕ) → w.places ≡ [] → w.found ≡ record { number = n; place = 0 } ∷ []
    → IsWalk t w (here n ∷ [])
walk_here t w n places found =
    subst (λ x. IsWalk t x (here n ∷ [])) (sym (λ k. record { places = places k; found = found k }))
    (record { names = [] ∷ []; named = named_start t; found = ((refl, refl), tt) })

-- what the next export is, with how many are passed with it
pub next_is : (leads : List (List ℕ)) (top : Entered) (o : Option (ℕ × ℕ)) (n : ℕ × ℕ)
    → o ≡ option_map {U = ℕ × ℕ} (λ i. (i, top.next + 1)) (next_export leads top) → o ≡ Some n
    → (next_export leads top ≡ Some n.0) × (n.1 ≡ top.next + 1)
next_is leads top o n is found = by (next_export leads top) (sym is ∙ found)
  where
    by : (p : Option ℕ) → option_map {U = ℕ × ℕ} (λ i. (i, top.next + 1)) p ≡ Some n
        → (p ≡ Some n.0) × (n.1 ≡ top.next + 1)
    by None h = absurd (none-some n h)
    by (Some i) h =
        let same : (i, top.next + 1) ≡ n = same_Some (i, top.next + 1) n h in
        (λ k. Some (same k).0, λ k. (sym same k).1)

-- or that there is none
pub none_next : (leads : List (List ℕ)) (top : Entered) (o : Option (ℕ × ℕ))
    → o ≡ option_map {U = ℕ × ℕ} (λ i. (i, top.next + 1)) (next_export leads top) → o ≡ None
    → next_export leads top ≡ None
none_next leads top o is none_found = by (next_export leads top) (sym is ∙ none_found)
  where
    by : (p : Option ℕ) → option_map {U = ℕ × ℕ} (λ i. (i, top.next + 1)) p ≡ None → p ≡ None
    by None h = refl
    by (Some i) h = absurd (none-some (i, top.next + 1) (sym h))

-- the paths of each kind of entity
pub paths_instance : (t : TypeTable) (n : ℕ) → resource_paths t (entity.Instance n) ≡ paths_of t n
unfolding resource_paths
paths_instance t n = refl

pub paths_type : (t : TypeTable) (n : ℕ) → resource_paths t (entity.Type_ n) ≡ type_paths t n
unfolding resource_paths
paths_type t n = refl

pub paths_func : (t : TypeTable) (n : ℕ) → resource_paths t (entity.Func n) ≡ []
unfolding resource_paths
paths_func t n = refl

pub paths_component : (t : TypeTable) (n : ℕ) → resource_paths t (entity.Component n) ≡ []
unfolding resource_paths
paths_component t n = refl

pub paths_module : (t : TypeTable) (n : ℕ) → resource_paths t (entity.Module n) ≡ []
unfolding resource_paths
paths_module t n = refl

pub paths_value : (t : TypeTable) → resource_paths t entity.Value ≡ []
unfolding resource_paths
paths_value t = refl
