-- A nested body ends, and is an item of the body around it.
use Rattle.std.proofs.Common.{◌≡◌, ℕ, suc, ◌<◌, true, ◌&&◌, List, [], ◌∷◌, ◌++◌, length, map, Some, refl, sym, ap, ◌∙◌}
use Rattle.std.proofs.Common.{subst, arith, append_assoc}
use Rattle.std.specs.Prelude.{slice_get}
use Rattle.std.specs.List.{AllZip}
use Rattle.std.proofs.lemmas.List.{append-nil, same_from_push}
use Rattle.pc_entity.specs.Lists.{Kept}
use Rattle.pc_entity.proofs.Growing.{slice_get-append, slice_get-append_seam}
use Rattle.pc_spec_reading.specs.Item.{Item, Items, a_module, a_component, bodies_in, component_item, exports_in}
use Rattle.pc_spec_reading.specs.Nest.{counts_in}
use Rattle.pc_spec_reading.specs.Section.{named_item}
use Rattle.pc_local.specs.declared.captured.Captured.{Captured}
use Rattle.pc_local.specs.declared.captured.Variable.{Variable}
use Rattle.pc_local.specs.declared.item.LocalInitializer.TheVariants as local
use Rattle.pc_local.specs.declared.item.Translation.{Translation}
use Rattle.pc_local.specs.Captured as cap
use Rattle.pc_local.specs.Open
use Rattle.pc_local.specs.Open.{State}
use Rattle.pc_local.specs.Standing
use Rattle.pc_local.proofs.EntryLemmas.{LevelStands}
use Rattle.pc_local.proofs.StandLemmas.{NamesKept, and_true, bodies_append, component_kept, counts_append}
use Rattle.pc_local.proofs.StandLemmas.{exports_append, items_append, items_kept, zip_kept, zip_push}
use Rattle.pc_local.proofs.StateLemmas.{AroundStand, StateStands, bodies_at, around_kept, around_more, around_it}
use Rattle.pc_local.proofs.StateLemmas.{captures_ended, given_it, innermost, leaving_it, level_kept, names_same}

-- a body stands behind those inside it, and those before
last_body : (outside around inner : List Items) (body : Items)
    → outside ++ (around ++ ((inner ++ body ∷ []) ++ [])) ≡ ((outside ++ around) ++ inner) ++ body ∷ []
last_body outside around inner body =
    ap (λ (bs : List Items). outside ++ (around ++ bs)) (append-nil (inner ++ body ∷ []))
    ∙ sym (append_assoc outside around (inner ++ body ∷ []))
    ∙ sym (append_assoc (outside ++ around) inner (body ∷ []))

module _ (l : List Item) (ls : List (List Item)) (inside : List Item) (old new : State) (outer : Translation)
    (m c : Captured) (closes : Open.Closes old outer m c new)
    (part : cap.PartStands old.ended (l ∷ ls) inside
    (cap.part old.body.initializers (new.modules ++ m ∷ []) (new.components ++ c ∷ [])))
    (exports : map named_item old.body.exports ≡ exports_in (cap.so_far inside))
    (level : LevelStands old.ended
    (cap.level_names (new.modules ++ m ∷ []) (new.components ++ c ∷ []) (length ls)) (length ls) outer l) where
  -- the bodies that have ended keep their places
  ended_kept : Kept old.ended new.ended
  ended_kept i x h =
      subst (λ (ts : List Translation). slice_get ts i ≡ Some x) (sym closes.ended)
      (slice_get-append old.ended (old.body ∷ []) i x h)

  -- the body that ends stands behind them
  ended_here : slice_get new.ended (length old.ended) ≡ Some old.body
  ended_here =
      subst (λ (ts : List Translation). slice_get ts (length old.ended) ≡ Some old.body) (sym closes.ended)
      (slice_get-append_seam old.ended old.body [])

  -- the names of the body that ends
  abbrev inner : Standing.Names
  inner = record { modules = m.names; components = c.names }

  -- they are those of the innermost level
  inner_kept : NamesKept
      (cap.level_names (new.modules ++ m ∷ []) (new.components ++ c ∷ []) (suc (length ls))) inner
  inner_kept = record {
    modules = λ i x h. subst (λ (y : Captured). slice_get y.names i ≡ Some x)
        (innermost a_module l ls inside new.modules m part.modules) h;
    components = λ i x h. subst (λ (y : Captured). slice_get y.names i ≡ Some x)
        (innermost a_component l ls inside new.components c part.components) h;
  }

  -- the levels around it keep theirs
  pub around_kept_at : (j : ℕ) → j < suc (length ls)
      → NamesKept (cap.level_names (new.modules ++ m ∷ []) (new.components ++ c ∷ []) j)
      (cap.level_names new.modules new.components j)
  around_kept_at j below =
      names_same (new.modules ++ m ∷ []) (new.components ++ c ∷ []) new.modules new.components j
      (around_it a_module l ls inside new.modules m part.modules j below)
      (around_it a_component l ls inside new.components c part.components j below)

  -- what it is given
  given : Standing.Given (cap.level_names new.modules new.components (length ls)) closes.vars inner
      (cap.so_far inside)
  given = record {
    modules =
        subst (λ (vs : List Variable). Standing.Gives (cap.names_at new.modules (length ls)) vs m.names)
        (sym closes.gives_modules) (given_it a_module l ls inside new.modules m part.modules);
    components =
        subst (λ (vs : List Variable). Standing.Gives (cap.names_at new.components (length ls)) vs c.names)
        (sym closes.gives_components) (given_it a_component l ls inside new.components c part.components);
    leaving = record {
      modules = leaving_it a_module l ls inside new.modules m part.modules;
      components = leaving_it a_component l ls inside new.components c part.components;
    };
  }

  -- the body that ends stands for its items
  here_stands : Standing.ComponentStands new.ended old.body (cap.so_far inside)
  here_stands = record {
    names = inner;
    stands = record {
      items = items_kept old.ended new.ended ended_kept inner inner_kept part.items;
      exports = exports;
    };
    leaving = given.leaving;
  }

  -- it is the last of the bodies that have ended
  bodies_ended : AllZip (Standing.ComponentStands old.ended) old.ended (bodies_at (inside ∷ l ∷ ls))
      → AllZip (Standing.ComponentStands new.ended) new.ended
      (bodies_at ((l ++ component_item (cap.so_far inside) ∷ []) ∷ ls))
  bodies_ended before =
      let body = cap.so_far inside in
      let kept =
      zip_kept (Standing.ComponentStands old.ended) (Standing.ComponentStands new.ended)
      (component_kept old.ended new.ended ended_kept) old.ended (bodies_at (inside ∷ l ∷ ls)) before in
      subst (λ (bs : List Items). AllZip (Standing.ComponentStands new.ended) new.ended bs)
      (sym (ap (λ (bs : List Items). bodies_at ls ++ bs) (bodies_append l (component_item body ∷ []))
      ∙ last_body (bodies_at ls) (bodies_in (cap.so_far l)) (bodies_in body) body))
      (subst (λ (ts : List Translation). AllZip (Standing.ComponentStands new.ended) ts
      (bodies_at (inside ∷ l ∷ ls) ++ body ∷ [])) (sym closes.ended)
      (zip_push (Standing.ComponentStands new.ended) old.ended (bodies_at (inside ∷ l ∷ ls)) old.body body kept
      here_stands))

  -- the local item of the body stands for it
  nested : Standing.ItemStands new.ended (cap.level_names new.modules new.components (length ls))
      (local.ComponentStatic (record { 0 = length old.ended }) closes.vars) (component_item (cap.so_far inside))
  nested =
      Standing.stands_nested ended_here (items_kept old.ended new.ended ended_kept inner inner_kept part.items) exports
      given

  -- the body around, with it
  pub outer_stands : LevelStands new.ended (cap.level_names new.modules new.components (length ls)) (length ls)
      new.body (l ++ component_item (cap.so_far inside) ∷ [])
  unfolding counts_in
  outer_stands =
      let names = cap.level_names new.modules new.components (length ls) in
      let kept = level_kept old.ended new.ended
      (cap.level_names (new.modules ++ m ∷ []) (new.components ++ c ∷ []) (length ls)) names (length ls) outer l
      ended_kept (around_kept_at (length ls) (omega arith)) level in
      let nested_body = component_item (cap.so_far inside) in
      subst (λ (t : Translation). LevelStands new.ended names (length ls) t (l ++ nested_body ∷ [])) (sym closes.body)
      (record {
        items =
            items_append new.ended names outer.initializers
            (local.ComponentStatic (record { 0 = length old.ended }) closes.vars ∷ []) l (nested_body ∷ []) kept.items
            (Standing.stand_more nested Standing.stand_none);
        exports =
            level.exports ∙ sym (append-nil (exports_in (cap.so_far l)))
            ∙ sym (exports_append l (nested_body ∷ []));
        counts =
            counts_append (length ls) l (nested_body ∷ [])
            ∙ and_true (counts_in (length ls) (cap.so_far l)) (counts_in (suc (length ls)) (cap.so_far inside) && true)
            level.counts (and_true (counts_in (suc (length ls)) (cap.so_far inside)) true part.counts refl);
      })

  -- the open bodies once it has ended
  pub ended_stands : AroundStand old.ended (new.modules ++ m ∷ []) (new.components ++ c ∷ []) new.around ls
      → AllZip (Standing.ComponentStands old.ended) old.ended (bodies_at (inside ∷ l ∷ ls))
      → StateStands ls (l ++ component_item (cap.so_far inside) ∷ []) new
  ended_stands around bodies =
      let stands = outer_stands in record {
        around =
            around_kept old.ended new.ended (new.modules ++ m ∷ []) (new.components ++ c ∷ []) new.modules
            new.components new.around ls ended_kept (λ j below. around_kept_at j (omega (arith, below))) around;
        part = record {
          modules = captures_ended a_module l ls inside new.modules m part.modules;
          components = captures_ended a_component l ls inside new.components c part.components;
          items = stands.items;
          counts = stands.counts;
        };
        exports = stands.exports;
        bodies = bodies_ended bodies;
      }

-- the body around is the last of those around
outer_ends : (l : List Item) (ls : List (List Item)) (inside : List Item) (old new : State) (outer : Translation)
    (m c : Captured) → old.around ≡ new.around ++ outer ∷ [] → Open.Closes old outer m c new
    → cap.PartStands old.ended (l ∷ ls) inside
    (cap.part old.body.initializers (new.modules ++ m ∷ []) (new.components ++ c ∷ []))
    → map named_item old.body.exports ≡ exports_in (cap.so_far inside)
    → AroundStand old.ended (new.modules ++ m ∷ []) (new.components ++ c ∷ []) old.around (l ∷ ls)
    → AllZip (Standing.ComponentStands old.ended) old.ended (bodies_at (inside ∷ l ∷ ls))
    → StateStands ls (l ++ component_item (cap.so_far inside) ∷ []) new
outer_ends l ls inside old new outer m c are_around closes part exports (around_more rest t is level further) bodies =
    let same = same_from_push rest new.around t outer (sym is ∙ are_around) in
    ended_stands l ls inside old new outer m c closes part exports
    (subst (λ (b : Translation). LevelStands old.ended
    (cap.level_names (new.modules ++ m ∷ []) (new.components ++ c ∷ []) (length ls)) (length ls) b l) same.1 level)
    (subst (λ (ts : List Translation). AroundStand old.ended (new.modules ++ m ∷ []) (new.components ++ c ∷ []) ts ls)
    same.0 further) bodies

-- the innermost body ends inside another
pub inner_ends : (l : List Item) (ls : List (List Item)) (inside : List Item) (old new : State) (outer : Translation)
    (m c : Captured) → old.around ≡ new.around ++ outer ∷ [] → old.modules ≡ new.modules ++ m ∷ []
    → old.components ≡ new.components ++ c ∷ [] → Open.Closes old outer m c new
    → StateStands (l ∷ ls) inside old → StateStands ls (l ++ component_item (cap.so_far inside) ∷ []) new
inner_ends l ls inside old new outer m c are_around are_modules are_components closes h =
    let cs = new.components ++ c ∷ [] in
    outer_ends l ls inside old new outer m c are_around closes
    (subst (λ (x : List Captured). cap.PartStands old.ended (l ∷ ls) inside
    (cap.part old.body.initializers x cs)) are_modules
    (subst (λ (x : List Captured). cap.PartStands old.ended (l ∷ ls) inside
    (cap.part old.body.initializers old.modules x)) are_components h.part))
    h.exports
    (subst (λ (x : List Captured). AroundStand old.ended x cs old.around (l ∷ ls)) are_modules
    (subst (λ (x : List Captured). AroundStand old.ended old.modules x old.around (l ∷ ls)) are_components h.around))
    h.bodies
