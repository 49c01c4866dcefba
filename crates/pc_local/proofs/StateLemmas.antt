-- The open bodies stand for the levels of items so far, payload by payload.
use Rattle.std.proofs.Common.{◌≡◌, ◌⊎◌, ℕ, suc, ◌<◌, ◌≤◌, ◌+◌, List, [], ◌∷◌, ◌++◌, length, map, Some, refl, sym, ap}
use Rattle.std.proofs.Common.{◌∙◌, subst, inl, inr, arith}
use Rattle.std.specs.Prelude.{slice_get}
use Rattle.std.specs.List.{AllZip}
use Rattle.std.proofs.lemmas.List.{append-nil, length-append}
use Rattle.std.proofs.lemmas.Option.{none-some}
use Rattle.pc_entity.specs.Lists.{Kept}
use Rattle.pc_parsed.specs.declared.payload.ExternName.{ExternName}
use Rattle.pc_parsed.specs.declared.payload.ItemKind.{ItemKind}
use Rattle.pc_spec_reading.specs.Item.{Item, Items, ExportOf, Lent, a_module, a_component, bodies_in, component_item}
use Rattle.pc_spec_reading.specs.Item.{exports_in}
use Rattle.pc_spec_reading.specs.Nest.{counts_in}
use Rattle.pc_spec_reading.specs.Section.{named_item}
use Rattle.pc_local.specs.declared.captured.Captured.{Captured}
use Rattle.pc_local.specs.declared.item.LocalInitializer.{LocalInitializer}
use Rattle.pc_local.specs.declared.item.Translation.{Translation}
use Rattle.pc_local.specs.Captured as cap
use Rattle.pc_local.specs.Open
use Rattle.pc_local.specs.Open.{State}
use Rattle.pc_local.specs.Standing
use Rattle.pc_local.specs.Standing.{Leaves, leaves_here, leaves_nested}
use Rattle.pc_local.proofs.CaptureLemmas.{gives_same, has_same}
use Rattle.pc_local.proofs.EntryLemmas.{LevelStands, only}
use Rattle.pc_local.proofs.PartLemmas.{captures_more, items_below, items_here, leaves_more, leaves_right, part_more}
use Rattle.pc_local.proofs.PlaceLemmas.{at_before, at_more, at_past, at_push, compared}
use Rattle.pc_local.proofs.StandLemmas.{NamesKept, bodies_append, exports_append, items_kept}

-- the bodies around the innermost one stand for the levels around it
pub data AroundStand (bodies : List Translation) (ms cs : List Captured) : List Translation → List (List Item)
    → Type 0 where
  around_none : {around : List Translation} → around ≡ [] → AroundStand bodies ms cs around []
  around_more : {around : List Translation} {l : List Item} {ls : List (List Item)} (rest : List Translation)
      (t : Translation) → around ≡ rest ++ t ∷ []
      → LevelStands bodies (cap.level_names ms cs (length ls)) (length ls) t l
      → AroundStand bodies ms cs rest ls → AroundStand bodies ms cs around (l ∷ ls)

-- the bodies that have ended inside the levels so far, in their order; the levels are given from the innermost out
abbrev pub bodies_at : List (List Item) → List Items
bodies_at [] = []
bodies_at (l ∷ ls) = bodies_at ls ++ bodies_in (cap.so_far l)

-- the open bodies stand for the items so far, and those that have ended for the bodies inside them
pub record StateStands (outside : List (List Item)) (inside : List Item) (s : State) : Type 0 where
  pub around : AroundStand s.ended s.modules s.components s.around outside
  pub part : cap.PartStands s.ended outside inside (cap.part s.body.initializers s.modules s.components)
  pub exports : map named_item s.body.exports ≡ exports_in (cap.so_far inside)
  pub bodies : AllZip (Standing.ComponentStands s.ended) s.ended (bodies_at (inside ∷ outside))

-- a level stands where the bodies and the names have grown
pub level_kept : (bodies longer : List Translation) (names more : Standing.Names) (depth : ℕ) (t : Translation)
    (l : List Item) → Kept bodies longer → NamesKept names more → LevelStands bodies names depth t l
    → LevelStands longer more depth t l
level_kept bodies longer names more depth t l grown kept h = record {
  items = items_kept bodies longer grown more kept h.items;
  exports = h.exports;
  counts = h.counts;
}

-- and so do the bodies around
pub around_kept : (bodies longer : List Translation) (ms cs more_ms more_cs : List Captured) (around : List Translation)
    (ls : List (List Item)) → Kept bodies longer
    → ((j : ℕ) → j < length ls → NamesKept (cap.level_names ms cs j) (cap.level_names more_ms more_cs j))
    → AroundStand bodies ms cs around ls → AroundStand longer more_ms more_cs around ls
around_kept bodies longer ms cs more_ms more_cs around [] grown kept (around_none is) = around_none is
around_kept bodies longer ms cs more_ms more_cs around (l ∷ ls) grown kept (around_more rest t is level further) =
    around_more rest t is
    (level_kept bodies longer (cap.level_names ms cs (length ls)) (cap.level_names more_ms more_cs (length ls))
    (length ls) t l grown (kept (length ls) (omega arith)) level)
    (around_kept bodies longer ms cs more_ms more_cs rest ls grown (λ j h. kept j (omega (arith, h))) further)

-- names are kept where the levels are the same
pub names_same : (ms cs more_ms more_cs : List Captured) (j : ℕ)
    → cap.at_or cap.nothing ms j ≡ cap.at_or cap.nothing more_ms j
    → cap.at_or cap.nothing cs j ≡ cap.at_or cap.nothing more_cs j
    → NamesKept (cap.level_names ms cs j) (cap.level_names more_ms more_cs j)
names_same ms cs more_ms more_cs j same_ms same_cs = record {
  modules = λ i x h. subst (λ (c : Captured). slice_get c.names i ≡ Some x) same_ms h;
  components = λ i x h. subst (λ (c : Captured). slice_get c.names i ≡ Some x) same_cs h;
}

-- the innermost body of a state, with more behind it
abbrev pub with_more : State → Translation → State
with_more s d = record s {
  body = record {
    initializers = s.body.initializers ++ d.initializers;
    exports = s.body.exports ++ d.exports;
  };
}

-- exports of two lists
map_append : (xs ys : List (ExternName × ItemKind × ℕ))
    → map named_item (xs ++ ys) ≡ map named_item xs ++ map named_item ys
map_append [] ys = refl
map_append (x ∷ xs) ys = ap (λ (l : List ExportOf). named_item x ∷ l) (map_append xs ys)

-- where more items have no bodies inside them, the bodies so far are the same
pub bodies_more : (outside : List (List Item)) (inside more : List Item) (ended : List Translation)
    → bodies_in (cap.so_far more) ≡ []
    → AllZip (Standing.ComponentStands ended) ended (bodies_at (inside ∷ outside))
    → AllZip (Standing.ComponentStands ended) ended (bodies_at ((inside ++ more) ∷ outside))
bodies_more outside inside more ended none h =
    subst (λ (bs : List Items). AllZip (Standing.ComponentStands ended) ended (bodies_at outside ++ bs))
    (sym (bodies_append inside more ∙ ap (λ (bs : List Items). bodies_in (cap.so_far inside) ++ bs) none
    ∙ append-nil (bodies_in (cap.so_far inside))))
    h

-- items that stand in the innermost body are more of it
pub more_stands : (outside : List (List Item)) (inside more : List Item) (s : State) (d : Translation)
    → LevelStands s.ended (cap.level_names s.modules s.components (length outside)) (length outside) d more
    → bodies_in (cap.so_far more) ≡ []
    → StateStands outside inside s → StateStands outside (inside ++ more) (with_more s d)
more_stands outside inside more s d level none h = record {
  around = h.around;
  part =
      part_more s.ended outside inside more (cap.part s.body.initializers s.modules s.components)
      (cap.part (s.body.initializers ++ d.initializers) s.modules s.components) d.initializers h.part
      (record { modules = λ j i x is. is; components = λ j i x is. is })
      (captures_more a_module outside inside more s.modules h.part.modules)
      (captures_more a_component outside inside more s.components h.part.components) refl level.items level.counts;
  exports =
      map_append s.body.exports d.exports
      ∙ (λ j. h.exports j ++ level.exports j)
      ∙ sym (exports_append inside more);
  bodies = bodies_more outside inside more s.ended none h.bodies;
}

-- items that export nothing
pub items_with_more : (s : State) (ls : List LocalInitializer) → with_more s (only ls) ≡ Open.with_items s ls
items_with_more s ls = λ j. record s {
  body = record { initializers = s.body.initializers ++ ls; exports = append-nil s.body.exports j };
}

-- what is captured while a nested body begins
captures_begun : (k : Lent) (levels : List (List Item)) (stack : List Captured)
    → cap.CapturesStand k levels stack
    → cap.CapturesStand k ([] ∷ levels) (stack ++ cap.nothing ∷ [])
captures_begun k levels stack h =
    let longer : length (stack ++ cap.nothing ∷ []) ≡ length stack + 1 =
    length-append stack (cap.nothing ∷ []) in
    let deep = h.deep in
    let same = at_more cap.nothing stack in
    record {
      deep = omega (arith, longer, deep);
      linked = record {
        root = ap (λ (c : Captured). c.names) (same 0) ∙ h.linked.root;
        each = λ j. gives_same (cap.names_at stack j)
            (cap.names_at (stack ++ cap.nothing ∷ []) j)
            (cap.variables_at stack (suc j)) (cap.variables_at (stack ++ cap.nothing ∷ []) (suc j))
            (cap.names_at stack (suc j)) (cap.names_at (stack ++ cap.nothing ∷ []) (suc j))
            (ap (λ (c : Captured). c.names) (sym (same j))) (ap (λ (c : Captured). c.variables) (sym (same (suc j))))
            (ap (λ (c : Captured). c.names) (sym (same (suc j)))) (h.linked.each j);
      };
      used = λ j c n has.
          elim (h.used j c n (has_same _ (cap.names_at stack j) c n (ap (λ (x : Captured). x.names) (same j)) has))
          as (λ _. Leaves k c n (cap.so_far (cap.items_at ([] ∷ levels) j))
          ⊎ Standing.Has (cap.names_at (stack ++ cap.nothing ∷ []) (suc j)) (suc c) n) [
            | inl leaves ↦ inl (subst (λ (l : List Item). Leaves k c n (cap.so_far l))
                (sym (at_more [] (cap.from_root levels) j)) leaves)
            | inr further ↦ inr (has_same (cap.names_at stack (suc j)) _ (suc c) n
                (ap (λ (x : Captured). x.names) (sym (same (suc j)))) further)
          ];
    }

-- a nested body begins
pub begun_stands : (outside : List (List Item)) (inside : List Item) (s : State) → StateStands outside inside s
    → StateStands (inside ∷ outside) [] (Open.begun s)
unfolding counts_in
begun_stands outside inside s h =
    let ms = s.modules ++ cap.nothing ∷ [] in
    let cs = s.components ++ cap.nothing ∷ [] in
    let kept : (j : ℕ) → NamesKept (cap.level_names s.modules s.components j) (cap.level_names ms cs j) =
    λ j. names_same s.modules s.components ms cs j (sym (at_more cap.nothing s.modules j))
    (sym (at_more cap.nothing s.components j)) in
    record {
      around =
          around_more s.around s.body refl
          (level_kept s.ended s.ended (cap.level_names s.modules s.components (length outside))
          (cap.level_names ms cs (length outside)) (length outside) s.body inside (λ i x is. is)
          (kept (length outside))
          (record { items = h.part.items; exports = h.exports; counts = h.part.counts }))
          (around_kept s.ended s.ended s.modules s.components ms cs s.around outside (λ i x is. is) (λ j below. kept j)
          h.around);
      part = record {
        modules = captures_begun a_module (inside ∷ outside) s.modules h.part.modules;
        components = captures_begun a_component (inside ∷ outside) s.components h.part.components;
        items = Standing.stand_none;
        counts = refl;
      };
      exports = refl;
      bodies =
          subst (λ (bs : List Items). AllZip (Standing.ComponentStands s.ended) s.ended bs)
          (sym (append-nil (bodies_at (inside ∷ outside)))) h.bodies;
    }

-- no name stands among none
has_none : {P : Type 0} (names : List (ℕ × ℕ)) (c n : ℕ) → names ≡ [] → Standing.Has names c n → P
has_none names c n empty h =
    absurd (none-some (Standing.name_of c n)
    (subst (λ (l : List (ℕ × ℕ)). slice_get l h.0 ≡ Some (Standing.name_of c n)) empty h.1))

module _ (k : Lent) (l : List Item) (ls : List (List Item)) (inside : List Item) (ms : List Captured) (m : Captured)
    (h : cap.CapturesStand k (inside ∷ l ∷ ls) (ms ++ m ∷ [])) where
  -- as many lists as levels around the body that ends
  many : length ms ≡ suc (length ls)
  many =
      let longer : length (ms ++ m ∷ []) ≡ length ms + 1 = length-append ms (m ∷ []) in
      let deep = h.deep in
      omega (arith, longer, deep)

  -- the innermost level of what is captured
  pub innermost : cap.at_or cap.nothing (ms ++ m ∷ []) (suc (length ls)) ≡ m
  innermost =
      subst (λ (n : ℕ). cap.at_or cap.nothing (ms ++ m ∷ []) n ≡ m) many (at_push cap.nothing ms m)

  -- the levels around it
  pub around_it : (j : ℕ) → j < suc (length ls)
      → cap.at_or cap.nothing (ms ++ m ∷ []) j ≡ cap.at_or cap.nothing ms j
  around_it j below = at_before cap.nothing ms (m ∷ []) j (let is = many in omega (arith, below, is))

  -- there are no levels inside it
  none_inside : cap.at_or cap.nothing (ms ++ m ∷ []) (suc (suc (length ls))) ≡ cap.nothing
  none_inside =
      let longer : length (ms ++ m ∷ []) ≡ length ms + 1 = length-append ms (m ∷ []) in
      let is = many in
      at_past cap.nothing (ms ++ m ∷ []) (suc (suc (length ls))) (omega (arith, longer, is))

  -- nothing is captured but what leads out of the body
  pub leaving_it : (c n : ℕ) → Standing.Has m.names c n → Leaves k c n (cap.so_far inside)
  leaving_it c n has =
      elim (h.used (suc (length ls)) c n (subst (λ (x : Captured). Standing.Has x.names c n) (sym innermost) has))
      as (λ _. Leaves k c n (cap.so_far inside)) [
        | inl leaves ↦
            subst (λ (i : List Item). Leaves k c n (cap.so_far i)) (items_here (l ∷ ls) inside) leaves
        | inr further ↦
            has_none (cap.names_at (ms ++ m ∷ []) (suc (suc (length ls)))) (suc c) n
            (ap (λ (x : Captured). x.names) none_inside) further
      ]

  -- the body around has what the body that ends is given
  pub given_it : Standing.Gives (cap.names_at ms (length ls)) m.variables m.names
  given_it =
      gives_same (cap.names_at (ms ++ m ∷ []) (length ls)) (cap.names_at ms (length ls))
      (cap.variables_at (ms ++ m ∷ []) (suc (length ls))) m.variables
      (cap.names_at (ms ++ m ∷ []) (suc (length ls))) m.names
      (ap (λ (x : Captured). x.names) (around_it (length ls) (omega arith)))
      (ap (λ (x : Captured). x.variables) innermost) (ap (λ (x : Captured). x.names) innermost)
      (h.linked.each (length ls))

  -- what the levels around it give each other
  each_around : (j : ℕ)
      → Standing.Gives (cap.names_at ms j) (cap.variables_at ms (suc j)) (cap.names_at ms (suc j))
  each_around j = elim (compared (suc j) (suc (length ls)))
      as (λ _. Standing.Gives (cap.names_at ms j) (cap.variables_at ms (suc j)) (cap.names_at ms (suc j))) [
        | inl below ↦
            gives_same (cap.names_at (ms ++ m ∷ []) j) (cap.names_at ms j)
            (cap.variables_at (ms ++ m ∷ []) (suc j)) (cap.variables_at ms (suc j))
            (cap.names_at (ms ++ m ∷ []) (suc j)) (cap.names_at ms (suc j))
            (ap (λ (x : Captured). x.names) (around_it j (omega (arith, below))))
            (ap (λ (x : Captured). x.variables) (around_it (suc j) below))
            (ap (λ (x : Captured). x.names) (around_it (suc j) below)) (h.linked.each j)
        | inr other ↦
            (let is = many in
            let past : length ms ≤ suc j = elim other as (λ _. length ms ≤ suc j) [
              | inl same ↦ omega (arith, is, same)
              | inr above ↦ omega (arith, is, above)
            ] in
            let empty = at_past cap.nothing ms (suc j) past in
            subst (λ (x : Captured). Standing.Gives (cap.names_at ms j) x.variables x.names) (sym empty) tt)
      ]

  -- the body as an item of the level around it
  abbrev closed : List Item
  closed = component_item (cap.so_far inside) ∷ []

  -- what leads out of the body leads out of it as an item
  nested_leaves : (c n : ℕ) → Leaves k (suc c) n (cap.so_far inside)
      → Leaves k c n (cap.so_far (cap.items_at ((l ++ closed) ∷ ls) (length ls)))
  nested_leaves c n leaves =
      subst (λ (i : List Item). Leaves k c n (cap.so_far i)) (sym (items_here ls (l ++ closed)))
      (leaves_right k c n l closed (leaves_here (leaves_nested leaves)))

  -- each name of the levels around it is used
  used_around : cap.Used k ((l ++ closed) ∷ ls) ms
  used_around j c n has = elim (compared j (suc (length ls)))
      as (λ _. Leaves k c n (cap.so_far (cap.items_at ((l ++ closed) ∷ ls) j))
      ⊎ Standing.Has (cap.names_at ms (suc j)) (suc c) n) [
        | inl below ↦
            elim (h.used j c n (subst (λ (x : Captured). Standing.Has x.names c n) (sym (around_it j below)) has))
            as (λ _. Leaves k c n (cap.so_far (cap.items_at ((l ++ closed) ∷ ls) j))
            ⊎ Standing.Has (cap.names_at ms (suc j)) (suc c) n) [
              | inl leaves ↦ inl (leaves_more k c n ls l closed j
                  (subst (λ (i : List Item). Leaves k c n (cap.so_far i)) (items_below (l ∷ ls) inside j below)
                  leaves))
              | inr further ↦ elim (compared (suc j) (suc (length ls)))
                  as (λ _. Leaves k c n (cap.so_far (cap.items_at ((l ++ closed) ∷ ls) j))
                  ⊎ Standing.Has (cap.names_at ms (suc j)) (suc c) n) [
                    | inl next ↦ inr (subst (λ (x : Captured). Standing.Has x.names (suc c) n)
                        (around_it (suc j) next) further)
                    | inr other ↦
                        (let same : j ≡ length ls = elim other as (λ _. j ≡ length ls) [
                          | inl is ↦ omega (arith, is)
                          | inr above ↦ absurd (omega (arith, above, below))
                        ] in
                        inl (subst (λ (i : ℕ). Leaves k c n (cap.so_far (cap.items_at ((l ++ closed) ∷ ls) i)))
                        (sym same)
                        (nested_leaves c n
                        (leaving_it (suc c) n
                        (subst (λ (x : Captured). Standing.Has x.names (suc c) n) innermost
                        (subst (λ (i : ℕ). Standing.Has (cap.names_at (ms ++ m ∷ []) (suc i)) (suc c) n) same
                        further))))))
                  ]
            ]
        | inr other ↦
            (let is = many in
            let past : length ms ≤ j = elim other as (λ _. length ms ≤ j) [
              | inl same ↦ omega (arith, is, same)
              | inr above ↦ omega (arith, is, above)
            ] in
            has_none (cap.names_at ms j) c n
            (ap (λ (x : Captured). x.names) (at_past cap.nothing ms j past)) has)
      ]

  -- what is captured once the body has ended
  pub captures_ended : cap.CapturesStand k ((l ++ closed) ∷ ls) ms
  captures_ended = record {
    deep = many;
    linked = record {
      root =
          ap (λ (x : Captured). x.names) (sym (around_it 0 (omega arith))) ∙ h.linked.root;
      each = each_around;
    };
    used = used_around;
  }
