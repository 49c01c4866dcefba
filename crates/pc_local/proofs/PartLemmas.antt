-- The innermost body has an item more.
use Rattle.std.proofs.Common.{◌≡◌, ◌⊎◌, ℕ, suc, ◌<◌, ◌≤◌, ◌+◌, Bool, true, false, List, [], ◌∷◌, ◌++◌, length, Option}
use Rattle.std.proofs.Common.{Some, None, refl, sym, ap, ◌∙◌, subst, inl, inr, arith, add-one, append_assoc, drop}
use Rattle.std.specs.Prelude.{nat_lt, nat_le}
use Rattle.std.specs.List.{cons_option, filter_map}
use Rattle.std.proofs.lemmas.Bool.{le-leb, ltb-true}
use Rattle.std.proofs.lemmas.List.{length-append}
use Rattle.std.proofs.lemmas.Option.{none-some}
use Rattle.pc_parsed.specs.declared.fault.StaticFault.{StaticFault}
use Rattle.pc_parsed.specs.declared.fault.StaticFault.TheVariants as fault
use Rattle.pc_parsed.specs.declared.payload.AliasItem.{AliasItem}
use Rattle.pc_parsed.specs.declared.payload.AliasItem.TheVariants as alias
use Rattle.pc_parsed.specs.declared.payload.ItemKind.{ItemKind}
use Rattle.pc_parsed.specs.declared.payload.OuterKind.TheVariants as outer
use Rattle.pc_types.specs.declared.parsed.CoreKind.{CoreKind}
use Rattle.pc_parsed.specs.ItemFaults.{alias_fault, fault_or, first_item, unless}
use Rattle.pc_spec_reading.specs.Item.{Item, Lent, a_module, a_component, outer_item}
use Rattle.pc_spec_reading.specs.Nest.{counts_in, counts_of}
use Rattle.pc_spec_reading.specs.Section.{alias_item}
use Rattle.pc_local.specs.declared.captured.Captured.{Captured}
use Rattle.pc_local.specs.declared.captured.Variable.{Variable}
use Rattle.pc_local.specs.declared.item.ClosedOverComponent.{ClosedOverComponent}
use Rattle.pc_local.specs.declared.item.ClosedOverModule.{ClosedOverModule}
use Rattle.pc_local.specs.declared.item.LocalInitializer.{LocalInitializer}
use Rattle.pc_local.specs.declared.item.LocalInitializer.TheVariants as local
use Rattle.pc_local.specs.declared.item.Translation.{Translation}
use Rattle.pc_local.specs.Captured as cap
use Rattle.pc_local.specs.Plain.{plain_item}
use Rattle.pc_local.specs.Standing
use Rattle.pc_local.specs.Standing.{Leaves, ItemLeaves, leaves_here, leaves_later, leaves_alias}
use Rattle.pc_local.proofs.PlaceLemmas.{at_before, at_past, at_push, compared}
use Rattle.pc_local.proofs.StandLemmas.{and_true, counts_append, items_append, items_kept}

-- as many levels whatever their order
pub length_from_root : (ls : List (List Item)) → length (cap.from_root ls) ≡ length ls
length_from_root [] = refl
length_from_root (l ∷ ls) =
    let longer : length (cap.from_root ls ++ l ∷ []) ≡ length (cap.from_root ls) + 1 =
    length-append (cap.from_root ls) (l ∷ []) in
    let same = length_from_root ls in
    omega (arith, longer, same)

module _ (outside : List (List Item)) (inside : List Item) where
  -- the items of the innermost level
  pub items_here : cap.items_at (inside ∷ outside) (length outside) ≡ inside
  items_here =
      subst (λ (n : ℕ). cap.at_or [] (cap.from_root outside ++ inside ∷ []) n ≡ inside)
      (length_from_root outside) (at_push [] (cap.from_root outside) inside)

  -- the items of a level further out
  pub items_below : (j : ℕ) → j < length outside
      → cap.items_at (inside ∷ outside) j ≡ cap.items_at outside j
  items_below j h =
      let same = length_from_root outside in
      at_before [] (cap.from_root outside) (inside ∷ []) j (omega (arith, h, same))

  -- there are none further in
  pub items_above : (j : ℕ) → length outside < j → cap.items_at (inside ∷ outside) j ≡ []
  items_above j h =
      let longer : length (cap.from_root outside ++ inside ∷ []) ≡ length (cap.from_root outside) + 1 =
      length-append (cap.from_root outside) (inside ∷ []) in
      let same = length_from_root outside in
      at_past [] (cap.from_root outside ++ inside ∷ []) j (omega (arith, h, longer, same))

module _ (k : Lent) (c n : ℕ) where
  -- what leads out of items leads out where more follow
  pub leaves_left : (xs ys : List Item) → Leaves k c n (cap.so_far xs)
      → Leaves k c n (cap.so_far (xs ++ ys))
  leaves_left [] ys h = elim h [ ]
  leaves_left (x ∷ xs) ys (leaves_here h) = leaves_here h
  leaves_left (x ∷ xs) ys (leaves_later h) = leaves_later (leaves_left xs ys h)

  -- and where more stand before
  pub leaves_right : (xs ys : List Item) → Leaves k c n (cap.so_far ys)
      → Leaves k c n (cap.so_far (xs ++ ys))
  leaves_right [] ys h = h
  leaves_right (x ∷ xs) ys h = leaves_later (leaves_right xs ys h)

  -- out of the items of a level likewise
  pub leaves_more : (outside : List (List Item)) (inside more : List Item) (j : ℕ)
      → Leaves k c n (cap.so_far (cap.items_at (inside ∷ outside) j))
      → Leaves k c n (cap.so_far (cap.items_at ((inside ++ more) ∷ outside) j))
  leaves_more outside inside more j h =
      elim (compared j (length outside))
      as (λ _. Leaves k c n (cap.so_far (cap.items_at ((inside ++ more) ∷ outside) j))) [
        | inl below ↦
            subst (λ (l : List Item). Leaves k c n (cap.so_far l))
            (items_below outside inside j below ∙ sym (items_below outside (inside ++ more) j below)) h
        | inr other ↦ elim other
            as (λ _. Leaves k c n (cap.so_far (cap.items_at ((inside ++ more) ∷ outside) j))) [
              | inl same ↦
                  subst (λ (l : List Item). Leaves k c n (cap.so_far l))
                  (sym (ap (cap.items_at ((inside ++ more) ∷ outside)) same
                  ∙ items_here outside (inside ++ more)))
                  (leaves_left inside more
                  (subst (λ (l : List Item). Leaves k c n (cap.so_far l))
                  (ap (cap.items_at (inside ∷ outside)) same ∙ items_here outside inside) h))
              | inr above ↦
                  subst (λ (l : List Item). Leaves k c n (cap.so_far l))
                  (items_above outside inside j above ∙ sym (items_above outside (inside ++ more) j above)) h
            ]
      ]

  -- an alias leads out of the level that it is written in
  pub leaves_written : (outside : List (List Item)) (inside : List Item) (j count index : ℕ) → j ≡ length outside
      → suc c ≡ count → n ≡ index
      → Leaves k c n (cap.so_far (cap.items_at ((inside ++ outer_item k count index ∷ []) ∷ outside) j))
  leaves_written outside inside j count index same is_count is_index =
      subst (λ (l : List Item). Leaves k c n (cap.so_far l))
      (sym (ap (cap.items_at ((inside ++ outer_item k count index ∷ []) ∷ outside)) same
      ∙ items_here outside (inside ++ outer_item k count index ∷ [])))
      (leaves_right inside (outer_item k count index ∷ [])
      (subst (λ (m : ℕ). Leaves k c n (cap.so_far (outer_item k m index ∷ []))) is_count
      (subst (λ (m : ℕ). Leaves k c n (cap.so_far (outer_item k (suc c) m ∷ []))) is_index
      (leaves_here leaves_alias))))

-- what is captured stands for more items
pub captures_more : (k : Lent) (outside : List (List Item)) (inside more : List Item) (stack : List Captured)
    → cap.CapturesStand k (inside ∷ outside) stack
    → cap.CapturesStand k ((inside ++ more) ∷ outside) stack
captures_more k outside inside more stack h = record {
  deep = h.deep;
  linked = h.linked;
  used = λ j c n has.
      elim (h.used j c n has)
      as (λ _. Leaves k c n (cap.so_far (cap.items_at ((inside ++ more) ∷ outside) j))
      ⊎ Standing.Has (cap.names_at stack (suc j)) (suc c) n) [
        | inl leaves ↦ inl (leaves_more k c n outside inside more j leaves)
        | inr further ↦ inr further
      ];
}

-- what is captured for an alias stands for the items with it
pub captures_alias : (k : Lent) (outside : List (List Item)) (inside : List Item) (old new : List Captured)
    (count index : ℕ) (v : Variable) → cap.CapturesStand k (inside ∷ outside) old
    → cap.Captures old (length outside) count index new v
    → cap.CapturesStand k ((inside ++ outer_item k count index ∷ []) ∷ outside) new
captures_alias k outside inside old new count index v h captures = record {
  deep = captures.deep ∙ h.deep;
  linked = captures.linked h.linked;
  used = λ j c n has.
      elim (captures.used k (inside ∷ outside) h.used j c n has)
      as (λ _. Leaves k c n (cap.so_far (cap.items_at ((inside ++ outer_item k count index ∷ []) ∷ outside) j))
      ⊎ Standing.Has (cap.names_at new (suc j)) (suc c) n) [
        | inl leaves ↦ inl (leaves_more k c n outside inside (outer_item k count index ∷ []) j leaves)
        | inr other ↦ elim other
            as (λ _. Leaves k c n (cap.so_far (cap.items_at ((inside ++ outer_item k count index ∷ []) ∷ outside) j))
            ⊎ Standing.Has (cap.names_at new (suc j)) (suc c) n) [
              | inl further ↦ inr further
              | inr but ↦ inl (leaves_written k c n outside inside j count index but.0 but.1 but.2)
            ]
      ];
}

-- the innermost body has items more, where the names have grown
pub part_more : (bodies : List Translation) (outside : List (List Item)) (inside more : List Item)
    (old new : cap.Part) (locals : List LocalInitializer)
    → cap.PartStands bodies outside inside old → cap.NamesGrow old new
    → cap.CapturesStand a_module ((inside ++ more) ∷ outside) new.modules
    → cap.CapturesStand a_component ((inside ++ more) ∷ outside) new.components
    → new.locals ≡ old.locals ++ locals
    → Standing.ItemsStand bodies (cap.level_names new.modules new.components (length outside)) locals
    (cap.so_far more)
    → counts_in (length outside) (cap.so_far more) ≡ true
    → cap.PartStands bodies outside (inside ++ more) new
part_more bodies outside inside more old new locals stands grow modules components are items counts =
    let names = cap.level_names new.modules new.components (length outside) in
    record {
      modules = modules;
      components = components;
      items =
          subst (λ (ls : List LocalInitializer). Standing.ItemsStand bodies names ls (cap.so_far (inside ++ more)))
          (sym are)
          (items_append bodies names old.locals locals inside more
          (items_kept bodies bodies (λ i x h. h) names
          (record { modules = grow.modules (length outside); components = grow.components (length outside) })
          stands.items)
          items);
      counts =
          counts_append (length outside) inside more
          ∙ and_true (counts_in (length outside) (cap.so_far inside))
          (counts_in (length outside) (cap.so_far more)) stands.counts counts;
    }

-- names that stay have grown
pub grow_refl : (p : cap.Part) → cap.NamesGrow p p
grow_refl p = record { modules = λ j i x h. h; components = λ j i x h. h }

-- names that have grown twice have grown
pub grow_trans : (a b c : cap.Part) → cap.NamesGrow a b → cap.NamesGrow b c → cap.NamesGrow a c
grow_trans a b c first second = record {
  modules = λ j i x h. second.modules j i x (first.modules j i x h);
  components = λ j i x h. second.components j i x (first.components j i x h);
}

-- a plain item more
pub part_plain : (bodies : List Translation) (outside : List (List Item)) (inside : List Item)
    (ls : List LocalInitializer) (ms cs : List Captured) (l : LocalInitializer) (i : Item) → plain_item l ≡ Some i
    → counts_of (length outside) i ≡ true
    → cap.PartStands bodies outside inside (cap.part ls ms cs)
    → cap.PartStands bodies outside (inside ++ i ∷ []) (cap.part (ls ++ l ∷ []) ms cs)
unfolding counts_in
part_plain bodies outside inside ls ms cs l i is counts stands =
    part_more bodies outside inside (i ∷ []) (cap.part ls ms cs) (cap.part (ls ++ l ∷ []) ms cs) (l ∷ []) stands
    (record { modules = λ j k x h. h; components = λ j k x h. h })
    (captures_more a_module outside inside (i ∷ []) ms stands.modules)
    (captures_more a_component outside inside (i ∷ []) cs stands.components) refl
    (Standing.stand_more (Standing.stands_plain is) Standing.stand_none)
    (and_true (counts_of (length outside) i) true counts refl)

-- where a fault isn't there, the test of it holds
unless_none : (b : Bool) (f : StaticFault) → unless b f ≡ None → b ≡ true
unless_none true f h = refl
unless_none false f h = absurd (none-some f (sym h))

-- an alias without a fault counts no further than to the root
count_within : (count depth : ℕ) → unless (nat_lt count (suc depth)) fault.Malformed ≡ None → count < suc depth
count_within count depth h = ltb-true count (suc depth) (unless_none (nat_lt count (suc depth)) fault.Malformed h)

-- an outer alias stands in a body that it doesn't count past
outer_counts : (k : Lent) (count index depth : ℕ) → unless (nat_lt count (suc depth)) fault.Malformed ≡ None
    → counts_in depth (cap.so_far (outer_item k count index ∷ [])) ≡ true
unfolding counts_in
outer_counts k count index depth h =
    let within = count_within count depth h in
    and_true (nat_le count depth) true (le-leb count depth (omega (arith, within))) refl

module _ (ls : List LocalInitializer) (ms cs new : List Captured) (count index : ℕ) where
  -- an outer alias of a module
  pub module_goes : (v : ClosedOverModule) → ((level : ℕ) → length ms ≡ level + 1
      → cap.Captures ms level count index new (Standing.module_variable v))
      → cap.AliasGoes (alias.Outer outer.CoreModule count index) (cap.part ls ms cs)
      (cap.part (ls ++ local.AliasModule v ∷ []) new cs)
  module_goes v captured bodies outside inside sound stands =
      let level = length outside in
      let captures = captured level (stands.modules.deep ∙ sym (add-one level)) in
      let grow : cap.NamesGrow (cap.part ls ms cs) (cap.part (ls ++ local.AliasModule v ∷ []) new cs) =
      record { modules = captures.keeps; components = λ j i x h. h } in
      let more = outer_item a_module count index ∷ [] in (
        part_more bodies outside inside more (cap.part ls ms cs)
            (cap.part (ls ++ local.AliasModule v ∷ []) new cs) (local.AliasModule v ∷ []) stands grow
            (captures_alias a_module outside inside ms new count index
            (Standing.module_variable v) stands.modules captures)
            (captures_more a_component outside inside more cs stands.components) refl
            (Standing.stand_more (Standing.stands_module captures.reads) Standing.stand_none)
            (outer_counts a_module count index level sound),
        grow,
      )

  -- an outer alias of a component
  pub component_goes : (v : ClosedOverComponent) → ((level : ℕ) → length cs ≡ level + 1
      → cap.Captures cs level count index new (Standing.component_variable v))
      → cap.AliasGoes (alias.Outer outer.Component count index) (cap.part ls ms cs)
      (cap.part (ls ++ local.AliasComponent v ∷ []) ms new)
  component_goes v captured bodies outside inside sound stands =
      let level = length outside in
      let captures = captured level (stands.components.deep ∙ sym (add-one level)) in
      let grow : cap.NamesGrow (cap.part ls ms cs) (cap.part (ls ++ local.AliasComponent v ∷ []) ms new) =
      record { modules = λ j i x h. h; components = captures.keeps } in
      let more = outer_item a_component count index ∷ [] in (
        part_more bodies outside inside more (cap.part ls ms cs)
            (cap.part (ls ++ local.AliasComponent v ∷ []) ms new) (local.AliasComponent v ∷ []) stands grow
            (captures_more a_module outside inside more ms stands.modules)
            (captures_alias a_component outside inside cs new count index (Standing.component_variable v)
            stands.components captures) refl
            (Standing.stand_more (Standing.stands_component captures.reads) Standing.stand_none)
            (outer_counts a_component count index level sound),
        grow,
      )

-- an alias that counts past the root has a fault
pub module_past : (count index : ℕ) (old new : cap.Part) → length old.modules ≤ count
    → cap.AliasGoes (alias.Outer outer.CoreModule count index) old new
module_past count index old new past bodies outside inside sound stands =
    let within = count_within count (length outside) sound in
    let deep = stands.modules.deep in
    absurd (omega (arith, within, deep, past))

-- the same of components
pub component_past : (count index : ℕ) (old new : cap.Part) → length old.components ≤ count
    → cap.AliasGoes (alias.Outer outer.Component count index) old new
component_past count index old new past bodies outside inside sound stands =
    let within = count_within count (length outside) sound in
    let deep = stands.components.deep in
    absurd (omega (arith, within, deep, past))

-- nothing at the end of items
pub append_nothing : (xs : List Item) → xs ++ [] ≡ xs
append_nothing [] = refl
append_nothing (x ∷ xs) = ap (λ (l : List Item). x ∷ l) (append_nothing xs)

-- an alias that is no item changes nothing
pub nothing_goes : (a : AliasItem) (p : cap.Part) → alias_item a ≡ None → cap.AliasGoes a p p
nothing_goes a p none bodies outside inside sound stands = (
  subst (λ (l : List Item). cap.PartStands bodies outside l p)
      (sym (ap (λ (o : Option Item). inside ++ cons_option o []) none ∙ append_nothing inside)) stands,
  grow_refl p,
)

-- an alias of what an instance exports
pub plain_goes : (a : AliasItem) (ls : List LocalInitializer) (ms cs : List Captured) (l : LocalInitializer) (i : Item)
    → alias_item a ≡ Some i → plain_item l ≡ Some i → ((depth : ℕ) → counts_of depth i ≡ true)
    → cap.AliasGoes a (cap.part ls ms cs) (cap.part (ls ++ l ∷ []) ms cs)
plain_goes a ls ms cs l i some is counts bodies outside inside sound stands = (
  subst (λ (o : Option Item). cap.PartStands bodies outside (inside ++ cons_option o [])
      (cap.part (ls ++ l ∷ []) ms cs)) (sym some)
      (part_plain bodies outside inside ls ms cs l i is (counts (length outside)) stands),
  record { modules = λ j k x h. h; components = λ j k x h. h },
)

-- no aliases change nothing
pub none_go : (p : cap.Part) → cap.AliasesGo [] p p
none_go p m bodies outside inside sound stands = (
  subst (λ (l : List Item). cap.PartStands bodies outside l p) (sym (append_nothing inside)) stands,
  grow_refl p,
)

-- where the first of two faults isn't there, neither is
neither : (m : ℕ) (f : Option StaticFault) (later : Option (ℕ × StaticFault)) → fault_or m f later ≡ None
    → (f ≡ None) × (later ≡ None)
neither m None later h = (refl, h)
neither m (Some f) later h = absurd (none-some (m, f) (sym h))

-- what an alias puts in front
items_cons : (o : Option Item) (xs ys : List Item) → (xs ++ cons_option o []) ++ ys ≡ xs ++ cons_option o ys
items_cons None xs ys = ap (λ (l : List Item). l ++ ys) (append_nothing xs)
items_cons (Some i) xs ys = append_assoc xs (i ∷ []) ys

-- an alias, and then others
pub one_goes : (a : AliasItem) (later : List AliasItem) (old between new : cap.Part)
    → cap.AliasGoes a old between → cap.AliasesGo later between new → cap.AliasesGo (a ∷ later) old new
one_goes a later old between new first rest m bodies outside inside sound stands =
    let level = suc (length outside) in
    let both = neither m (alias_fault level a) (first_item (alias_fault level) (m + 1) later) sound in
    let one = first bodies outside inside both.0 stands in
    let all = rest (m + 1) bodies outside (inside ++ cons_option (alias_item a) []) both.1 one.0 in (
      subst (λ (l : List Item). cap.PartStands bodies outside l new)
          (items_cons (alias_item a) inside (filter_map alias_item later)) all.0,
      grow_trans old between new one.1 all.1,
    )

module _ (a : AliasItem) (ls new : List LocalInitializer) (ms cs : List Captured) (n : ℕ) (name same : List ℕ)
    (is_same : same ≡ name) where
  -- an alias of what a component instance exports
  pub export_goes : (k : ItemKind) → a ≡ alias.InstanceExport k n name
      → new ≡ ls ++ local.AliasComponentExport k n same ∷ []
      → cap.AliasGoes a (cap.part ls ms cs) (cap.part new ms cs)
  unfolding plain_item counts_in
  export_goes k is are =
      subst (λ (l : List LocalInitializer). cap.AliasGoes a (cap.part ls ms cs) (cap.part l ms cs)) (sym are)
      (plain_goes a ls ms cs (local.AliasComponentExport k n same) (Item.alias_item k n name) (ap alias_item is)
      (ap (λ (x : List ℕ). Some (Item.alias_item k n x)) is_same) (λ depth. refl))

  -- an alias of what a core instance exports
  pub core_goes : (k : CoreKind) → a ≡ alias.CoreInstanceExport k n name
      → new ≡ ls ++ local.AliasCoreExport k n same ∷ []
      → cap.AliasGoes a (cap.part ls ms cs) (cap.part new ms cs)
  unfolding plain_item counts_in
  core_goes k is are =
      subst (λ (l : List LocalInitializer). cap.AliasGoes a (cap.part ls ms cs) (cap.part l ms cs)) (sym are)
      (plain_goes a ls ms cs (local.AliasCoreExport k n same) (Item.core_alias_item k n name) (ap alias_item is)
      (ap (λ (x : List ℕ). Some (Item.core_alias_item k n x)) is_same) (λ depth. refl))

-- nothing is left of a list without all of it
pub drop_all : {A : Type 0} (xs : List A) (n : ℕ) → n ≡ length xs → drop n xs ≡ []
drop_all xs n all = ap (λ k. drop k xs) all ∙ whole xs
  where
    whole : {A : Type 0} (ys : List A) → drop (length ys) ys ≡ []
    whole [] = refl
    whole (y ∷ ys) = whole ys
