-- Bodies that grow at their end, and bodies of a program that grows.
use Rattle.std.proofs.Common.{◌≡◌, ℕ, Bool, true, false, ◌&&◌, Option, None, List, [], ◌∷◌, ◌++◌, Some, refl, sym, ap}
use Rattle.std.proofs.Common.{◌∙◌, append_assoc}
use Rattle.std.specs.List.{AllZip, cons_option}
use Rattle.pc_entity.specs.Lists.{Kept}
use Rattle.pc_spec_reading.specs.Item.{Item, Items, ExportOf, and_item, before, bodies_in, bodies_of, exports_in}
use Rattle.pc_spec_reading.specs.Nest.{counts_in, counts_of}
use Rattle.pc_local.specs.declared.item.ClosedOverVars.{ClosedOverVars}
use Rattle.pc_local.specs.declared.item.LocalInitializer.{LocalInitializer}
use Rattle.pc_local.specs.declared.item.Translation.{Translation}
use Rattle.pc_local.specs.Captured.{so_far}
use Rattle.pc_local.specs.Standing
use Rattle.pc_local.proofs.CaptureLemmas.{gives_more, reads_more}

-- names of both kinds are kept
pub record NamesKept (names more : Standing.Names) : Type 0 where
  pub modules : Kept names.modules more.modules
  pub components : Kept names.components more.components

-- what a nested component is given, it is given where the names have grown
given_more : (names more : Standing.Names) (vars : ClosedOverVars) (inner : Standing.Names) (body : Items)
    → NamesKept names more
    → Standing.Given names vars inner body → Standing.Given more vars inner body
given_more names more vars inner body kept g = record {
  modules = gives_more names.modules more.modules _ inner.modules kept.modules g.modules;
  components = gives_more names.components more.components _ inner.components kept.components g.components;
  leaving = g.leaving;
}

module _ (bodies longer : List Translation) (grown : Kept bodies longer) where
  -- the names are the same
  same_names : (names : Standing.Names) → NamesKept names names
  same_names names = record { modules = λ i x h. h; components = λ i x h. h }

  mutual
    -- an item stands where the bodies and the names have grown
    pub item_kept : {names : Standing.Names} {l : LocalInitializer} {i : Item} (more : Standing.Names)
        → NamesKept names more → Standing.ItemStands bodies names l i → Standing.ItemStands longer more l i
    item_kept more kept (Standing.stands_plain is) = Standing.stands_plain is
    item_kept more kept (Standing.stands_module {names = names} {v = v} {c = c} {n = n} r) =
        Standing.stands_module
        (reads_more names.modules more.modules (Standing.module_variable v) c n kept.modules r)
    item_kept more kept (Standing.stands_component {names = names} {v = v} {c = c} {n = n} r) =
        Standing.stands_component
        (reads_more names.components more.components (Standing.component_variable v) c n kept.components r)
    item_kept more kept
        (Standing.stands_nested {names = names} {inner = inner} {s = s} {vars = vars} {t = t} {body = body} at items
        exports g) =
        Standing.stands_nested (grown s t at) (items_kept inner (same_names inner) items) exports
        (given_more names more vars inner body kept g)

    -- and so do items
    pub items_kept : {names : Standing.Names} {ls : List LocalInitializer} {is : Items} (more : Standing.Names)
        → NamesKept names more → Standing.ItemsStand bodies names ls is → Standing.ItemsStand longer more ls is
    items_kept more kept Standing.stand_none = Standing.stand_none
    items_kept more kept (Standing.stand_more i is) =
        Standing.stand_more (item_kept more kept i) (items_kept more kept is)

  -- a component stands where the bodies have grown
  pub component_kept : (t : Translation) (body : Items) → Standing.ComponentStands bodies t body
      → Standing.ComponentStands longer t body
  component_kept t body h = record {
    names = h.names;
    stands = record { items = items_kept h.names (same_names h.names) h.stands.items; exports = h.stands.exports };
    leaving = h.leaving;
  }

-- two lists that go together, with one more each
pub zip_push : {A B : Type 0} (R : A → B → Type 0) (xs : List A) (ys : List B) (x : A) (y : B) → AllZip R xs ys
    → R x y → AllZip R (xs ++ x ∷ []) (ys ++ y ∷ [])
zip_push R [] [] x y h r = (r, tt)
zip_push R [] (b ∷ ys) x y h r = absurd h
zip_push R (a ∷ xs) [] x y h r = absurd h
zip_push R (a ∷ xs) (b ∷ ys) x y h r = (h.0, zip_push R xs ys x y h.1 r)

-- two lists that go together in one way and so in another
pub zip_kept : {A B : Type 0} (R S : A → B → Type 0) → ((a : A) (b : B) → R a b → S a b) → (xs : List A) (ys : List B)
    → AllZip R xs ys → AllZip S xs ys
zip_kept R S kept [] [] h = tt
zip_kept R S kept [] (b ∷ ys) h = absurd h
zip_kept R S kept (a ∷ xs) [] h = absurd h
zip_kept R S kept (a ∷ xs) (b ∷ ys) h = (kept a b h.0, zip_kept R S kept xs ys h.1)

-- the bodies inside items after items
pub bodies_append : (xs ys : List Item)
    → bodies_in (so_far (xs ++ ys)) ≡ bodies_in (so_far xs) ++ bodies_in (so_far ys)
bodies_append [] ys = refl
bodies_append (x ∷ xs) ys =
    ap (λ (l : List Items). bodies_of x ++ l) (bodies_append xs ys)
    ∙ sym (append_assoc (bodies_of x) (bodies_in (so_far xs)) (bodies_in (so_far ys)))

-- items that stand before others, put together
pub before_append : (xs ys : List Item) (is : Items) → before (xs ++ ys) is ≡ before xs (before ys is)
before_append [] ys is = refl
before_append (x ∷ xs) ys is = ap (and_item x) (before_append xs ys is)

-- items stand after items
pub items_append : (bodies : List Translation) (names : Standing.Names) (ls more : List LocalInitializer)
    (xs ys : List Item) → Standing.ItemsStand bodies names ls (so_far xs)
    → Standing.ItemsStand bodies names more (so_far ys)
    → Standing.ItemsStand bodies names (ls ++ more) (so_far (xs ++ ys))
items_append bodies names [] more [] ys Standing.stand_none h = h
items_append bodies names [] more (x ∷ xs) ys stands h = elim stands [ ]
items_append bodies names (l ∷ ls) more [] ys stands h = elim stands [ ]
items_append bodies names (l ∷ ls) more (x ∷ xs) ys (Standing.stand_more i is) h =
    Standing.stand_more i (items_append bodies names ls more xs ys is h)

-- a test in front of two
and_inside : (a b c : Bool) → (a && (b && c)) ≡ ((a && b) && c)
and_inside true b c = refl
and_inside false b c = refl

-- both hold
pub and_true : (a b : Bool) → a ≡ true → b ≡ true → (a && b) ≡ true
and_true a b ha hb = (λ i. ha i && hb i)

-- the counts of items after items
pub counts_append : (depth : ℕ) (xs ys : List Item)
    → counts_in depth (so_far (xs ++ ys)) ≡ (counts_in depth (so_far xs) && counts_in depth (so_far ys))
unfolding counts_in
counts_append depth [] ys = refl
counts_append depth (x ∷ xs) ys =
    ap (λ (b : Bool). counts_of depth x && b) (counts_append depth xs ys)
    ∙ and_inside (counts_of depth x) (counts_in depth (so_far xs)) (counts_in depth (so_far ys))

-- what an item exports
abbrev pub export_of : Item → Option ExportOf
export_of (Item.export_item e) = Some e
export_of _ = None

-- the exports of a body that begins with an item
pub exports_cons : (i : Item) (is : Items) → exports_in (and_item i is) ≡ cons_option (export_of i) (exports_in is)
exports_cons (Item.import_item a b) is = refl
exports_cons Item.intrinsics_import is = refl
exports_cons (Item.resource_item a b c) is = refl
exports_cons (Item.lift_item a b c d) is = refl
exports_cons (Item.lower_item a b c d) is = refl
exports_cons (Item.builtin_item a b c) is = refl
exports_cons (Item.waitable_item a b c) is = refl
exports_cons (Item.task_return_item a b c) is = refl
exports_cons (Item.error_context_item a b c) is = refl
exports_cons (Item.context_item a b c) is = refl
exports_cons (Item.new_thread_item a b c) is = refl
exports_cons (Item.module_item a b) is = refl
exports_cons (Item.instantiate_module_item a b) is = refl
exports_cons (Item.core_exports_item a) is = refl
exports_cons (Item.component_item a) is = refl
exports_cons (Item.instantiate_component_item a b c) is = refl
exports_cons (Item.component_exports_item a b) is = refl
exports_cons (Item.core_alias_item a b c) is = refl
exports_cons (Item.alias_item a b c) is = refl
exports_cons (Item.outer_item a b c) is = refl
exports_cons (Item.export_item a) is = refl

-- what may export something, in front
pub option_append : (o : Option ExportOf) (xs ys : List ExportOf) → cons_option o (xs ++ ys) ≡ cons_option o xs ++ ys
option_append None xs ys = refl
option_append (Some x) xs ys = refl

-- the exports of items after items
pub exports_append : (xs ys : List Item)
    → exports_in (so_far (xs ++ ys)) ≡ exports_in (so_far xs) ++ exports_in (so_far ys)
exports_append [] ys = refl
exports_append (x ∷ xs) ys =
    exports_cons x (so_far (xs ++ ys)) ∙ ap (cons_option (export_of x)) (exports_append xs ys)
    ∙ option_append (export_of x) (exports_in (so_far xs)) (exports_in (so_far ys))
    ∙ ap (λ (es : List ExportOf). es ++ exports_in (so_far ys)) (sym (exports_cons x (so_far xs)))
