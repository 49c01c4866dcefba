-- Lists whose items were given numbers one after the other, while names were added.
use Rattle.std.proofs.Common.{◌≡◌, ◌<◌, ◌≤◌, ◌⊎◌, ℕ, List, [], ◌∷◌, ◌++◌, length, map, Option, None, Some}
use Rattle.std.proofs.Common.{Result, Ok, Err, inl, inr, sym, ap, subst, arith, ◌∙◌}
use Rattle.std.specs.Prelude.{OnOk, slice_get}
use Rattle.std.specs.List.{AllZip}
use Rattle.std.proofs.lemmas.List.{length-append}
use Rattle.std.proofs.lemmas.Option.{none-some}
use Rattle.pc_entity.specs.declared.string_pool.Atom.{Atom}
use Rattle.pc_entity.specs.Lists.{AreDistinct, Kept}
use Rattle.pc_entity.proofs.Growing.{kept_refl, kept_trans}
use Rattle.pc_types.specs.declared.parsed.DeclType.{DeclType}
use Rattle.pc_types_walk.specs.Names.{export_names}
use Rattle.pc_local.specs.declared.item.LocalInitializer.{LocalInitializer}
use Rattle.pc_local.specs.Sound.{export_name}
use Rattle.pc_inline_names.specs.declared.types.TypeNumbers.{TypeNumbers}
use Rattle.pc_inline_names.specs.Both.{Both}
use Rattle.pc_inline_names.specs.Named.{imports_of, item_names, module_names}
use Rattle.pc_inline_names.specs.Numbers.{AreImportNumbers, AreNumbersOf, IsNumber, numbered_value}
use Rattle.pc_inline_names.specs.Tables.{AddsNames, AreBodyNumbers, AreNames, AreRecordNumbers}
use Rattle.pc_inline_names.specs.Tables.{AreTypeNumbers, HasTypeNumbers, number_place}
use Rattle.pc_inline_names.proofs.NumberedLemmas.{grown_kept, imports_kept, numbers_kept}
use Rattle.pc_inline_names.proofs.ZipLemmas.{both_more, zip_more, zip_push}

-- where there are no names yet, all is well
pub no_names : (names : List (List ℕ)) → names ≡ [] → AreNames names
no_names names none = record {
  distinct = λ i j x at there. absurd (none-some x (sym (ap (λ (ns : List (List ℕ)). slice_get ns i) none) ∙ at));
  few = omega (arith, ap length none);
}

-- nothing was added
pub adds_none : (names : List (List ℕ)) → AreNames names → AddsNames names names
adds_none names are = record { kept = kept_refl names; names = are }

-- what was added on top of what was added
pub adds_more : (old mid new : List (List ℕ)) → AddsNames old mid → AddsNames mid new → AddsNames old new
adds_more old mid new first second = record {
  kept = kept_trans old mid new first.kept second.kept;
  names = second.names;
}

-- an interner holds what it held, and one name more or none
pub adds_one : (old new : List (List ℕ)) (name : List ℕ) → (new ≡ old) ⊎ (new ≡ old ++ name ∷ []) → AreDistinct new
    → length old < 4294967295 → AddsNames old new
adds_one old new name grows distinct room = record {
  kept = grown_kept old new name grows;
  names = record { distinct = distinct; few = few grows };
}
  where
    few : (new ≡ old) ⊎ (new ≡ old ++ name ∷ []) → length new ≤ 4294967295
    few (inl same) = omega (arith, room, ap length same)
    few (inr more) = omega (arith, room, ap length more, length-append old (name ∷ []))

module _ {A B : Type 0} (R : List (List ℕ) → A → B → Type 0) where
  -- what stands so by the names stands so when there are more
  abbrev pub Lasts : Type 0
  Lasts = (old new : List (List ℕ)) → Kept old new → (x : A) (y : B) → R old x y → R new x y

  -- while names were added to these, these items were given these, which stand so for them by the names of now
  pub record Added (old : List (List ℕ)) (xs : List A) (now : List (List ℕ)) (ys : List B) : Type 0 where
    pub adds : AddsNames old now
    pub numbers : AllZip (R now) xs ys

  -- none yet
  pub added_none : (names : List (List ℕ)) → AreNames names → Added names [] names []
  added_none names are = record { adds = adds_none names are; numbers = tt }

  -- all of them stand so when there are more names
  pub zip_lasts : Lasts → (old new : List (List ℕ)) → Kept old new → (xs : List A) (ys : List B) → AllZip (R old) xs ys
      → AllZip (R new) xs ys
  zip_lasts lasts old new kept xs ys are = zip_more (R old) (R new) (lasts old new kept) xs ys are

  -- and one more
  pub added_next : Lasts → (old : List (List ℕ)) (xs : List A) (now : List (List ℕ)) (ys : List B) (x : A) (y : B)
      (new : List (List ℕ)) → Added old xs now ys → AddsNames now new → R new x y
      → Added old (xs ++ x ∷ []) new (ys ++ y ∷ [])
  added_next lasts old xs now ys x y new added more stands = record {
    adds = adds_more old now new added.adds more;
    numbers = zip_push (R new) xs ys x y (zip_lasts lasts now new more.kept xs ys added.numbers) stands;
  }

-- a number and its name
abbrev pub Numbered : List (List ℕ) → List ℕ → Atom → Type 0
Numbered names name n = IsNumber names n name

-- the number stays that of the name
pub number_lasts : Lasts Numbered
number_lasts old new kept name n is = kept n.0 name is

-- the numbers of the names in an item
abbrev pub ItemNumbered : List (List ℕ) → LocalInitializer → List Atom → Type 0
ItemNumbered names l ns = AreNumbersOf names (item_names l) ns

pub item_lasts : Lasts ItemNumbered
item_lasts old new kept l ns are = numbers_kept old new kept (item_names l) ns are

-- those of a body
pub body_lasts : Lasts AreBodyNumbers
body_lasts old new kept tr x are = record {
  items = zip_lasts ItemNumbered item_lasts old new kept tr.initializers x.items.ended are.items;
  exports = numbers_kept old new kept (map export_name tr.exports) x.exports are.exports;
}

-- those of the imports of a core module
pub record_lasts : Lasts AreRecordNumbers
record_lasts old new kept r ns are = imports_kept old new kept r.imports ns are

-- those of an entry of a table
pub type_lasts : Lasts AreTypeNumbers
type_lasts old new kept e None are = are
type_lasts old new kept e (Some x) are = record {
  exports = numbers_kept old new kept (export_names e) x.exports are.exports;
  places = are.places;
  imports = both_more (AreImportNumbers old) (AreImportNumbers new) (imports_kept old new kept) (imports_of e) x.imports
      are.imports;
  texts = are.texts;
}

-- a type has these numbers, and these names of its exports
pub type_numbered : (names : List (List ℕ)) (e : DeclType) (x : TypeNumbers) (ns : List Atom)
    (is : Option (List (Atom × Atom))) (texts : List (List ℕ)) → x.exports ≡ ns
    → ((n : Atom) → numbered_value n x.places ≡ number_place 0 n ns) → x.imports ≡ is → x.names ≡ texts
    → AreNumbersOf names (export_names e) ns → Both (AreImportNumbers names) (imports_of e) is → texts ≡ module_names e
    → HasTypeNumbers names e x
type_numbered names e x ns is texts exports places imports these are have named = record {
  exports = subst (AreNumbersOf names (export_names e)) (sym exports) are;
  places = λ n. places n ∙ ap (number_place 0 n) (sym exports);
  imports = subst (Both (AreImportNumbers names) (imports_of e)) (sym imports) have;
  texts = these ∙ named;
}

-- what holds at all holds where there is a value
pub on_ok : {T E P : Type 0} (r : Result T E) → P → OnOk r P
on_ok (Ok x) p = p
on_ok (Err e) p = tt
