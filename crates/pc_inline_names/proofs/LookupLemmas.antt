-- Look-ups by number in the modules and the types of a program.
use Rattle.std.proofs.Common.{◌≡◌, ℕ, List, Some, sym, subst}
use Rattle.std.specs.Prelude.{slice_get, option_and_then}
use Rattle.std.specs.List.{AllZip}
use Rattle.pc_entity.specs.declared.string_pool.Atom.{Atom}
use Rattle.pc_entity.specs.Lists.{value_of}
use Rattle.pc_local.specs.declared.item.LocalInitializer.{LocalInitializer}
use Rattle.pc_inline_names.specs.Named.{item_names}
use Rattle.pc_inline_names.specs.Numbers.{AreNumbersOf, HasNumbers, IsNumber, numbered_value}
use Rattle.pc_inline_names.specs.Tables.{AreItemNumbers}
use Rattle.pc_inline_names.proofs.ZipLemmas.{both_there, found_alike, zip_at}

-- what stands under numbers in the list of an item is what stands under names in the item
pub found_numbered : {A V : Type 0} (names : List (List ℕ)) (entries : A → List (List ℕ × V)) (xs : List A)
    (maps : List (List (Atom × V))) (n : ℕ) (number : Atom) (name : List ℕ)
    → AllZip (λ (x : A) (map : List (Atom × V)). HasNumbers names (entries x) map) xs maps
    → IsNumber names number name
    → option_and_then (numbered_value number) (slice_get maps n)
    ≡ option_and_then (λ (x : A). value_of name (entries x)) (slice_get xs n)
found_numbered {A} {V} names entries xs maps n number name has is =
    found_alike (λ (x : A) (map : List (Atom × V)). HasNumbers names (entries x) map)
    (λ (x : A). value_of name (entries x)) (numbered_value number) (λ x map same. same number name is)
    (slice_get xs n) (slice_get maps n)
    (zip_at (λ (x : A) (map : List (Atom × V)). HasNumbers names (entries x) map) xs maps n has)

-- the numbers of an item, where nothing else stands at its place
pub item_found : (names : List (List ℕ)) (ls : List LocalInitializer) (lists : List (List Atom)) (i : ℕ)
    (l : LocalInitializer) (ns : List Atom) → AreItemNumbers names ls lists → slice_get ls i ≡ Some l
    → ((ms : List Atom) → slice_get lists i ≡ Some ms → ns ≡ ms) → AreNumbersOf names (item_names l) ns
item_found names ls lists i l ns are at only =
    let found = both_there (λ (x : LocalInitializer) (ms : List Atom). AreNumbersOf names (item_names x) ms)
    (slice_get ls i) (slice_get lists i) l
    (zip_at (λ (x : LocalInitializer) (ms : List Atom). AreNumbersOf names (item_names x) ms) ls lists i are) at in
    subst (AreNumbersOf names (item_names l)) (sym (only found.0 found.1)) found.2
