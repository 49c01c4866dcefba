-- Names that are added one after the other.
use Rattle.std.proofs.Common.{◌≡◌, ℕ, ◌+◌, Bool, true, false, ◌||◌, List, [], ◌∷◌, ◌++◌, Option, Some, None, drop, map}
use Rattle.std.proofs.Common.{refl, sym, ap, ◌∙◌, if◌then◌else◌}
use Rattle.std.specs.Option.{option_or}
use Rattle.std.specs.Str.{bytes_eq}
use Rattle.std.proofs.lemmas.List.Folds.{list_any-append}
use Rattle.pc_types.specs.declared.parsed.TypeTable.{TypeTable}
use Rattle.pc_types.specs.Names.{has_name}
use Rattle.pc_types.specs.Table.{is_value}
use Rattle.pc_parsed.specs.declared.fault.StaticFault.{StaticFault}
use Rattle.pc_parsed.specs.declared.fault.StaticFault.TheVariants as fault
use Rattle.pc_parsed.specs.declared.payload.ExportEntry.{ExportEntry}
use Rattle.pc_parsed.specs.declared.payload.ImportItem.{ImportItem}
use Rattle.pc_parsed.specs.Interface.{import_interface_fault}
use Rattle.pc_parsed.specs.ItemFaults.{export_fault, export_name, exports_fault, fault_or, import_fault, import_name}
use Rattle.pc_parsed.specs.ItemFaults.{imports_fault, is_value_kind, name_fault, value_fault}
use Rattle.pc_parsed.specs.Names.{Gains, HaveSame}

-- a test that is left for later may come first
swapped : (a b c : Bool) → (a || (b || c)) ≡ (b || (a || c))
swapped true true c = refl
swapped true false c = refl
swapped false true c = refl
swapped false false c = refl

-- a name that was gained stands before those that are still to come
pub same_next : (rest : List (List ℕ)) (name : List ℕ) (old new : List (List ℕ)) → Gains old (name ∷ []) new
    → HaveSame (rest ++ new) (name ∷ rest ++ old)
same_next rest name old new gains q =
    list_any-append (bytes_eq q) rest new
    ∙ ap (λ b. has_name rest q || b) (gains q)
    ∙ swapped (has_name rest q) (bytes_eq q name) (has_name old q)
    ∙ ap (λ b. bytes_eq q name || b) (sym (list_any-append (bytes_eq q) rest old))

-- the same names in front of the same names
pub same_cons : (name : List ℕ) (xs ys : List (List ℕ)) → HaveSame xs ys → HaveSame (name ∷ xs) (name ∷ ys)
same_cons name xs ys same q = ap (λ b. bytes_eq q name || b) (same q)

-- a name is met again among the same names
name_same : (xs ys : List (List ℕ)) (name : List ℕ) → HaveSame xs ys → name_fault xs name ≡ name_fault ys name
name_same xs ys name same = λ i. if same name i then Some fault.DefinedTwice else None

-- an export has the same fault after the same names
pub export_same : (xs ys : List (List ℕ)) (e : ExportEntry) → HaveSame xs ys → export_fault xs e ≡ export_fault ys e
export_same xs ys e same =
    ap (λ f. option_or (value_fault (is_value_kind e.kind)) f) (name_same xs ys (export_name e) same)

-- and so do exports
pub exports_same : (xs ys : List (List ℕ)) (n : ℕ) (es : List ExportEntry) → HaveSame xs ys
    → exports_fault xs n es ≡ exports_fault ys n es
exports_same xs ys n [] same = refl
exports_same xs ys n (e ∷ es) same =
    let name = export_name e in
    let later = exports_same (name ∷ xs) (name ∷ ys) (n + 1) es (same_cons name xs ys same) in
    (λ i. fault_or n (export_same xs ys e same i) (later i))

module _ (t : TypeTable) (exposed : Option (List ℕ)) where
  -- an import has the same fault after the same names
  pub import_same : (xs ys : List (List ℕ)) (x : ImportItem) → HaveSame xs ys
      → import_fault t exposed xs x ≡ import_fault t exposed ys x
  import_same xs ys x same =
      ap
      (λ f. option_or (value_fault (is_value x.ty))
      (option_or f (import_interface_fault t exposed (import_name x) x.ty)))
      (name_same xs ys (import_name x) same)

  -- and so do imports
  pub imports_same : (xs ys : List (List ℕ)) (n : ℕ) (es : List ImportItem) → HaveSame xs ys
      → imports_fault t exposed xs n es ≡ imports_fault t exposed ys n es
  imports_same xs ys n [] same = refl
  imports_same xs ys n (e ∷ es) same =
      let name = import_name e in
      let later = imports_same (name ∷ xs) (name ∷ ys) (n + 1) es (same_cons name xs ys same) in
      (λ i. fault_or n (import_same xs ys e same i) (later i))

  -- one import further
  pub imports_step : (xs : List ImportItem) (n : ℕ) (x : ImportItem) (old new total : List (List ℕ))
      (r : Option (ℕ × StaticFault))
      → drop n xs ≡ x ∷ drop (n + 1) xs → import_fault t exposed old x ≡ None → Gains old (import_name x ∷ []) new
      → (imports_fault t exposed old n (drop n xs) ≡ r) × HaveSame (map import_name (drop n xs) ++ old) total
      → (imports_fault t exposed new (n + 1) (drop (n + 1) xs) ≡ r)
      × HaveSame (map import_name (drop (n + 1) xs) ++ new) total
  imports_step xs n x old new total r at none gains so_far =
      let rest = drop (n + 1) xs in (
        imports_same new (import_name x ∷ old) (n + 1) rest gains
            ∙ (λ i. fault_or n (sym none i) (imports_fault t exposed (import_name x ∷ old) (n + 1) rest))
            ∙ ap (imports_fault t exposed old n) (sym at) ∙ so_far.0,
        (λ q. same_next (map import_name rest) (import_name x) old new gains q
            ∙ ap (λ (l : List ImportItem). has_name (map import_name l ++ old) q) (sym at) ∙ so_far.1 q),
      )

-- one export further
pub exports_step : (xs : List ExportEntry) (n : ℕ) (x : ExportEntry) (old new total : List (List ℕ))
    (r : Option (ℕ × StaticFault))
    → drop n xs ≡ x ∷ drop (n + 1) xs → export_fault old x ≡ None → Gains old (export_name x ∷ []) new
    → (exports_fault old n (drop n xs) ≡ r) × HaveSame (map export_name (drop n xs) ++ old) total
    → (exports_fault new (n + 1) (drop (n + 1) xs) ≡ r) × HaveSame (map export_name (drop (n + 1) xs) ++ new) total
exports_step xs n x old new total r at none gains so_far =
    let rest = drop (n + 1) xs in (
      exports_same new (export_name x ∷ old) (n + 1) rest gains
          ∙ (λ i. fault_or n (sym none i) (exports_fault (export_name x ∷ old) (n + 1) rest))
          ∙ ap (exports_fault old n) (sym at) ∙ so_far.0,
      (λ q. same_next (map export_name rest) (export_name x) old new gains q
          ∙ ap (λ (l : List ExportEntry). has_name (map export_name l ++ old) q) (sym at) ∙ so_far.1 q),
    )
