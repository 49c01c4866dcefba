-- The walk through exports: what each step prints and leaves.
use Rattle.std.proofs.Common.{◌≡◌, ℕ, zero, suc, ◌+◌, ◌<◌, ◌≤◌, true, List, [], ◌∷◌, ◌++◌, length, take, reverse}
use Rattle.std.proofs.Common.{Option, Some, None, refl, sym, ap, subst, ◌∙◌, append_assoc, arith}
use Rattle.std.specs.Prelude.{slice_get, nat_lt, codes, option_map}
use Rattle.std.specs.List.{cons_option, filter_map, flat_map}
use Rattle.std.proofs.Math.Seq.{take-append_seam, take-length}
use Rattle.std.proofs.lemmas.Bool.{ltb-true, lt-ltb}
use Rattle.std.proofs.lemmas.List.{append-nil, length-append, length-take-le, reverse-append}
use Rattle.std.proofs.lemmas.Option.{none-some, same_Some, slice_get_within}
use Rattle.pc_entity.proofs.Elements.{and_true, true_and}
use Rattle.pc_types.specs.declared.types.ComponentExternData.{ComponentExternData}
use Rattle.pc_spec_plan.specs.PlanView as plan
use Rattle.pc_spec_plan.specs.Text.{definition, export_lines, extern_data, line_end, named_lines, nested_lines, number}
use Rattle.pc_spec_plan.specs.Text.{quoted}
use Rattle.pc_trampoline.specs.declared.part.Mark.{Mark}
use Rattle.pc_info.specs.declared.component.Component.{Component}
use Rattle.pc_info.specs.declared.export.Export.{Export}
use Rattle.pc_info.specs.declared.export.Export.TheVariants as export
use Rattle.pc_info.specs.Definitions.{def_view}
use Rattle.pc_info.specs.Exports.{Entry, are_behind_their_parts, export_view, exports_view, has_items}
use Rattle.pc_info.specs.Exports.{is_behind_its_parts, named_view, names_below, nested_view, number_of, trees_of}
use Rattle.pc_info.specs.Exports.{with_export}
use Rattle.pc_info.proofs.TreeLemmas.{tree_of}
use Rattle.pc_text.specs.declared.export.Open.{Open}
use Rattle.pc_text.specs.ExportWalk.{IsOpen, Steps, item_text, left_lines, node_line, opened}

-- the trees of exports, of which a text is made
abbrev Trees : Type 0
Trees = List (plan.PlanExport Mark)

-- what stands among the first items is what stands there
slice_get-take : {A : Type 0} (n : ℕ) (xs : List A) (k : ℕ) → k < n → slice_get (take n xs) k ≡ slice_get xs k
slice_get-take zero xs k h =
    let none : ⊥ = omega (arith, h) in
    absurd none
slice_get-take (suc n) [] k h = refl
slice_get-take (suc n) (x ∷ xs) zero h = refl
slice_get-take (suc n) (x ∷ xs) (suc k) h = slice_get-take n xs k (omega (arith, h))

-- names of the first items are the same under these items alone
nested-take : (trees : Trees) (n : ℕ) (es : List Entry) → names_below n es ≡ true
    → nested_view (take n trees) es ≡ nested_view trees es
nested-take trees n [] h = refl
nested-take trees n (e ∷ es) h =
    let both = and_true (nat_lt (number_of e) n) (names_below n es) h in
    let here = slice_get-take n trees (number_of e) (ltb-true (number_of e) n both.0) in
    rw (here, nested-take trees n es both.1) refl

-- names of the first items are names of more
names_below-more : (n m : ℕ) (es : List Entry) → n ≤ m → names_below n es ≡ true → names_below m es ≡ true
names_below-more n m [] le h = refl
names_below-more n m (e ∷ es) le h =
    let both = and_true (nat_lt (number_of e) n) (names_below n es) h in
    let below : number_of e < n = ltb-true (number_of e) n both.0 in
    true_and (nat_lt (number_of e) m) (names_below m es) (lt-ltb (number_of e) m (omega (arith, below, le)))
    (names_below-more n m es le both.1)

-- an item stands behind what it names
behind_at : (n : ℕ) (items : List Export) (k : ℕ) (e : Export) → are_behind_their_parts n items ≡ true
    → slice_get items k ≡ Some e → is_behind_its_parts (n + k) e ≡ true
behind_at n [] k e h at = absurd (none-some e at)
behind_at n (x ∷ xs) zero e h at =
    let both = and_true (is_behind_its_parts n x) (are_behind_their_parts (n + 1) xs) h in
    let here : n + 0 ≡ n = omega arith in
    subst (λ (m : ℕ). is_behind_its_parts m e ≡ true) (sym here)
    (subst (λ (y : Export). is_behind_its_parts n y ≡ true) (same_Some x e at) both.0)
behind_at n (x ∷ xs) (suc k) e h at =
    let both = and_true (is_behind_its_parts n x) (are_behind_their_parts (n + 1) xs) h in
    let there : (n + 1) + k ≡ n + suc k = omega arith in
    subst (λ (m : ℕ). is_behind_its_parts m e ≡ true) there (behind_at (n + 1) xs k e both.1 at)

-- the lines of what an export exports itself
abbrev inside : Trees → (path : List ℕ) → Export → List ℕ
inside trees path (export.Instance ty exports) = nested_lines path (nested_view trees exports.definitions)
inside trees path (export.LiftedFunction ty func options) = []
inside trees path (export.ImportedFunction ty r) = []
inside trees path (export.ModuleStatic ty index) = []
inside trees path (export.ModuleImport ty r) = []
inside trees path (export.Type_ ty) = []

grouped-1 : (a p x m z : List ℕ) → a ++ p ++ x ++ m ++ z ≡ (a ++ p ++ x ++ m ++ z) ++ []
grouped-1 a p x m z = sym (append-nil _)

grouped-2 : (a p x y m z : List ℕ) → a ++ p ++ x ++ y ++ m ++ z ≡ (a ++ p ++ (x ++ y) ++ m ++ z) ++ []
grouped-2 a p x y m z = simp (append_assoc, append-nil)

grouped-4 : (a p x d y o m z : List ℕ)
    → a ++ p ++ x ++ d ++ y ++ o ++ m ++ z ≡ (a ++ p ++ (x ++ d ++ y ++ o) ++ m ++ z) ++ []
grouped-4 a p x d y o m z = simp (append_assoc, append-nil)

-- the lines of an export are its own, and those of what it exports
export_lines_are : (trees : Trees) (path : List ℕ) (meta : ComponentExternData) (e : Export)
    → export_lines path meta (export_view trees e) ≡ node_line path meta e ++ inside trees path e
unfolding node_line
export_lines_are trees path meta (export.LiftedFunction ty func options) =
    grouped-4 (codes "export") path (codes " lifted ") (definition (def_view func)) (codes " options")
    (number options.0) (extern_data meta) line_end
export_lines_are trees path meta (export.ImportedFunction ty r) =
    grouped-2 (codes "export") path (codes " imported") (number r.0) (extern_data meta) line_end
export_lines_are trees path meta (export.ModuleStatic ty index) =
    grouped-2 (codes "export") path (codes " module-static") (number index.0) (extern_data meta) line_end
export_lines_are trees path meta (export.ModuleImport ty r) =
    grouped-2 (codes "export") path (codes " module-import") (number r.0) (extern_data meta) line_end
export_lines_are trees path meta (export.Instance ty exports) = refl
export_lines_are trees path meta (export.Type_ ty) =
    grouped-1 (codes "export") path (codes " type") (extern_data meta) line_end

-- what an export exports is the same under the items before it
inside-take : (trees : Trees) (n : ℕ) (path : List ℕ) (e : Export) → is_behind_its_parts n e ≡ true
    → inside (take n trees) path e ≡ inside trees path e
inside-take trees n path (export.Instance ty exports) h =
    ap (nested_lines path) (nested-take trees n exports.definitions h)
inside-take trees n path (export.LiftedFunction ty func options) h = refl
inside-take trees n path (export.ImportedFunction ty r) h = refl
inside-take trees n path (export.ModuleStatic ty index) h = refl
inside-take trees n path (export.ModuleImport ty r) h = refl
inside-take trees n path (export.Type_ ty) h = refl

-- the lines of an item are its own, and those of what it exports
item_lines : (items : List Export) (k : ℕ) (e : Export) (path : List ℕ) (meta : ComponentExternData)
    → are_behind_their_parts 0 items ≡ true → slice_get items k ≡ Some e
    → export_lines path meta (export_view (take k (trees_of items)) e)
    ≡ node_line path meta e ++ inside (trees_of items) path e
item_lines items k e path meta ordered at =
    let here : 0 + k ≡ k = omega arith in
    let behind = subst (λ (m : ℕ). is_behind_its_parts m e ≡ true) here (behind_at 0 items k e ordered at) in
    export_lines_are (take k (trees_of items)) path meta e
    ∙ ap (λ (more : List ℕ). node_line path meta e ++ more) (inside-take (trees_of items) k path e behind)

-- the lines of names from the first on
first_lines : (items : List Export) (path : List ℕ) (x : Entry) (more : List Entry) (e : Export)
    → are_behind_their_parts 0 items ≡ true → slice_get items (number_of x) ≡ Some e
    → nested_lines path (nested_view (trees_of items) (x ∷ more))
    ≡ (node_line (path ++ codes " " ++ quoted x.0) x.1.1 e
    ++ inside (trees_of items) (path ++ codes " " ++ quoted x.0) e)
    ++ nested_lines path (nested_view (trees_of items) more)
first_lines items path x more e ordered at =
    let rest = nested_view (trees_of items) more in
    let found = tree_of items (number_of x) e at in
    ap (λ (o : Option (plan.PlanExport Mark)). nested_lines path (with_export x o rest)) found
    ∙ ap (λ (line : List ℕ). line ++ nested_lines path rest)
    (item_lines items (number_of x) e (path ++ codes " " ++ quoted x.0) x.1.1 ordered at)

-- an export that is opened has its exports printed first
opened_lines : (trees : Trees) (path : List ℕ) (e : Export) (os : List Open)
    → left_lines trees path (opened e (length path) ++ os) ≡ inside trees path e ++ left_lines trees path os
unfolding left_lines opened
opened_lines trees path (export.Instance ty exports) os =
    ap (λ (p : List ℕ). nested_lines p (nested_view trees exports.definitions) ++ left_lines trees p os)
    (take-length path)
opened_lines trees path (export.LiftedFunction ty func options) os = refl
opened_lines trees path (export.ImportedFunction ty r) os = refl
opened_lines trees path (export.ModuleStatic ty index) os = refl
opened_lines trees path (export.ModuleImport ty r) os = refl
opened_lines trees path (export.Type_ ty) os = refl

-- the last one is the first from behind
flipped : (os : List Open) (o : Open) → reverse ((os ++ o ∷ []) ++ []) ≡ o ∷ reverse os
flipped os o = ap reverse (append-nil (os ++ o ∷ [])) ∙ reverse-append os (o ∷ [])

-- an export that is opened is the innermost one
pub opened_last : (e : Export) (path : ℕ) (os : List Open) (o : Open)
    → reverse ((os ++ o ∷ []) ++ opened e path) ≡ opened e path ++ (o ∷ reverse os)
unfolding opened
opened_last (export.Instance ty exports) n os o =
    let r : Open = record { left = exports.definitions; path = n } in
    reverse-append (os ++ o ∷ []) (r ∷ []) ∙ ap (λ (rest : List Open). r ∷ rest) (reverse-append os (o ∷ []))
opened_last (export.LiftedFunction ty func options) n os o = flipped os o
opened_last (export.ImportedFunction ty r) n os o = flipped os o
opened_last (export.ModuleStatic ty index) n os o = flipped os o
opened_last (export.ModuleImport ty r) n os o = flipped os o
opened_last (export.Type_ ty) n os o = flipped os o

-- what is opened is one at most
opened_few : (e : Export) (path : ℕ) (os : List Open) → length (opened e path ++ os) ≤ suc (length os)
unfolding opened
opened_few (export.Instance ty exports) n os = omega arith
opened_few (export.LiftedFunction ty func options) n os = omega arith
opened_few (export.ImportedFunction ty r) n os = omega arith
opened_few (export.ModuleStatic ty index) n os = omega arith
opened_few (export.ModuleImport ty r) n os = omega arith
opened_few (export.Type_ ty) n os = omega arith

-- an item that is opened names items before it
opened_stays : (n k path : ℕ) (e : Export) (os : List Open) → is_behind_its_parts k e ≡ true → k ≤ n
    → IsOpen n path os → IsOpen n path (opened e path ++ os)
unfolding opened IsOpen
opened_stays n k path (export.Instance ty exports) os behind le is =
    (names_below-more k n exports.definitions le behind, omega arith, is)
opened_stays n k path (export.LiftedFunction ty func options) os behind le is = is
opened_stays n k path (export.ImportedFunction ty r) os behind le is = is
opened_stays n k path (export.ModuleStatic ty index) os behind le is = is
opened_stays n k path (export.ModuleImport ty r) os behind le is = is
opened_stays n k path (export.Type_ ty) os behind le is = is

-- a line isn't empty
line_long : (path : List ℕ) (meta : ComponentExternData) (e : Export) → 1 < length (node_line path meta e)
unfolding node_line
line_long path meta e =
    let long = length-append (codes "export" ++ path ++ item_text e ++ extern_data meta) line_end in
    let longer = length-append (codes "export" ++ path ++ item_text e) (extern_data meta) in
    let longer2 = length-append (codes "export" ++ path) (item_text e) in
    let longer3 = length-append (codes "export") path in
    let six : length (codes "export") ≡ 6 = refl in
    omega (arith, long, longer, longer2, longer3, six)

-- four texts, grouped in either way
four : (a b c d : List ℕ) → ((a ++ b) ++ c) ++ d ≡ a ++ (b ++ (c ++ d))
four a b c d = simp append_assoc

-- the next export has its item
pub first_held : (n path : ℕ) (o : Open) (x : Entry) (more : List Entry) (os : List Open) → IsOpen n path (o ∷ os)
    → o.left ≡ x ∷ more → number_of x < n
unfolding IsOpen
first_held n path o x more os is first =
    let names = ap (names_below n) (sym first) ∙ is.0 in
    ltb-true (number_of x) n (and_true (nat_lt (number_of x) n) (names_below n more) names).0

-- the next export was printed, under the path that leads to it, and opened if it is an instance
next_at : (items : List Export) (out path : List ℕ) (o : Open) (x : Entry) (more : List Entry) (os : List Open)
    (e : Export) (out' : List ℕ) → are_behind_their_parts 0 items ≡ true
    → IsOpen (length items) (length path) (o ∷ os)
    → o.left ≡ x ∷ more → slice_get items (number_of x) ≡ Some e
    → out' ≡ out ++ node_line (take o.path path ++ codes " " ++ quoted x.0) x.1.1 e
    → Steps items out path (o ∷ os) out' (take o.path path ++ codes " " ++ quoted x.0)
    (opened e (length (take o.path path ++ codes " " ++ quoted x.0)) ++ record { left = more; path = o.path } ∷ os)
unfolding IsOpen left_lines
next_at items out path o x more os e out' ordered is first at printed =
    let trees = trees_of items in
    let front = take o.path path in
    let name = codes " " ++ quoted x.0 in
    let onward = front ++ codes " " ++ quoted x.0 in
    let line = node_line onward x.1.1 e in
    let short : length front ≡ o.path = length-take-le o.path path is.1 in
    let whole : onward ≡ front ++ name = append_assoc front (codes " ") (quoted x.0) in
    let cut : take o.path onward ≡ front =
    ap (take o.path) whole ∙ ap (λ (n : ℕ). take n (front ++ name)) (sym short) ∙ take-append_seam front name in
    let long : length onward ≡ length front + length name = ap length whole ∙ length-append front name in
    let within = slice_get_within items (number_of x) e at in
    let here : 0 + number_of x ≡ number_of x = omega arith in
    let behind = subst (λ (m : ℕ). is_behind_its_parts m e ≡ true) here
    (behind_at 0 items (number_of x) e ordered at) in
    let names = ap (names_below (length items)) (sym first) ∙ is.0 in
    let both = and_true (nat_lt (number_of x) (length items)) (names_below (length items) more) names in
    let left : List Open = record { left = more; path = o.path } ∷ os in
    let few = opened_few e (length onward) left in
    let much = line_long onward x.1.1 e in
    record {
      line = line;
      printed = printed;
      rest =
          ap (λ (es : List Entry). nested_lines front (nested_view trees es) ++ left_lines trees front os) first
          ∙ ap (λ (l : List ℕ). l ++ left_lines trees front os) (first_lines items front x more e ordered at)
          ∙ four line (inside trees onward e) (nested_lines front (nested_view trees more)) (left_lines trees front os)
          ∙ ap (λ (y : List ℕ). line ++ (inside trees onward e ++ (nested_lines y (nested_view trees more)
          ++ left_lines trees y os))) (sym cut)
          ∙ ap (λ (r : List ℕ). line ++ r) (sym (opened_lines trees onward e left));
      falls = omega (arith, few, much);
      stays =
          opened_stays (length items) (number_of x) (length onward) e left behind (omega (arith, within))
          (both.1, omega (arith, short, long), is.2);
    }

-- the next export was printed, and opened if it is an instance
pub next_steps : (items : List Export) (out path : List ℕ) (o : Open) (x : Entry) (more : List Entry)
    (before after : List Open) (e : Export) (out' path' : List ℕ) → are_behind_their_parts 0 items ≡ true
    → IsOpen (length items) (length path) (o ∷ reverse before)
    → o.left ≡ x ∷ more → slice_get items (number_of x) ≡ Some e
    → path' ≡ take o.path path ++ codes " " ++ quoted x.0
    → out' ≡ out ++ node_line path' x.1.1 e
    → after ≡ (before ++ record { left = more; path = o.path } ∷ []) ++ opened e (length path')
    → Steps items out path (o ∷ reverse before) out' path' (reverse after)
next_steps items out path o x more before after e out' path' ordered is first at named printed pushed =
    let os = reverse before in
    let back : Open = record { left = more; path = o.path } in
    let onward = take o.path path ++ codes " " ++ quoted x.0 in
    let there = subst (λ (y : List ℕ). out' ≡ out ++ node_line y x.1.1 e) named printed in
    let order = ap reverse pushed ∙ opened_last e (length path') before back in
    let step = subst (λ (y : List ℕ). Steps items out path (o ∷ os) out' y (opened e (length y) ++ back ∷ os))
    (sym named) (next_at items out path o x more os e out' ordered is first at there) in
    subst (λ (ys : List Open). Steps items out path (o ∷ os) out' path' ys) (sym order) step

-- an instance was done
pub done_steps : (items : List Export) (out path path' : List ℕ) (o : Open) (os : List Open)
    → IsOpen (length items) (length path) (o ∷ os) → o.left ≡ [] → path' ≡ take o.path path
    → Steps items out path (o ∷ os) out path' os
unfolding IsOpen left_lines
done_steps items out path path' o os is none cut =
    let trees = trees_of items in
    let front = take o.path path in
    let short : length front ≡ o.path = length-take-le o.path path is.1 in
    let same : length path' ≡ o.path = ap length cut ∙ short in
    record {
      line = [];
      printed = sym (append-nil out);
      rest =
          ap (λ (es : List Entry). nested_lines front (nested_view trees es) ++ left_lines trees front os) none
          ∙ ap (λ (y : List ℕ). left_lines trees y os) (sym cut);
      falls = omega arith;
      stays = subst (λ (m : ℕ). IsOpen (length items) m os) (sym same) is.2;
    }

-- a step keeps the whole text
pub step_keeps : (items : List Export) (out path : List ℕ) (stack os : List Open) (out' path' : List ℕ)
    (os' : List Open) (all : List ℕ) → stack ≡ os → out ++ left_lines (trees_of items) path stack ≡ all
    → Steps items out path os out' path' os' → out' ++ left_lines (trees_of items) path' os' ≡ all
step_keeps items out path stack os out' path' os' all same before s =
    let trees = trees_of items in
    ap (λ (o : List ℕ). o ++ left_lines trees path' os') s.printed
    ∙ append_assoc out s.line (left_lines trees path' os')
    ∙ ap (λ (r : List ℕ). out ++ r) (sym s.rest)
    ∙ ap (λ (ys : List Open). out ++ left_lines trees path ys) (sym same)
    ∙ before

-- what is left to print, with the open instances
abbrev pub left_count : List Export → (path : List ℕ) → List Open → ℕ
left_count items path os = length (left_lines (trees_of items) path os) + length os

-- a step leaves less
pub step_falls : (items : List Export) (out path : List ℕ) (stack os : List Open) (out' path' : List ℕ)
    (os' : List Open) → stack ≡ os → Steps items out path os out' path' os'
    → left_count items path' os' < left_count items path stack
step_falls items out path stack os out' path' os' same s =
    let trees = trees_of items in
    let long : length (left_lines trees path os) ≡ length s.line + length (left_lines trees path' os') =
    ap length s.rest ∙ length-append s.line (left_lines trees path' os') in
    let here : left_count items path' os' < left_count items path os = omega (arith, long, s.falls) in
    subst (λ (ys : List Open). left_count items path' os' < left_count items path ys) (sym same) here

-- the lines of the root's exports are those of what an instance with them exports
root_line : (trees : Trees) (e : Entry) (es : List Entry) (o : Option (plan.PlanExport Mark))
    → nested_lines [] (nested_view trees es) ≡ flat_map named_lines (filter_map (named_view trees) es)
    → nested_lines [] (with_export e o (nested_view trees es))
    ≡ flat_map named_lines (cons_option
    (option_map (λ x. record { name = e.0; extern_data = e.1.1; item = x }) o) (filter_map (named_view trees) es))
root_line trees e es None more = more
root_line trees e es (Some x) more =
    ap (λ (rest : List ℕ). export_lines (codes " " ++ quoted e.0) e.1.1 x ++ rest) more

root_lines : (trees : Trees) (es : List Entry)
    → nested_lines [] (nested_view trees es) ≡ flat_map named_lines (filter_map (named_view trees) es)
root_lines trees [] = refl
root_lines trees (e ∷ es) = root_line trees e es (slice_get trees (number_of e)) (root_lines trees es)

-- at first all is left
pub begins_with_all : (items : List Export) (es : List Entry)
    → left_lines (trees_of items) [] (record { left = es; path = 0 } ∷ [])
    ≡ flat_map named_lines (filter_map (named_view (trees_of items)) es)
unfolding left_lines
begins_with_all items es =
    append-nil (nested_lines [] (nested_view (trees_of items) es)) ∙ root_lines (trees_of items) es

-- at first the root is open
pub begins_open : (items : List Export) (es : List Entry) → names_below (length items) es ≡ true
    → IsOpen (length items) 0 (record { left = es; path = 0 } ∷ [])
unfolding IsOpen
begins_open items es h = (h, omega arith, tt)

-- nothing is left where nothing is open
pub ends_with_none : (items : List Export) (out path : List ℕ) (os : List Open) (all : List ℕ) → os ≡ []
    → out ++ left_lines (trees_of items) path os ≡ all → out ≡ all
unfolding left_lines
ends_with_none items out path os all none h =
    sym (append-nil out) ∙ ap (λ (ys : List Open). out ++ left_lines (trees_of items) path ys) (sym none) ∙ h

-- the instance that was opened last is the innermost one
pub popped : (before after : List Open) (o : Open) → before ≡ after ++ o ∷ [] → reverse before ≡ o ∷ reverse after
popped before after o last = ap reverse last ∙ reverse-append after (o ∷ [])

-- nothing is open where there is no last one
pub emptied : (os : List Open) → length os ≡ 0 → reverse os ≡ []
emptied [] none = refl
emptied (o ∷ os) none =
    let wrong : ⊥ = omega (arith, none) in
    absurd wrong

-- each name has an item, and stands behind it
pub has_names : (c : Component) → has_items c ≡ true → names_below (length c.export_items) c.exports.definitions ≡ true
has_names c h =
    (and_true (names_below (length c.export_items) c.exports.definitions) (are_behind_their_parts 0 c.export_items) h).0

pub has_order : (c : Component) → has_items c ≡ true → are_behind_their_parts 0 c.export_items ≡ true
has_order c h =
    (and_true (names_below (length c.export_items) c.exports.definitions) (are_behind_their_parts 0 c.export_items) h).1

-- the walk begins with the root open and all of its text left
pub begins : (c : Component) (start path : List ℕ) (before stack : List Open) (left : List Entry)
    → has_items c ≡ true → path ≡ [] → before ≡ [] → left ≡ c.exports.definitions
    → stack ≡ before ++ record { left = left; path = 0 } ∷ []
    → (start ++ left_lines (trees_of c.export_items) path (reverse stack)
    ≡ start ++ flat_map named_lines (exports_view c))
    × IsOpen (length c.export_items) (length path) (reverse stack)
begins c start path before stack left held empty none all pushed =
    let items = c.export_items in
    let es = c.exports.definitions in
    let root : Open = record { left = es; path = 0 } in
    let whole : stack ≡ root ∷ [] =
    pushed ∙ ap (λ (b : List Open). b ++ record { left = left; path = 0 } ∷ []) none
    ∙ ap (λ (l : List Entry). record { left = l; path = 0 } ∷ []) all in
    let Begun : List ℕ → List Open → Type 0 = λ p os.
    (start ++ left_lines (trees_of items) p os ≡ start ++ flat_map named_lines (exports_view c))
    × IsOpen (length items) (length p) os in
    let begun : Begun [] (root ∷ []) =
    (ap (λ (t : List ℕ). start ++ t) (begins_with_all items es), begins_open items es (has_names c held)) in
    subst (λ (p : List ℕ). Begun p (reverse stack)) (sym empty)
    (subst (λ (os : List Open). Begun [] os) (sym (ap reverse whole)) begun)
