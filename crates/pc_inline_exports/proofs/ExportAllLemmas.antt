-- The exports of the root, one after the other.
use Rattle.std.proofs.Common.{◌≡◌, inl, inr, ◌<◌, ◌≤◌, ◌+◌, ◌*◌, ℕ, zero, suc, Bool, true, false, ◌||◌, List, []}
use Rattle.std.proofs.Common.{◌∷◌, ◌++◌, length, map, take, drop, get_or, Option, None, Some, Result, Ok, Err, refl}
use Rattle.std.proofs.Common.{sym, ap}
use Rattle.std.proofs.Common.{subst, ◌∙◌, arith, append-nil, true≢false, if◌then◌else◌}
use Rattle.std.specs.Prelude.{⊤, cond, count_by, slice_get}
use Rattle.std.specs.Result.{IsErrAnd}
use Rattle.std.specs.Str.{bytes_eq}
use Rattle.std.proofs.lemmas.List.{drop_all}
use Rattle.std.proofs.lemmas.List.Folds.{list_any-append}
use Rattle.std.proofs.lemmas.List.Recursion.{is_count_by}
use Rattle.std.proofs.lemmas.List.Sums.{count_by_more_no, count_by_more_yes}
use Rattle.std.proofs.lemmas.Option.{none-some}
use Rattle.pc_entity.specs.Lists.{names_of, value_of}
use Rattle.pc_entity.proofs.LookupLemmas.{left_here}
use Rattle.pc_types.specs.declared.error.Error.{Error}
use Rattle.pc_types.specs.declared.error.Error.TheVariants as error
use Rattle.pc_types.specs.declared.error.Place.TheVariants as place
use Rattle.pc_types.specs.declared.module_record.ModuleRecord.{ModuleRecord}
use Rattle.pc_types.specs.declared.parsed.TypeTable.{TypeTable}
use Rattle.pc_types.specs.Names.{distinct_names, has_name}
use Rattle.pc_types.proofs.NameLemmas.{are_distinct-again, bytes_eq-sym, map-take_next}
use Rattle.pc_types_lists.specs.Adds.{most_types}
use Rattle.pc_spec_plan.specs.ExportNode.{ExportNode, NamedNode}
use Rattle.pc_parsed.specs.declared.payload.ExternName.{ExternName}
use Rattle.pc_parsed.specs.declared.payload.ItemKind.{ItemKind}
use Rattle.pc_parsed.specs.Mark.{Mark}
use Rattle.pc_spec_reading.specs.Item.{ExportOf}
use Rattle.pc_spec_reading.specs.Items.{value_at}
use Rattle.pc_spec_reading.specs.Nodes.{Finish, Reached, at_export}
use Rattle.pc_spec_reading.specs.Outcome.{Outcome, and_then, done, fault, unsupported}
use Rattle.pc_spec_reading.specs.Reading.{root_exports}
use Rattle.pc_spec_reading.specs.Scope.{Scope}
use Rattle.pc_spec_reading.specs.Section.{named_item}
use Rattle.pc_spec_reading.specs.Value.{Value}
use Rattle.pc_spec_reading.specs.World.{World, full, grown, has_room}
use Rattle.pc_inline_state.specs.declared.definition.Definition.{Definition}
use Rattle.pc_inline_state.specs.declared.error.ItemError.{ItemError}
use Rattle.pc_inline_state.specs.declared.error.ItemError.TheVariants as item_error
use Rattle.pc_inline_state.specs.declared.frame.Frame.{Frame}
use Rattle.pc_inline_state.specs.declared.state.State.{State}
use Rattle.pc_inline_state.specs.Adds.{Adds, is_type_kind, types_among}
use Rattle.pc_inline_state.specs.Faults.{error_of}
use Rattle.pc_inline_state.specs.Named.{export_name}
use Rattle.pc_inline_state.specs.Stands.{DefinitionStands}
use Rattle.pc_inline_state.specs.Tables.{Keeps, tables_of}
use Rattle.pc_inline_state.specs.Worlds.{HasNoExports}
use Rattle.pc_inline_state.proofs.AddsLemmas.{adds_both, adds_refl, adds_weaken}
use Rattle.pc_inline_state.proofs.StateLemmas.{keeps_refl, keeps_trans}
use Rattle.pc_inline_exports.specs.Exporting.{ExportedSoFar, ExportsEnd, MakesExports, RootStands, behind, if_room}
use Rattle.pc_inline_exports.specs.Exporting.{most_exported}
use Rattle.pc_inline_exports.specs.Exports.{NumbersExports}
use Rattle.pc_inline_exports.specs.OneExport.{ExportsOne, FindsExport, IsFound, IsRoot, OneEnds, node_named}
use Rattle.pc_inline_exports.specs.OneExport.{types_of_kind}
use Rattle.pc_inline_exports.specs.Reaching.{IsReachable, stands_value}
use Rattle.pc_inline_exports.specs.Subjects.{a_value}
use Rattle.pc_inline_exports.proofs.OnwardLemmas.{at_node, behind_more, behind_node, behind_none, both_none, both_some}
use Rattle.pc_inline_exports.proofs.OnwardLemmas.{eight_both, err_passed, grown_none, missing_here, room_before, room_is}
use Rattle.pc_inline_exports.proofs.OnwardLemmas.{room_same, root_roomy, roomy, roomy_has, roomy_same, total_twice}
use Rattle.pc_inline_exports.proofs.RootLemmas.{root_total, root_works}

-- a name that none of the entries has isn't found
name_absent : {V : Type 0} (name : List ℕ) (es : List (List ℕ × V)) → has_name (names_of es) name ≡ false
    → value_of name es ≡ None
name_absent name [] h = refl
name_absent {V} name (e ∷ es) h = by (bytes_eq name e.0) h (name_absent name es)
  where
    by : (b : Bool) → (b || has_name (names_of es) name) ≡ false
        → (has_name (names_of es) name ≡ false → value_of name es ≡ None)
        → (if b then Some e.1 else value_of name es) ≡ None
    by true is later = absurd (true≢false is)
    by false is later = later is

-- a disjunction stays true where its first part does
or_more : (a b c : Bool) → (a ≡ true → b ≡ true) → (a || c) ≡ true → (b || c) ≡ true
or_more true b c more h = rw (more refl) refl
or_more false true c more h = refl
or_more false false c more h = h

or_first : (a b : Bool) → a ≡ true → (a || b) ≡ true
or_first true b h = refl
or_first false b h = absurd (true≢false (sym h))

-- products of more are more
mul_le : (a b c : ℕ) → a ≤ b → a * c ≤ b * c
mul_le zero b c le = omega arith
mul_le (suc a) zero c le = absurd (omega (arith, le))
mul_le (suc a) (suc b) c le = let h = mul_le a b c (omega (arith, le)) in omega (arith, h)

-- and of two parts the sum
mul_both : (a b c : ℕ) → (a + b) * c ≡ a * c + b * c
mul_both zero b c = omega arith
mul_both (suc a) b c = let h = mul_both a b c in omega (arith, h)

most_grows : (n a b c : ℕ) → a ≤ b → 4 * n + a * c ≤ 4 * n + b * c
most_grows n a b c le = let h = mul_le a b c le in omega (arith, h)

-- what more types add at the most
most_le : (t : TypeTable) (n a b : ℕ) → a ≤ b → most_exported t n a ≤ most_exported t n b
most_le t n a b le = most_grows n a b (1 + most_types t) le

most_adds : (n a b c : ℕ) → (4 * n + a * c) + b * c ≤ 4 * n + (a + b) * c
most_adds n a b c = let h = mul_both a b c in omega (arith, h)

-- and some types after others
most_next : (t : TypeTable) (n a b c : ℕ) → c ≡ a + b
    → most_exported t n a + b * (1 + most_types t) ≤ most_exported t n c
most_next t n a b c same =
    subst (λ k. most_exported t n a + b * (1 + most_types t) ≤ most_exported t n k) (sym same)
    (most_adds n a b (1 + most_types t))

-- how many items pass a test
abbrev passing : {A : Type 0} (p : A → Bool) → List A → ℕ
passing p [] = 0
passing p (x ∷ xs) = cond (p x) (1 + passing p xs) (passing p xs)

least : (n : ℕ) → 0 ≤ n
least n = omega arith

passing_take : {A : Type 0} (p : A → Bool) (xs : List A) (i : ℕ) → passing p (take i xs) ≤ passing p xs
passing_take p xs zero = least (passing p xs)
passing_take p [] (suc i) = omega arith
passing_take p (x ∷ xs) (suc i) = by (p x) (passing_take p xs i)
  where
    by : (b : Bool) → passing p (take i xs) ≤ passing p xs
        → cond b (1 + passing p (take i xs)) (passing p (take i xs)) ≤ cond b (1 + passing p xs) (passing p xs)
    by true h = omega (arith, h)
    by false h = h

-- no more of the first of a list pass a test than of the list
count_take : {A : Type 0} (p : A → Bool) (xs : List A) (i : ℕ) → count_by p (take i xs) ≤ count_by p xs
count_take p xs i =
    let all = is_count_by (passing p) p refl (λ x ys. refl) xs in
    let some = is_count_by (passing p) p refl (λ x ys. refl) (take i xs) in
    let less = passing_take p xs i in
    omega (arith, all, some, less)

-- what was found where a call went well
pub ok_some : (q : Result (Option Definition) ItemError) (o : Option Definition) (d : Definition) → q ≡ Ok o
    → o ≡ Some d → q ≡ Ok (Some d)
ok_some q o d was is = was ∙ ap Ok is

pub ok_none : (q : Result (Option Definition) ItemError) (o : Option Definition) → q ≡ Ok o → o ≡ None
    → q ≡ Ok None
ok_none q o was is = was ∙ ap Ok is

module _ (t : TypeTable) (ms : List ModuleRecord) where
  module _ (es : List (ExternName × ItemKind × ℕ)) (old : State) (f : Frame) where
    -- the exports so far, however many nodes they have
    abbrev pub SoFar : (i n : ℕ) → State → Frame → Type 0
    SoFar i n st g = (nodes : ℕ) × ExportedSoFar t ms es i n nodes old f st g

    -- nothing is exported yet
    pub exports_begin : (s : Scope) × (w : World) × RootStands t ms old f s w [] → HasNoExports old.graph
        → SoFar 0 0 old f
    exports_begin root none = (
      0,
      record {
        root = root;
        few = omega arith;
        keeps = keeps_refl (tables_of old);
        adds = adds_refl t (most_exported t 0 (types_among (take 0 es))) (tables_of old);
        names =
            λ name has. absurd (true≢false (sym (subst (λ xs. has_name (names_of xs) name ≡ true) none.exports has)));
        goes = λ s w room stands. (
          [],
          w,
          grown_none w.total,
          stands,
          record {
            as_many = ap length none.items;
            last = λ n e at. absurd (none-some e (subst (λ xs. slice_get xs n ≡ Some e) none.exports at));
            whole = λ n below. let many = ap length none.items in absurd (omega (arith, below, many));
          },
          behind_none t ms (root_exports t s (map named_item es) 0 w)
              ∙ sym (room_is (grown w.total 0) (and_then (root_exports t s (map named_item es) 0 w) (behind t ms []))
              (subst (λ o. has_room o ≡ true) (grown_none w.total) room)),
        );
      },
    )

    -- the same, of a number, a state and a frame that are equal
    pub so_far_as : (i n m : ℕ) (st new : State) (g h : Frame) → n ≡ m → st ≡ new → g ≡ h → SoFar i m new h
        → SoFar i n st g
    so_far_as i n m st new g h number state frame x =
        subst (λ (k : ℕ). SoFar i k st g) (sym number)
        (subst (λ (y : State). SoFar i m y g) (sym state) (subst (λ (y : Frame). SoFar i m new y) (sym frame) x))

    -- as many types as all exports have, at most
    types_all : (i : ℕ) → types_among (take i es) ≤ types_among es
    types_all i = count_take (λ (x : ExternName × ItemKind × ℕ). is_type_kind x.1) es i

    -- all is exported
    pub exports_end : (i n : ℕ) (st : State) (g : Frame) → SoFar i n st g → length es ≤ i
        → MakesExports t ms es 0 old f st g (Ok tt)
    unfolding ExportsEnd root_exports
    exports_end i n st g far end =
        let nodes = far.0 in
        let k = far.1 in
        record {
          nodes = nodes;
          keeps = k.keeps;
          adds =
              adds_weaken t (most_exported t nodes (types_among (take i es))) (most_exported t nodes (types_among es))
              (tables_of old) (tables_of st) (most_more nodes (types_all i)) k.adds;
          exports = λ s w room root.
              let here = k.goes s w room root in
              let all : map named_item (drop i es) ≡ [] = ap (map named_item) (drop_all i es end) in
              let last : here.0 ++ [] ≡ here.0 = append-nil here.0 in (
                done (here.0, here.1),
                here.5 ∙ ap (λ l. if_room (grown w.total (8 * nodes))
                    (and_then (root_exports t s l n here.1) (behind t ms here.0))) all
                    ∙ (λ j. if_room (grown w.total (8 * nodes)) (done (last j, here.1))),
                record {
                  exported = here.0;
                  world = here.1;
                  is = refl;
                  total = here.2;
                  stands = here.3;
                  numbers = here.4;
                },
              );
        }
      where
        most_more : (nodes : ℕ) {a b : ℕ} → a ≤ b → most_exported t nodes a ≤ most_exported t nodes b
        most_more nodes {a} {b} le = most_le t nodes a b le

    module _ (i n : ℕ) (st : State) (g : Frame) (far : SoFar i n st g) (e : ExternName × ItemKind × ℕ)
        (within : i < length es) (is : e ≡ get_or es i e) where
      abbrev so_far : ExportedSoFar t ms es i n far.0 old f st g
      so_far = far.1

      abbrev rest : List ExportOf
      rest = map named_item (drop (i + 1) es)

      left : map named_item (drop i es) ≡ named_item e ∷ rest
      left = ap (map named_item) (left_here es i e within is)

      -- how many types there are up to here
      types_next : types_among (take (i + 1) es) ≡ types_among (take i es) + types_of_kind e.1
      types_next = by (is_type_kind e.1) refl
        where
          test : ExternName × ItemKind × ℕ → Bool
          test x = is_type_kind x.1

          by : (b : Bool) → is_type_kind e.1 ≡ b
              → types_among (take (i + 1) es) ≡ types_among (take i es) + (if b then 1 else 0)
          by true one = count_by_more_yes test es i e within (ap test (sym is) ∙ one)
          by false other = count_by_more_no test es i e within (ap test (sym is) ∙ other) ∙ omega arith

      -- its name is new
      pub export_absent : distinct_names (map export_name es) ≡ true → value_of e.0.name st.graph.exports ≡ None
      export_absent distinct =
          name_absent e.0.name st.graph.exports (by (has_name (names_of st.graph.exports) e.0.name) refl)
        where
          by : (b : Bool) → has_name (names_of st.graph.exports) e.0.name ≡ b → b ≡ false
          by false h = refl
          by true h =
              absurd (true≢false (sym distinct
              ∙ are_distinct-again export_name es i e within is bytes_eq bytes_eq-sym (so_far.names e.0.name h)))

      -- the root stands here
      pub root_here : IsRoot t ms st g
      root_here =
          let r = so_far.root in
          let w = record r.1 { total = None } in
          let h = so_far.goes r.0 w refl (root_total t ms old f r.0 r.1 None [] r.2) in (r.0, h.1, h.0, h.3)

      -- the names up to it are those before it and its own
      names_to : (name : List ℕ) → has_name (map export_name (take (i + 1) es)) name
          ≡ (has_name (map export_name (take i es)) name || has_name (e.0.name ∷ []) name)
      names_to name =
          ap (λ ns. has_name ns name) (map-take_next export_name es i e within is)
          ∙ list_any-append (bytes_eq name) (map export_name (take i es)) (e.0.name ∷ [])

      -- what is left of the reading at this export
      here_on : (s : Scope) (w : World) → has_room w.total ≡ true → RootStands t ms old f s w []
          → (exported : List (NamedNode Mark)) × (v : World) × (v.total ≡ grown w.total (8 * far.0))
          × RootStands t ms st g s v exported × NumbersExports st.graph exported
          × (root_exports t s (map named_item es) 0 w ≡ if_room (grown w.total (8 * far.0))
          (and_then (root_exports t s (named_item e ∷ rest) n v) (behind t ms exported)))
      here_on s w room root =
          let here = so_far.goes s w room root in (
            here.0,
            here.1,
            here.2,
            here.3,
            here.4,
            here.5 ∙ ap (λ l. if_room (grown w.total (8 * far.0))
                (and_then (root_exports t s l n here.1) (behind t ms here.0))) left,
          )

      module _ (st2 : State) (g2 : Frame) (q : Result (Option Definition) ItemError)
          (finds : FindsExport t ms e.1 e.2 st g st2 g2 q) where
        kept2 : Keeps (tables_of old) (tables_of st2)
        kept2 = keeps_trans (tables_of old) (tables_of st) (tables_of st2) so_far.keeps finds.keeps

        adds2 : Adds t (most_exported t far.0 (types_among (take (i + 1) es))) (tables_of old) (tables_of st2)
        adds2 =
            adds_both t (most_exported t far.0 (types_among (take i es))) (types_of_kind e.1 * (1 + most_types t))
            (most_exported t far.0 (types_among (take (i + 1) es))) (tables_of old) (tables_of st) (tables_of st2)
            (more (types_among (take i es)) (types_of_kind e.1) (types_among (take (i + 1) es)) types_next)
            so_far.adds finds.adds
          where
            more : (a b c : ℕ) → c ≡ a + b
                → most_exported t far.0 a + b * (1 + most_types t) ≤ most_exported t far.0 c
            more a b c same = most_next t far.0 a b c same

        adds_all2 : Adds t (most_exported t far.0 (types_among es)) (tables_of old) (tables_of st2)
        adds_all2 =
            adds_weaken t (most_exported t far.0 (types_among (take (i + 1) es))) (most_exported t far.0 (types_among es))
            (tables_of old) (tables_of st2) (more (types_all (i + 1))) adds2
          where
            more : {a b : ℕ} → a ≤ b → most_exported t far.0 a ≤ most_exported t far.0 b
            more {a} {b} le = most_le t far.0 a b le

        -- one that names nothing
        pub exports_none : q ≡ Ok None → SoFar (i + 1) n st2 g2
        unfolding IsFound
        exports_none none = (
          far.0,
          record {
            root = so_far.root;
            few = omega (arith, so_far.few);
            keeps = kept2;
            adds = adds2;
            names = λ name has. names_to name
                ∙ or_first (has_name (map export_name (take i es)) name) (has_name (e.0.name ∷ []) name)
                (so_far.names name (subst (λ h. has_name (names_of h.exports) name ≡ true) finds.graph has));
            goes = λ s w room root.
                let here = here_on s w room root in
                let missing = both_none (DefinitionStands ms (tables_of st2)) (value_at t s e.1 e.2)
                (subst (IsFound t ms st2 (value_at t s e.1 e.2)) none (finds.found s here.1 here.0 here.3)) in (
                  here.0,
                  here.1,
                  here.2,
                  finds.stands s here.1 here.0 here.3,
                  subst (λ h. NumbersExports h here.0) (sym finds.graph) here.4,
                  here.5 ∙ ap (λ o. if_room (grown w.total (8 * far.0)) (and_then o (behind t ms here.0)))
                      (missing_here t ms s e rest n here.1 missing),
                );
          },
        )

        lacks_end : (x : ItemError) → (s : Scope) → (w : World) → (o : Outcome Finish)
            → IsFound t ms st2 (value_at t s e.1 e.2) (Err x)
            → ExportsEnd t ms 0 st2 g2 s w far.0 o (Err (error_of x (place.Export n)))
        unfolding IsFound ExportsEnd
        lacks_end (item_error.Fault k) s w o h = absurd h
        lacks_end item_error.TooMany s w o h = inl h
        lacks_end item_error.NoMemory s w o h = tt

        -- one for whose type there is no room
        pub exports_unfound : (x : ItemError) → q ≡ Err x → (r : Error) → r ≡ error_of x (place.Export n)
            → MakesExports t ms es 0 old f st2 g2 (Err r)
        exports_unfound x was r is_r = record {
          nodes = far.0;
          keeps = kept2;
          adds = adds_all2;
          exports = λ s w room root.
              let here = here_on s w room root in
              let o = and_then (root_exports t s (named_item e ∷ rest) n here.1) (behind t ms here.0) in (
                o,
                here.5,
                subst (λ y. ExportsEnd t ms 0 st2 g2 s w far.0 o (Err y)) (sym is_r)
                    (lacks_end x s w o
                    (subst (IsFound t ms st2 (value_at t s e.1 e.2)) was (finds.found s here.1 here.0 here.3))),
              );
        }

        module _ (d : Definition) (found : q ≡ Ok (Some d)) where
          value_found : (s : Scope) (w : World) (exported : List (NamedNode Mark)) → RootStands t ms st g s w exported
              → (v : Value) × (value_at t s e.1 e.2 ≡ Some v) × DefinitionStands ms (tables_of st2) d v
          unfolding IsFound
          value_found s w exported root =
              both_some (DefinitionStands ms (tables_of st2)) d (value_at t s e.1 e.2)
              (subst (IsFound t ms st2 (value_at t s e.1 e.2)) found (finds.found s w exported root))

          -- it is something that is exported
          pub found_reachable : IsReachable t ms st2 d
          found_reachable =
              let r = root_here in
              let v = value_found r.0 r.1 r.2 r.3 in
              record {
                world = r.1;
                subject = a_value v.0;
                stands = root_works t ms st2 g2 r.0 r.1 r.2 (finds.stands r.0 r.1 r.2 r.3);
                is = stands_value v.2;
              }

          -- its name is new there too
          pub found_absent : distinct_names (map export_name es) ≡ true → value_of e.0.name st2.graph.exports ≡ None
          found_absent distinct =
              subst (λ h. value_of e.0.name h.exports ≡ None) (sym finds.graph) (export_absent distinct)

          module _ (st3 : State) (r : Result ⊤ Error) (one : ExportsOne t ms e.0 n d st2 st3 r) where
            abbrev nodes : ℕ
            nodes = far.0 + one.nodes

            kept3 : Keeps (tables_of old) (tables_of st3)
            kept3 = keeps_trans (tables_of old) (tables_of st2) (tables_of st3) kept2 one.keeps

            adds3 : (k : ℕ) → Adds t (most_exported t far.0 k) (tables_of old) (tables_of st2)
                → Adds t (most_exported t nodes k) (tables_of old) (tables_of st3)
            adds3 k h =
                adds_both t (most_exported t far.0 k) (4 * one.nodes) (most_exported t nodes k) (tables_of old)
                (tables_of st2) (tables_of st3) (more far.0 one.nodes (k * (1 + most_types t))) h one.adds
              where
                more : (a b c : ℕ) → (4 * a + c) + 4 * b ≤ 4 * (a + b) + c
                more a b c = omega arith

          -- it is exported
          pub exports_more : (st3 : State) → ExportsOne t ms e.0 n d st2 st3 (Ok tt) → SoFar (i + 1) (n + 1) st3 g2
          unfolding OneEnds
          exports_more st3 one = (
            nodes st3 (Ok tt) one,
            record {
              root = so_far.root;
              few = omega (arith, so_far.few);
              keeps = kept3 st3 (Ok tt) one;
              adds = adds3 st3 (Ok tt) one (types_among (take (i + 1) es)) adds2;
              names = λ name has. names_to name
                  ∙ or_more (has_name (names_of st2.graph.exports) name)
                  (has_name (map export_name (take i es)) name) (has_name (e.0.name ∷ []) name)
                  (λ before. so_far.names name (subst (λ h. has_name (names_of h.exports) name ≡ true) finds.graph before))
                  (sym (ap (λ ns. has_name ns name) one.names
                  ∙ list_any-append (bytes_eq name) (names_of st2.graph.exports) (e.0.name ∷ [])) ∙ has);
              goes = λ s w room root.
                  let here = here_on s w room root in
                  let x = value_found s here.1 here.0 here.3 in
                  let root2 = root_roomy t ms st2 g2 s here.1 here.0 (finds.stands s here.1 here.0 here.3) in
                  let y = one.reads g2 s (roomy here.1) here.0 x.0 (roomy_has here.1) root2 x.2 in
                  let made = y.2 in
                  let last = record made.world { total = grown w.total (8 * nodes st3 (Ok tt) one) } in
                  let named = node_named e.0 made.node in (
                    here.0 ++ named ∷ [],
                    last,
                    refl,
                    root_total t ms st3 g2 s made.world (grown w.total (8 * nodes st3 (Ok tt) one)) (here.0 ++ named ∷ [])
                        made.stands,
                    made.numbers (subst (λ h. NumbersExports h here.0) (sym finds.graph) here.4),
                    here.5 ∙ at_node t ms s e rest n far.0 one.nodes w here.1 here.0 x.0 y.0 here.2 x.1 y.1
                        ∙ room_same (grown w.total (8 * nodes st3 (Ok tt) one))
                        (and_then (at_export n y.0 (behind_node t ms s e rest n)) (behind t ms here.0))
                        (and_then (root_exports t s rest (n + 1) last) (behind t ms (here.0 ++ named ∷ [])))
                        (λ still.
                        let before = subst (λ o. has_room o ≡ true) (sym here.2)
                        (room_before w.total (8 * far.0) (8 * one.nodes)
                        (subst (λ k. has_room (grown w.total k) ≡ true) (sym (eight_both far.0 one.nodes)) still)) in
                        let total : made.world.total ≡ grown w.total (8 * nodes st3 (Ok tt) one)
                        = made.total ∙ ap (λ (u : World). grown u.total (8 * one.nodes)) (roomy_same here.1 before)
                        ∙ total_twice far.0 one.nodes w here.1 here.2 in
                        ap (λ q. and_then (at_export n q (behind_node t ms s e rest n)) (behind t ms here.0)) made.is
                        ∙ behind_more t ms here.0 named (root_exports t s rest (n + 1) made.world)
                        ∙ (λ j. and_then (root_exports t s rest (n + 1) (record made.world { total = total j }))
                        (behind t ms (here.0 ++ named ∷ [])))),
                  );
            },
          )

          one_fails : (st3 : State) (s : Scope) (w u : World) (exported : List (NamedNode Mark)) (k : ℕ)
              (o : Reached (ExportNode Mark)) (go : ExportNode Mark → World → Outcome Finish) (r : Error)
              → OneEnds t ms st2 st3 g2 s u exported k e.0 n o (Err r)
              → ExportsEnd t ms 0 st3 g2 s w (far.0 + k) (and_then (at_export n o go) (behind t ms exported)) (Err r)
          unfolding OneEnds ExportsEnd
          one_fails st3 s w u exported k o go (error.Unsupported x p) h =
              ap (λ q. and_then (at_export n q go) (behind t ms exported)) h.0
              ∙ (λ j. fault (unsupported x) (sym h.1 j))
          one_fails st3 s w u exported k o go error.TooMany h =
              elim h as (λ _. ExportsEnd t ms 0 st3 g2 s w (far.0 + k)
              (and_then (at_export n o go) (behind t ms exported)) (Err error.TooMany)) [
                | inl full ↦ inl full
                | inr many ↦ inr (omega (arith, many))
              ]
          one_fails st3 s w u exported k o go error.NoMemory h = tt
          one_fails st3 s w u exported k o go (error.Invalid p) h = absurd h
          one_fails st3 s w u exported k o go (error.BadType p) h = absurd h
          one_fails st3 s w u exported k o go error.TooManyInstances h = absurd h
          one_fails st3 s w u exported k o go (error.Malformed p) h = absurd h
          one_fails st3 s w u exported k o go (error.BadTable p) h = absurd h
          one_fails st3 s w u exported k o go (error.BadIntrinsics p) h = absurd h
          one_fails st3 s w u exported k o go (error.UnknownIntrinsic p) h = absurd h
          one_fails st3 s w u exported k o go (error.DefinedTwice p) h = absurd h
          one_fails st3 s w u exported k o go (error.BadOptions p) h = absurd h

          fails : (st3 : State) (r : Error) → ExportsOne t ms e.0 n d st2 st3 (Err r)
              → MakesExports t ms es 0 old f st3 g2 (Err r)
          fails st3 r one = record {
            nodes = nodes st3 (Err r) one;
            keeps = kept3 st3 (Err r) one;
            adds = adds3 st3 (Err r) one (types_among es) adds_all2;
            exports = λ s w room root.
                let here = here_on s w room root in
                let x = value_found s here.1 here.0 here.3 in
                let root2 = root_roomy t ms st2 g2 s here.1 here.0 (finds.stands s here.1 here.0 here.3) in
                let y = one.reads g2 s (roomy here.1) here.0 x.0 (roomy_has here.1) root2 x.2 in (
                  and_then (at_export n y.0 (behind_node t ms s e rest n)) (behind t ms here.0),
                  here.5 ∙ at_node t ms s e rest n far.0 one.nodes w here.1 here.0 x.0 y.0 here.2 x.1 y.1,
                  one_fails st3 s w (roomy here.1) here.0 one.nodes y.0 (behind_node t ms s e rest n) r y.2,
                );
          }

          -- it isn't
          pub exports_fail : (st3 : State) (one : Result ⊤ Error) (r : Error) → one ≡ Err r
              → ExportsOne t ms e.0 n d st2 st3 one → (q : Result ⊤ Error) → IsErrAnd q (λ x. x ≡ r)
              → MakesExports t ms es 0 old f st3 g2 q
          exports_fail st3 one r was h p up =
              subst (MakesExports t ms es 0 old f st3 g2) (sym (err_passed p r up))
              (fails st3 r (subst (ExportsOne t ms e.0 n d st2 st3) was h))
