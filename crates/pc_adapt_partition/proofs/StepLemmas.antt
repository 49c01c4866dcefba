-- One step of each loop, and what is left of each call.
use Rattle.std.proofs.Common.{◌≡◌, ◌<◌, ◌≤◌, ℕ, zero, suc, ◌+◌, ◌-◌, List, [], ◌∷◌, ◌++◌, length, take, drop}
use Rattle.std.proofs.Common.{Bool, get_or, All, Ok, Err, sym, ap, subst, ◌∙◌, arith}
use Rattle.std.specs.Prelude.{Some, slice_get, count_by, OnOk}
use Rattle.std.specs.declared.result.Result.{Result}
use Rattle.std.proofs.lemmas.List.{append_assoc, length-take-le, take-append-drop, take-take, take_more}
use Rattle.std.proofs.lemmas.Option.{same_Some, slice_get-get_or}
use Rattle.pc_entity.proofs.LookupLemmas.{found_at}
use Rattle.pc_numbers.specs.declared.component_entity.StaticModuleIndex.{StaticModuleIndex}
use Rattle.pc_numbers.specs.declared.entity_index.EntityIndex.TheVariants as entity
use Rattle.pc_numbers.specs.declared.module_entity.FuncIndex.{FuncIndex}
use Rattle.pc_types.specs.declared.module_record.ModuleRecord.{ModuleRecord}
use Rattle.pc_types.specs.declared.parsed.CoreKind.TheVariants as kind
use Rattle.pc_types.specs.Record.{imported, imports_kind}
use Rattle.pc_types_lists.specs.Types.{Types}
use Rattle.pc_info.specs.declared.module.AdapterRecord.{AdapterRecord}
use Rattle.pc_info.specs.declared.module.ModuleTranslation.{ModuleTranslation}
use Rattle.pc_info.specs.Modules.{without_facts}
use Rattle.pc_dfg.specs.declared.adapter.Adapter.{Adapter}
use Rattle.pc_dfg.specs.declared.core_def.CoreDef.{CoreDef}
use Rattle.pc_dfg.specs.declared.dfg.ComponentDfg.{ComponentDfg}
use Rattle.pc_dfg.specs.declared.ids.AdapterModuleId.{AdapterModuleId}
use Rattle.pc_dfg.specs.Grows.{Grows}
use Rattle.pc_dfg.specs.Held.{AreHeld, IsHeld}
use Rattle.pc_dfg.specs.Ordered.{IsOrdered}
use Rattle.pc_dfg.proofs.GrowLemmas.{grows_trans}
use Rattle.pc_spec_adapt.specs.Asked.{FunctionFacts}
use Rattle.pc_adapt.specs.declared.import.Import.{Import}
use Rattle.pc_adapt.specs.Imports.{imports_of, is_transparent}
use Rattle.pc_adapt.specs.Places.{side_count}
use Rattle.pc_adapt_define.specs.Define.{AreDefined}
use Rattle.pc_adapt_define.proofs.OwnLemmas.{imports_held}
use Rattle.pc_adapt_modules.specs.Exports.{record_of_parts}
use Rattle.pc_adapt_partition.specs.declared.group.Group.{Group}
use Rattle.pc_adapt_partition.specs.Facts.{AreFacts, AreKnown, HasFacts, IsKnown}
use Rattle.pc_adapt_partition.specs.Gathered.{Closes, Gathers, noted, Puts}
use Rattle.pc_adapt_partition.specs.Made.{AddsModule, HasLong, Makes, cut, sum_of}
use Rattle.pc_adapt_partition.specs.Parts.{Part, functions_from, parts_of, slice, total_imports, with_functions}
use Rattle.pc_adapt_partition.proofs.CloseLemmas.{adds_module, functions_fit, records_many}
use Rattle.pc_adapt_partition.proofs.CountLemmas.{imports_long}
use Rattle.pc_adapt_partition.proofs.CutLemmas.{long_at, stand_slice, sum_more, sum_step}
use Rattle.pc_adapt_partition.proofs.GatherLemmas.{gathers_more}
use Rattle.pc_adapt_partition.proofs.GivenLemmas.{HeldImports, parts_held}
use Rattle.pc_adapt_partition.proofs.MakeLemmas.{makes_more, same_adapters, same_transparent}
use Rattle.pc_adapt_partition.proofs.PartitionLemmas.{facts_one, known_one}
use Rattle.pc_adapt_partition.proofs.PartLemmas.{length_parts, length_slice, parts_more, slice_step, total_more}

-- what holds where a call succeeds, from three such facts
pub on_ok_three : {T E P Q R S : Type 0} (r : Result T E) → (P → Q → R → S) → OnOk r P → OnOk r Q → OnOk r R → OnOk r S
on_ok_three (Ok x) f p q s = f p q s
on_ok_three (Err e) f p q s = p

-- a function more of a module
functions_more : (m f k : ℕ)
    → functions_from m f (k + 1)
    ≡ functions_from m f k ++ (record { 0 = m }, entity.Function (record { 0 = f + k })) ∷ []
functions_more m f zero =
    let one : 0 + 1 ≡ 1 = omega arith in
    let here : f ≡ f + 0 = omega arith in
    ap (functions_from m f) one ∙ ap (λ j. (record { 0 = m }, entity.Function (record { 0 = j })) ∷ []) here
functions_more m f (suc k) =
    let next : suc k + 1 ≡ suc (k + 1) = omega arith in
    let here : f + 1 + k ≡ f + suc k = omega arith in
    ap (functions_from m f) next
    ∙ ap (λ xs. (record { 0 = m }, entity.Function (record { 0 = f })) ∷ xs)
    (functions_more m (f + 1) k
    ∙ ap (λ j. functions_from m (f + 1) k ++ (record { 0 = m }, entity.Function (record { 0 = j })) ∷ []) here)

-- so the graph has the place of one adapter more
pub placed_more : (g m h : ComponentDfg) (a : AdapterModuleId) (f k : ℕ) (func : FuncIndex)
    → m ≡ record g { adapter_partitionings = g.adapter_partitionings ++ functions_from a.0 f k }
    → h ≡ record m { adapter_partitionings = h.adapter_partitionings }
    → h.adapter_partitionings ≡ m.adapter_partitionings ++ (a, entity.Function func) ∷ []
    → func ≡ record { 0 = f + k }
    → h ≡ record g { adapter_partitionings = g.adapter_partitionings ++ functions_from a.0 f (k + 1) }
placed_more g m h a f k func so_far rest one is =
    let own = functions_from a.0 f k in
    let more : h.adapter_partitionings ≡ g.adapter_partitionings ++ functions_from a.0 f (k + 1) =
    one
    ∙ ap (λ (i : ComponentDfg). i.adapter_partitionings ++ (a, entity.Function func) ∷ []) so_far
    ∙ append_assoc g.adapter_partitionings own ((a, entity.Function func) ∷ [])
    ∙ ap (λ j. g.adapter_partitionings ++ (own ++ (a, entity.Function j) ∷ [])) is
    ∙ ap (λ xs. g.adapter_partitionings ++ xs) (sym (functions_more a.0 f k)) in
    rest
    ∙ (λ i. record (so_far i) { adapter_partitionings = h.adapter_partitionings })
    ∙ ap (λ xs. record g { adapter_partitionings = xs }) more

with_more : (f : ℕ) (rs : List AdapterRecord) (r : AdapterRecord)
    → with_functions f (rs ++ r ∷ [])
    ≡ with_functions f rs ++ record r { func = record { 0 = f + length rs } } ∷ []
with_more f [] r =
    let here : f ≡ f + 0 = omega arith in
    ap (λ k. record r { func = record { 0 = k } } ∷ []) here
with_more f (q ∷ qs) r =
    let here : f + 1 + length qs ≡ f + suc (length qs) = omega arith in
    ap (λ xs. record q { func = record { 0 = f } } ∷ xs)
    (with_more (f + 1) qs r
    ∙ ap (λ k. with_functions (f + 1) qs ++ record r { func = record { 0 = k } } ∷ []) here)

-- the function of one adapter more
pub with_step : (f k : ℕ) (rs ys : List AdapterRecord) (d : AdapterRecord) (func : FuncIndex)
    (old new : List AdapterRecord) → k < length rs → ys ≡ rs → old ≡ with_functions f (take k rs)
    → func ≡ record { 0 = f + k } → new ≡ old ++ record (get_or ys k d) { func = func } ∷ []
    → new ≡ with_functions f (take (k + 1) rs)
with_step f k rs ys d func old new below read so_far is more =
    let long = length-take-le k rs (omega (arith, below)) in
    let place : f + k ≡ f + length (take k rs) = omega (arith, long) in
    more
    ∙ (λ i. so_far i ++ record (get_or (read i) k d) { func = is i } ∷ [])
    ∙ ap (λ j. with_functions f (take k rs) ++ record (get_or rs k d) { func = record { 0 = j } } ∷ []) place
    ∙ sym (with_more f (take k rs) (get_or rs k d))
    ∙ ap (with_functions f) (sym (take_more rs k d below))

-- a module is closed
pub closes_from : (g m h : ComponentDfg) (ms ns : List ModuleTranslation) (first many : ℕ) (group : Group)
    (r : ModuleRecord) (rs : List AdapterRecord) (f : ℕ) (t : ModuleTranslation) (core : StaticModuleIndex)
    (am : AdapterModuleId) → r ≡ record_of_parts group.parts.imports group.parts.funcs first many
    → f ≡ imported r kind.Func → rs ≡ with_functions f group.records → t ≡ without_facts r rs → ns ≡ ms ++ t ∷ []
    → core.0 ≡ length ms → m.adapter_modules ≡ g.adapter_modules ++ (core, group.args) ∷ []
    → m ≡ record g { adapter_modules = m.adapter_modules } → am.0 ≡ length g.adapter_modules → Grows g m
    → (All (IsHeld g) group.args → IsOrdered g → IsOrdered m)
    → h ≡ record m { adapter_partitionings = m.adapter_partitionings ++ functions_from am.0 f many } → Grows m h
    → (IsOrdered m → IsOrdered h) → Closes g h ms ns first many group
closes_from g m h ms ns first many group r rs f t core am ris fis rsis tis nsis coreis mok mis amis gm om his mh oh =
    let count : f ≡ count_by (imports_kind kind.Func) group.parts.imports =
    fis ∙ ap (λ (q : ModuleRecord). count_by (imports_kind kind.Func) q.imports) ris in
    record {
      modules = nsis
          ∙ (λ i. ms ++ tis i ∷ [])
          ∙ (λ i. ms ++ without_facts (ris i) (rsis i) ∷ [])
          ∙ (λ i. ms ++ without_facts (record_of_parts group.parts.imports group.parts.funcs first many)
          (with_functions (count i) group.records) ∷ []);
      is = his
          ∙ (λ i. record (mis i) {
            adapter_partitionings = m.adapter_partitionings ++ functions_from am.0 f many;
          })
          ∙ (λ i. record g {
            adapter_modules = mok i;
            adapter_partitionings = (mis i).adapter_partitionings ++ functions_from (amis i) (count i) many;
          })
          ∙ (λ i. record g {
            adapter_modules = g.adapter_modules ++ (record { 0 = coreis i }, group.args) ∷ [];
            adapter_partitionings = g.adapter_partitionings
                ++ functions_from (length g.adapter_modules)
                (count_by (imports_kind kind.Func) group.parts.imports) many;
          });
      grows = grows_trans g m h gm mh;
      ordered = λ held o. oh (om held o);
    }

-- the places of what an adapter holds are numbers
pub note_room : (b : Types) (xs : List Adapter) (a : ℕ) → IsKnown b xs a → (clear : Bool) (y z : Adapter)
    → slice_get xs a ≡ Some y
    → slice_get xs a ≡ Some z → (is : List Import)
    → ((lift lower : FunctionFacts) → HasFacts b y lift lower → is ≡ imports_of lift lower clear y) → (old many : ℕ)
    → many ≡ length is → many ≤ 4294967294 - old → old ≤ 4294967294
    → old + 3 + side_count z.lift_options + side_count z.lower_options < 4294967296
note_room b xs a known clear y z aty atz is planned old many size few room =
    let x = known.adapter in
    let samey = same_Some x y (sym known.at ∙ aty) in
    let samez = same_Some x z (sym known.at ∙ atz) in
    let facts = subst (λ k. HasFacts b k known.lift known.lower) samey known.facts in
    let long = ap length (planned known.lift known.lower facts) in
    let most = subst (λ k. 3 + side_count k.lift_options + side_count k.lower_options
    ≤ length (imports_of known.lift known.lower clear y)) (sym samey ∙ samez)
    (imports_long known.lift known.lower clear y) in
    omega (arith, most, long, size, few, room)

-- what was noted and defined for an adapter adds it
pub puts_from : (b : Types) (g h : ComponentDfg) (a : ℕ) (clear : Bool) → clear ≡ is_transparent g a
    → (y z w x : Adapter)
    → slice_get g.adapters a ≡ Some y → slice_get g.adapters a ≡ Some z → slice_get g.adapters a ≡ Some w
    → slice_get g.adapters a ≡ Some x → (is : List Import)
    → ((lift lower : FunctionFacts) → HasFacts b y lift lower → is ≡ imports_of lift lower clear y)
    → (old mid : Group) (args : List CoreDef) (many : ℕ) → many ≡ length is → mid ≡ noted old a z many
    → length old.args + length is ≤ 4294967294 → AreDefined g h w.lower_options.core_type is mid.args args
    → (lift lower : FunctionFacts) → HasFacts b x lift lower
    → Puts g h a x (imports_of lift lower (is_transparent g a) x) old (record mid { args = args })
puts_from b g h a clear told y z w x aty atz atw atx is planned old mid args many size noted_is room defined lift lower
    facts =
    let samey = same_Some y x (sym aty ∙ atx) in
    let samez = same_Some z x (sym atz ∙ atx) in
    let samew = same_Some w x (sym atw ∙ atx) in
    let here = planned lift lower (subst (λ k. HasFacts b k lift lower) (sym samey) facts)
    ∙ ap (imports_of lift lower clear) samey
    ∙ ap (λ t. imports_of lift lower t x) told in
    let before : mid.args ≡ old.args = ap (λ (q : Group). q.args) noted_is in
    record {
      defined = subst (λ js. AreDefined g h x.lower_options.core_type js old.args args) here
          (subst (λ ds. AreDefined g h x.lower_options.core_type is ds args) before
          (subst (λ k. AreDefined g h k.lower_options.core_type is mid.args args) samew defined));
      is = (λ i. record (noted_is i) { args = args })
          ∙ (λ i. record (noted old a (samez i) (size i)) { args = args })
          ∙ ap (λ js. record (noted old a x (length js)) { args = args }) here;
      room = subst (λ js. length old.args + length js ≤ 4294967294) here room;
    }

-- what is imported for an adapter is held
pub planned_held : (b : Types) (g : ComponentDfg) → AreHeld g → (a : ℕ) → IsKnown b g.adapters a → (clear : Bool)
    (y : Adapter) → slice_get g.adapters a ≡ Some y → (is : List Import)
    → ((lift lower : FunctionFacts) → HasFacts b y lift lower → is ≡ imports_of lift lower clear y) → HeldImports g is
planned_held b g held a known clear y at is planned =
    let same = same_Some known.adapter y (sym known.at ∙ at) in
    let facts = subst (λ k. HasFacts b k known.lift known.lower) same known.facts in
    subst (HeldImports g) (sym (planned known.lift known.lower facts))
    (imports_held g a y known.lift known.lower clear held at)

-- the next adapter is known
pub known_next : (b : Types) (xs ys : List Adapter) (n : ℕ) → AreKnown b xs → n < length xs → ys ≡ xs
    → IsKnown b ys n
known_next b xs ys n known below same =
    let found = found_at xs n below in
    subst (λ zs. IsKnown b zs n) (sym same) (known_one b xs n found.0 known found.1)

-- the next adapter is gathered
pub gather_step : (b : Types) (lift lower : ℕ → FunctionFacts) (g m h : ComponentDfg) (first k : ℕ) (old new : Group)
    → IsOrdered g → AreFacts b g.adapters lift lower → first + k < length g.adapters
    → Gathers g m first (parts_of lift lower (is_transparent g) first (slice first k g.adapters)) old
    → ((x : Adapter) (l r : FunctionFacts) → slice_get m.adapters (first + k) ≡ Some x → HasFacts b x l r
    → Puts m h (first + k) x (imports_of l r (is_transparent m (first + k)) x) old new)
    → Gathers g h first (parts_of lift lower (is_transparent g) first (slice first (k + 1) g.adapters)) new
gather_step b lift lower g m h first k old new o facts below gathers puts =
    let xs = slice first k g.adapters in
    let ps = parts_of lift lower (is_transparent g) first xs in
    let long : length xs ≡ k = length_slice first k g.adapters (omega (arith, below)) in
    let size : length ps ≡ k = length_parts lift lower (is_transparent g) first xs ∙ long in
    let found = found_at g.adapters (first + k) below in
    let x = found.0 in
    let n = first + k in
    let same = ap (λ (i : ComponentDfg). i.adapters) gathers.adds.rest in
    let kept = ap (λ (i : ComponentDfg). is_transparent i n) gathers.adds.rest in
    let one = subst (λ c. Puts m h n x (imports_of (lift n) (lower n) c x) old new) kept
    (puts x (lift n) (lower n) (ap (λ zs. slice_get zs n) same ∙ found.1)
    (facts_one b g.adapters lift lower n x facts found.1)) in
    let number : n ≡ first + length ps = omega (arith, size) in
    let place : n ≡ first + length xs = omega (arith, long) in
    let whole : parts_of lift lower (is_transparent g) first (slice first (k + 1) g.adapters)
    ≡ ps ++ (x, imports_of (lift n) (lower n) (is_transparent g n) x) ∷ [] =
    ap (parts_of lift lower (is_transparent g) first) (slice_step first k g.adapters x found.1)
    ∙ parts_more lift lower (is_transparent g) first xs x
    ∙ ap (λ j. ps ++ (x, imports_of (lift j) (lower j) (is_transparent g j) x) ∷ []) (sym place) in
    subst (λ qs. Gathers g h first qs new) (sym whole)
    (gathers_more g m h first ps x (lift n) (lower n) (is_transparent g n) old new o
    (parts_held g o.held lift lower (is_transparent g) first xs (stand_slice first k g.adapters))
    (ap (slice_get g.adapters) (sym number) ∙ found.1) gathers
    (subst (λ j. Puts m h j x (imports_of (lift n) (lower n) (is_transparent g n) x) old new) number one))

total_front : (lift lower : ℕ → FunctionFacts) (clear : ℕ → Bool) (n : ℕ) (xs ys : List Adapter)
    → total_imports (parts_of lift lower clear n xs) ≤ total_imports (parts_of lift lower clear n (xs ++ ys))
total_front lift lower clear n [] ys = omega arith
total_front lift lower clear n (x ∷ xs) ys =
    let rest = total_front lift lower clear (n + 1) xs ys in
    omega (arith, rest)

slice_more : (first k l : ℕ) (xs : List Adapter) → k ≤ l
    → slice first l xs ≡ slice first k xs ++ drop k (slice first l xs)
slice_more first k l xs few =
    sym (take-append-drop k (slice first l xs))
    ∙ ap (λ ys. ys ++ drop k (slice first l xs)) (take-take k l (drop first xs) few)

-- where one adapter more is too many, the group is too long
pub gather_full : (b : Types) (lift lower : ℕ → FunctionFacts) (g m : ComponentDfg) (first k many : ℕ) (old : Group)
    → AreFacts b g.adapters lift lower → first + many ≤ length g.adapters → k < many
    → Gathers g m first (parts_of lift lower (is_transparent g) first (slice first k g.adapters)) old
    → ((x : Adapter) (l r : FunctionFacts) → slice_get m.adapters (first + k) ≡ Some x → HasFacts b x l r
    → 4294967294 < length old.args + length (imports_of l r (is_transparent m (first + k)) x))
    → 4294967294 < total_imports (parts_of lift lower (is_transparent g) first (slice first many g.adapters))
gather_full b lift lower g m first k many old facts few below gathers full =
    let n = first + k in
    let inside : n < length g.adapters = omega (arith, few, below) in
    let found = found_at g.adapters n inside in
    let x = found.0 in
    let xs = slice first k g.adapters in
    let p : Part = (x, imports_of (lift n) (lower n) (is_transparent g n) x) in
    let ps = parts_of lift lower (is_transparent g) first xs in
    let long : length xs ≡ k = length_slice first k g.adapters (omega (arith, inside)) in
    let place : first + length xs ≡ n = omega (arith, long) in
    let same = ap (λ (i : ComponentDfg). i.adapters) gathers.adds.rest in
    let kept = ap (λ (i : ComponentDfg). is_transparent i n) gathers.adds.rest in
    let over = subst (λ c. 4294967294 < length old.args + length (imports_of (lift n) (lower n) c x)) kept
    (full x (lift n) (lower n) (ap (λ zs. slice_get zs n) same ∙ found.1)
    (facts_one b g.adapters lift lower n x facts found.1)) in
    let next = slice first (k + 1) g.adapters in
    let whole : parts_of lift lower (is_transparent g) first next ≡ ps ++ p ∷ [] =
    ap (parts_of lift lower (is_transparent g) first) (slice_step first k g.adapters x found.1)
    ∙ parts_more lift lower (is_transparent g) first xs x
    ∙ ap (λ j. ps ++ (x, imports_of (lift j) (lower j) (is_transparent g j) x) ∷ []) place in
    let rest = drop (k + 1) (slice first many g.adapters) in
    let all = ap (λ zs. total_imports (parts_of lift lower (is_transparent g) first zs))
    (slice_more first (k + 1) many g.adapters (omega (arith, below))) in
    omega (
      arith,
      over,
      gathers.many,
      ap total_imports whole,
      total_more ps p,
      total_front lift lower (is_transparent g) first next rest,
      all,
    )

-- the functions of a module that was gathered have numbers, and something is said of each adapter
module _ (b : Types) (g m : ComponentDfg) (first many : ℕ) (group : Group) (known : AreKnown b g.adapters)
    (few : first + many ≤ length g.adapters)
    (gathers : (lift lower : ℕ → FunctionFacts) → AreFacts b g.adapters lift lower
    → Gathers g m first (parts_of lift lower (is_transparent g) first (slice first many g.adapters)) group) where
  pub gathered_fit : count_by (imports_kind kind.Func) group.parts.imports + many ≤ 4294967295
  gathered_fit =
      omega (
        arith,
        length_slice first many g.adapters few,
        functions_fit known.lift known.lower (is_transparent g) g m first (slice first many g.adapters) group
            (gathers known.lift known.lower known.facts),
      )

  pub gathered_many : length group.records ≡ many
  gathered_many =
      records_many known.lift known.lower (is_transparent g) g m first (slice first many g.adapters) group
      (gathers known.lift known.lower known.facts)
      ∙ length_slice first many g.adapters few

  -- and once it is closed, a module is added
  pub module_added : (h : ComponentDfg) (ms ns : List ModuleTranslation) → IsOrdered g
      → Closes m h ms ns first many group → (lift lower : ℕ → FunctionFacts) → AreFacts b g.adapters lift lower
      → AddsModule lift lower (is_transparent g) g h ms ns first (slice first many g.adapters)
  module_added h ms ns o closes lift lower facts =
      let xs = slice first many g.adapters in
      adds_module lift lower (is_transparent g) g m first xs group (gathers lift lower facts) h ms ns
      (subst (λ k. Closes m h ms ns first k group) (sym (length_slice first many g.adapters few)) closes) o
      (parts_held g o.held lift lower (is_transparent g) first xs (stand_slice first many g.adapters))

-- the next module is made
pub make_step : (b : Types) (lift lower : ℕ → FunctionFacts) (g m h : ComponentDfg) (ms ns os : List ModuleTranslation)
    (ls : List ℕ) (k d first : ℕ) → IsOrdered g → AreFacts b g.adapters lift lower → k < length ls
    → sum_of ls ≡ length g.adapters → first ≡ sum_of (take k ls)
    → Makes lift lower (is_transparent g) g m ms ns (take k ls)
    → ((l r : ℕ → FunctionFacts) → AreFacts b m.adapters l r
    → AddsModule l r (is_transparent m) m h ns os first (slice first (get_or ls k d) m.adapters))
    → Makes lift lower (is_transparent g) g h ms os (take (k + 1) ls)
make_step b lift lower g m h ms ns os ls k d first o facts below all start makes adds =
    let same = same_adapters (sum_of (take k ls)) g m makes.keeps in
    let kept = same_transparent (sum_of (take k ls)) g m makes.keeps in
    let here = subst (λ c. AddsModule lift lower c m h ns os first (slice first (get_or ls k d) m.adapters)) kept
    (adds lift lower (subst (λ zs. AreFacts b zs lift lower) (sym same) facts)) in
    let added = subst (λ j. AddsModule lift lower (is_transparent g) m h ns os j (slice j (get_or ls k d) g.adapters))
    start
    (subst (λ zs. AddsModule lift lower (is_transparent g) m h ns os first (slice first (get_or ls k d) zs)) same
    here) in
    let few = sum_step ls k d below in
    subst (Makes lift lower (is_transparent g) g h ms os) (sym (take_more ls k d below))
    (makes_more lift lower (is_transparent g) g m h ms ns os (take k ls) (get_or ls k d) o
    (omega (arith, few, all)) makes added)

-- where the next module has too many imports, one of the groups is too long
pub make_full : (b : Types) (lift lower : ℕ → FunctionFacts) (g m : ComponentDfg) (ms ns : List ModuleTranslation)
    (ls : List ℕ) (k d first : ℕ) → AreFacts b g.adapters lift lower → k < length ls
    → sum_of ls ≡ length g.adapters → first ≡ sum_of (take k ls)
    → Makes lift lower (is_transparent g) g m ms ns (take k ls)
    → ((l r : ℕ → FunctionFacts) → AreFacts b m.adapters l r
    → 4294967294 < total_imports (parts_of l r (is_transparent m) first (slice first (get_or ls k d) m.adapters)))
    → HasLong lift lower (is_transparent g) 0 (cut ls 0 g.adapters)
make_full b lift lower g m ms ns ls k d first facts below all start makes full =
    let same = same_adapters (sum_of (take k ls)) g m makes.keeps in
    let kept = same_transparent (sum_of (take k ls)) g m makes.keeps in
    let here = subst (λ c. 4294967294 < total_imports (parts_of lift lower c first (slice first (get_or ls k d)
    m.adapters))) kept (full lift lower (subst (λ zs. AreFacts b zs lift lower) (sym same) facts)) in
    let place : first ≡ 0 + sum_of (take k ls) = omega (arith, start) in
    let long = subst (λ j. 4294967294
    < total_imports (parts_of lift lower (is_transparent g) j (slice j (get_or ls k d) g.adapters))) place
    (subst (λ zs. 4294967294 < total_imports
    (parts_of lift lower (is_transparent g) first (slice first (get_or ls k d) zs))) same
    here) in
    long_at lift lower (is_transparent g) ls 0 k (get_or ls k d) g.adapters (slice_get-get_or ls k d below)
    (omega (arith, all)) long

-- the sum of one length more
pub sum_next : (ls : List ℕ) (k d first : ℕ) → k < length ls → first ≡ sum_of (take k ls)
    → first + get_or ls k d ≡ sum_of (take (k + 1) ls)
sum_next ls k d first below start =
    let all = ap sum_of (take_more ls k d below) in
    omega (arith, start, all, sum_more (take k ls) (get_or ls k d))
