-- The reading of a chain ends with a result.
use Rattle.std.proofs.Common.{◌≡◌, ◌≤◌, ◌<◌, ◌+◌, ◌*◌, ℕ, zero, suc, true, List, [], ◌∷◌, ◌++◌, Some}
use Rattle.std.proofs.Common.{None, Ok, Err, refl, sym, ap, subst, ◌∙◌, arith, length, length-append}
use Rattle.std.proofs.Common.{if◌then◌else◌}
use Rattle.std.proofs.lemmas.Bool.{lt-ltb}
use Rattle.std.proofs.lemmas.List.Elements.{All-nil}
use Rattle.std.specs.List.{filter_map}
use Rattle.std.specs.Prelude.{All, slice_get, option_map, nat_lt, sum_by}
use Rattle.pc_types.specs.declared.error.Error.TheVariants as error
use Rattle.pc_types.specs.TypeTree.{TypeTree, Identity}
use Rattle.pc_parsed.specs.declared.payload.ItemKind.TheVariants as item
use Rattle.pc_parsed.specs.Mark.{Mark}
use Rattle.pc_parsed.specs.Program.{record_entities}
use Rattle.pc_parsed.specs.StaticFault.{static_fault}
use Rattle.pc_spec_plan.specs.CoreValue.{CoreValue, Options}
use Rattle.pc_spec_plan.specs.Log.{Entry, Instantiation, instances_of, instantiated, made, owned_of}
use Rattle.pc_spec_reading.specs.Answer.{answer_from, answer_of, ending, or_fault}
use Rattle.pc_spec_reading.specs.Components.{Call, add_child, is_definable, read_call, read_component, read_return}
use Rattle.pc_spec_reading.specs.Instances.{alias_in, alias_member, missing_name, read_alias}
use Rattle.pc_spec_reading.specs.Item
use Rattle.pc_spec_reading.specs.Item.{ArgumentOf, exports_in}
use Rattle.pc_spec_reading.specs.Items.{argument_value, value_at}
use Rattle.pc_spec_reading.specs.Member.{a_value, member}
use Rattle.pc_spec_reading.specs.Nest.{root_of}
use Rattle.pc_spec_reading.specs.Nodes.{Finish}
use Rattle.pc_spec_reading.specs.Outcome.{Outcome, and_then, at_item, done, found, invalid}
use Rattle.pc_spec_reading.specs.Reading.{Enter, Reading, Return, begun_in, enter_at, finishing, instantiate}
use Rattle.pc_spec_reading.specs.Reading.{prepare_all, read_item, read_items, read_root, reading, reading_of, result_of}
use Rattle.pc_spec_reading.specs.Reading.{root_exports}
use Rattle.pc_spec_reading.specs.Resource.{newly, registered, resource_paths, walk}
use Rattle.pc_spec_reading.specs.Rows.{read_row}
use Rattle.pc_spec_reading.specs.Scope.{Moment, Scope, add_value}
use Rattle.pc_spec_reading.specs.Section.{modules_of}
use Rattle.pc_spec_reading.specs.Total.{body_weight, counted, item_weight, prepared_weight}
use Rattle.pc_spec_reading.specs.Types.{tree_if, type_tree}
use Rattle.pc_spec_reading.specs.Value.{Chain, Component, Function, Instance, NamedValues, Value, closed, func_value}
use Rattle.pc_spec_reading.specs.Value.{instance_value, lifted_function, made_instance, outermost, pack_values}
use Rattle.pc_spec_reading.specs.Value.{and_component, component_value, inside, no_components, value_named}
use Rattle.pc_spec_reading.specs.World.{World, grown, has_room, new_world}
use Rattle.pc_generate.specs.Generated.{payloads}
use Rattle.pc_generate.specs.Table.{f, table}
use Rattle.pc_generate.specs.Valid.{AdaptsFunction, HasLinks, IsValid, adapter_of, function_tree}
use Rattle.pc_generate.proofs.CountLemmas.{rest_items}
use Rattle.pc_generate.proofs.FaultLemmas.{no_fault}
use Rattle.pc_generate.proofs.LogLemmas.{AllBelow, IsBelow, below_later, below_more, found_all_more, found_all_same}
use Rattle.pc_generate.proofs.LogLemmas.{found_more, found_same}
use Rattle.pc_generate.proofs.NestLemmas.{argument, first_items, link_items, modules_are, root_is, root_items}
use Rattle.pc_generate.proofs.NestLemmas.{link_instance, second_items, two_modules}
use Rattle.pc_generate.proofs.ReadLemmas.{Gives, GrowsByInstance, GrowsByLink, IsGiven, begins, begun_world}
use Rattle.pc_generate.proofs.ReadLemmas.{first_gives, given, instance_tree, lifted_there, second_gives}

-- the last item of a list
last_there : {A : Type 0} (xs : List A) (x : A) (n : ℕ) → length xs ≡ n → slice_get (xs ++ x ∷ []) n ≡ Some x
last_there [] x n is = ap (slice_get (x ∷ [])) (sym is)
last_there (y ∷ ys) x n is =
    ap (slice_get (y ∷ (ys ++ x ∷ []))) (sym is) ∙ last_there ys x (length ys) refl

-- what has been read when this many links have: each made one more instance, whose function is the next
pub record IsAt (k : ℕ) (now : Moment) : Type 0 where
  pub earlier : List Instance
  pub values : NamedValues
  pub tree : TypeTree
  pub instances : now.scope.instances ≡ earlier ++ made_instance values tree ∷ []
  pub many : length earlier ≡ k
  pub gives : IsGiven (value_named f values)
  pub funcs : length now.scope.funcs ≡ k
  pub chain : Chain
  pub second : slice_get now.scope.components 1 ≡ Some (closed second_items chain)
  pub begun : now.world.begun ≡ k + 2
  pub below : AllBelow now.world.begun now.world.log
  pub core_instances : length (instances_of now.world.log) ≡ k + 1
  pub adapters : length (filter_map adapter_of now.world.log) ≡ k
  pub typed : All AdaptsFunction (filter_map adapter_of now.world.log)

module _ (enter : Enter) where
  -- an item, and then others
  item_then : (n : ℕ) (i : Item.Item) (is : Item.Items) (now next : Moment) (o : Outcome Moment)
      → read_item table two_modules enter n i now ≡ done next
      → read_items table two_modules enter (n + 1) is next ≡ o
      → read_items table two_modules enter n (Item.and_item i is) now ≡ o
  unfolding read_items
  item_then n i is now next o first others =
      ap (λ r. and_then r (read_items table two_modules enter (n + 1) is)) first ∙ others

  -- the function of an instance
  alias_reads : (n k : ℕ) (now : Moment) (last : Instance) (g : Function) → slice_get now.scope.instances k ≡ Some last
      → member last f ≡ Some (a_value (func_value g))
      → read_item table two_modules enter n (Item.alias_item item.Func k f) now
      ≡ done (add_value now (func_value g))
  unfolding read_item read_row read_alias
  alias_reads n k now last g at has =
      ap (λ o. at_item now.scope.component_instance n (found invalid o (alias_in now item.Func f))) at
      ∙ ap (λ o. at_item now.scope.component_instance n (found (missing_name last) o (alias_member now item.Func))) has

  -- an instance of a component that gives something
  instance_reads : (n component : ℕ) (args : List ArgumentOf) (now : Moment) (c : Call) (r : Return)
      → read_call table now.scope component args 2 ≡ Ok c
      → enter c now.scope.known now.world ≡ done r
      → read_item table two_modules enter n (Item.instantiate_component_item component args 2) now
      ≡ done (add_value (record now { world = r.world })
      (instance_value (made_instance (pack_values r.exports) instance_tree)))
  unfolding table read_item instantiate read_return registered walk newly resource_paths add_child tree_if type_tree
  instance_reads n component args now c r is entered =
      ap (λ o. and_then (at_item now.scope.component_instance n o) (λ (c : Call).
      and_then (enter c now.scope.known now.world) (λ (r : Return).
      at_item now.scope.component_instance n (read_return table (record now { world = r.world }) r.exports 2)))) is
      ∙ ap (λ o. and_then o (λ (r : Return).
      at_item now.scope.component_instance n (read_return table (record now { world = r.world }) r.exports 2))) entered

-- the second component with a function
call_is : (s : Scope) (k : ℕ) (c : Component) (g : Function) → slice_get s.components 1 ≡ Some c
    → slice_get s.funcs k ≡ Some g
    → read_call table s 1 (argument k ∷ []) 2
    ≡ Ok (record { component = c; arguments = (f, func_value g) ∷ [] })
unfolding read_call argument_value value_at table
call_is s k c g at has = rw (at, has) refl

-- the second component may be entered, whatever there is so far
abbrev MayEnter : (limit : ℕ) → Enter → Type 0
MayEnter limit enter =
    (chain : Chain) (known : List (ℕ × Identity)) (w : World) (v : CoreValue Mark) (o : Options Mark)
    → nat_lt w.begun limit ≡ true → has_room (grown w.total 160) ≡ true → AllBelow w.begun w.log
    → Gives w 160 (GrowsByLink w) (enter (record {
      component = closed second_items chain;
      arguments = (f, func_value (lifted_function function_tree v o)) ∷ [];
    }) known w)

-- what an instance that was made has under the name
member_is : (vs : NamedValues) (tree : TypeTree) (x : Value) → value_named f vs ≡ Some x
    → member (made_instance vs tree) f ≡ Some (a_value x)
unfolding member
member_is vs tree x is = ap (option_map a_value) is

-- the adapters of a link lower below it
link_below : (b d : ℕ) (old new : List (Entry Mark)) (a : CoreValue Mark) (i : Instantiation Mark) → d ≡ b + 1
    → AllBelow b old → IsBelow (b + 1) (made a) → new ≡ (old ++ made a ∷ []) ++ instantiated i b ∷ [] → AllBelow d new
link_below b d old new a i more all lowers is =
    subst (λ n. AllBelow n new) (sym more) (subst (AllBelow (b + 1)) (sym is)
    (below_more (b + 1) (old ++ made a ∷ []) (instantiated i b)
    (below_more (b + 1) old (made a) (below_later b (b + 1) old (omega arith) all) lowers) tt))

-- the links are read
links_read : (limit : ℕ) (enter : Enter) → MayEnter limit enter → (n k left total : ℕ) (now : Moment) → IsAt k now
    → now.world.begun + left ≤ limit → now.world.total ≡ Some total → total + 160 * left < 4294967295
    → (later : Moment) × (read_items table two_modules enter n (link_items k left) now ≡ done later)
    × IsAt (k + left) later
unfolding read_items
links_read limit enter may n k zero total now at below counts fits =
    let same : k ≡ k + zero = omega arith in (now, refl, subst (λ m. IsAt m now) same at)
links_read limit enter may n k (suc left) total now at below counts fits =
    let (v, o, there) = lifted_there (value_named f at.values) at.gives in
    let g : Function = lifted_function function_tree v o in
    let then_ : Moment = add_value now (func_value g) in
    let first = alias_reads enter n k now (made_instance at.values at.tree) g
    (ap (λ is. slice_get is k) at.instances ∙ last_there at.earlier (made_instance at.values at.tree) k at.many)
    (member_is at.values at.tree (func_value g) there) in
    let (r, entered, gives, begun, grows, logs) = given then_.world 160 (GrowsByLink then_.world) _
    (may at.chain then_.scope.known then_.world v o (lt-ltb now.world.begun limit (omega (arith, below)))
    (ap (λ t. has_room (grown t 160)) counts ∙ lt-ltb (total + 160) 4294967295 (omega (arith, fits))) at.below) in
    let (a, i, lowers, adapts, log) = logs in
    let call = call_is then_.scope k (closed second_items at.chain) g at.second
    (last_there now.scope.funcs g k at.funcs) in
    let next = instance_reads enter (n + 1) 1 (argument k ∷ []) then_ _ r call entered in
    let there_at : IsAt (k + 1) (add_value (record then_ { world = r.world })
    (instance_value (made_instance (pack_values r.exports) instance_tree))) = record {
      earlier = now.scope.instances;
      values = pack_values r.exports;
      tree = instance_tree;
      instances = refl;
      many = ap length at.instances ∙ length-append at.earlier _ ∙ ap (λ m. m + 1) at.many;
      gives = gives;
      funcs = length-append now.scope.funcs (g ∷ []) ∙ ap (λ m. m + 1) at.funcs;
      chain = at.chain;
      second = at.second;
      begun = omega (arith, begun, at.begun);
      below = link_below now.world.begun r.world.begun now.world.log r.world.log a i begun at.below lowers log;
      core_instances =
          ap (λ (l : List (Entry Mark)). length (instances_of l)) log
          ∙ found_more owned_of (now.world.log ++ made a ∷ []) (instantiated i now.world.begun) _ refl
          ∙ ap (λ m. m + 1) (found_same owned_of now.world.log (made a) refl ∙ at.core_instances);
      adapters =
          ap (λ (l : List (Entry Mark)). length (filter_map adapter_of l)) log
          ∙ found_same adapter_of (now.world.log ++ made a ∷ []) (instantiated i now.world.begun) refl
          ∙ found_more adapter_of now.world.log (made a) a refl ∙ ap (λ m. m + 1) at.adapters;
      typed =
          subst (λ (l : List (Entry Mark)). All AdaptsFunction (filter_map adapter_of l)) (sym log)
          (found_all_same AdaptsFunction adapter_of (now.world.log ++ made a ∷ []) (instantiated i now.world.begun) refl
          (found_all_more AdaptsFunction adapter_of now.world.log (made a) a refl at.typed adapts));
    } in
    let (later, reads, is_at) = links_read limit enter may (n + 1 + 1) (k + 1) left (total + 160) _ there_at
    (omega (arith, begun, below)) (grows ∙ ap (λ t. grown t 160) counts) (omega (arith, fits)) in
    let more : k + 1 + left ≡ k + suc left = omega arith in (
      later,
      item_then enter n (Item.alias_item item.Func k f)
          (Item.and_item (link_instance k) (link_items (k + 1) left)) now then_
          (done later) first
          (item_then enter (n + 1) (link_instance k) (link_items (k + 1) left) then_ _
          (done later) next reads),
      subst (λ m. IsAt m later) more is_at,
    )

-- what the links weigh
links_weigh : (k left : ℕ) → body_weight table two_modules (link_items k left) ≡ 33 * left
unfolding table body_weight item_weight
links_weigh k zero = refl
links_weigh k (suc left) = omega (arith, links_weigh (k + 1) left)

-- no link is an import
links_prepared : (k left : ℕ) → prepared_weight table two_modules (link_items k left) ≡ 0
unfolding prepared_weight
links_prepared k zero = refl
links_prepared k (suc left) = links_prepared (k + 1) left

links_prepare : (n k left : ℕ) (now : Moment) → prepare_all table n (link_items k left) now ≡ done now
unfolding prepare_all
links_prepare n k zero now = refl
links_prepare n k (suc left) now = links_prepare (n + 1 + 1) (k + 1) left now

-- no link is an export
links_export : (k left : ℕ) → exports_in (link_items k left) ≡ []
links_export k zero = refl
links_export k (suc left) = links_export (k + 1) left

-- what is read when the first instance begins, and behind it
abbrev prepared_at : World → Moment
prepared_at w = begun_in [] [] outermost 0 w

-- the root, where the two components are defined
abbrev defined_at : World → Moment
defined_at w =
    let one : Moment = add_value (prepared_at w)
    (component_value (closed first_items (inside [] no_components outermost))) in
    add_value one (component_value (closed second_items
    (inside [] (and_component (closed first_items (inside [] no_components outermost)) no_components) outermost)))

-- the links of a root are read, when its first instance was made
root_read : (limit levels n total : ℕ) (w : World) → limit ≡ suc levels → n + 2 ≤ limit → w.begun ≡ 1
    → w.total ≡ Some total → w.log ≡ [] → total + 72 + 160 * n < 4294967295
    → (later : Moment) × (read_items table two_modules
    (enter_at table two_modules limit limit) 0 (root_items n) (prepared_at w) ≡ done later)
    × IsAt (0 + n) later
unfolding read_items read_item read_row read_component is_definable read_call table argument_value
root_read limit levels n total w is enough one counts empty fits =
    let enter : Enter = enter_at table two_modules limit limit in
    let now : Moment = defined_at w in
    let chain : Chain = inside [] no_components outermost in
    let call : Call = record { component = closed first_items chain; arguments = [] } in
    let (r, entered, gives, begun, grows, logs) = given w 72 (GrowsByInstance w) (enter call [] w)
    (subst (λ l. Gives w 72 (GrowsByInstance w) (enter_at table two_modules limit l call [] w)) (sym is)
    (first_gives limit levels chain [] w (lt-ltb w.begun limit (omega (arith, one, enough)))
    (ap (λ t. has_room (grown t 72)) counts ∙ lt-ltb (total + 72) 4294967295 (omega (arith, fits))))) in
    let log : r.world.log ≡ instantiated logs.0 w.begun ∷ [] =
    logs.1 ∙ ap (λ (l : List (Entry Mark)). l ++ instantiated logs.0 w.begun ∷ []) empty in
    let next = instance_reads enter 2 0 [] now call r refl entered in
    let both : Chain = inside [] (and_component (closed first_items chain) no_components) outermost in
    let then_ : Moment = add_value (record now { world = r.world })
    (instance_value (made_instance (pack_values r.exports) instance_tree)) in
    let at : IsAt 0 then_ = record {
      earlier = [];
      values = pack_values r.exports;
      tree = instance_tree;
      instances = refl {a = made_instance (pack_values r.exports) instance_tree ∷ []};
      many = refl {a = 0};
      gives = gives;
      funcs = refl {a = 0};
      chain = both;
      second = refl {a = Some (closed second_items both)};
      begun = omega (arith, begun, one);
      below = subst (AllBelow r.world.begun) (sym log) (tt, tt);
      core_instances = ap (λ (l : List (Entry Mark)). length (instances_of l)) log;
      adapters = ap (λ (l : List (Entry Mark)). length (filter_map adapter_of l)) log;
      typed =
          subst (λ (l : List (Entry Mark)). All AdaptsFunction (filter_map adapter_of l)) (sym log)
          (All-nil AdaptsFunction);
    } in
    let may : MayEnter limit enter = λ chain known w v o below room all.
    subst (λ l. Gives w 160 (GrowsByLink w) (enter_at table two_modules limit l (record {
      component = closed second_items chain;
      arguments = (f, func_value (lifted_function function_tree v o)) ∷ [];
    }) known w)) (sym is) (second_gives limit levels chain known w v o below room all) in
    let (later, reads, is_at) = links_read limit enter may 3 0 n (total + 72) then_ at
    (omega (arith, begun, one, enough)) (grows ∙ ap (λ t. grown t 72) counts) (omega (arith, fits)) in (
      later,
      item_then enter 2 (Item.instantiate_component_item 0 [] 2) (link_items 0 n) now then_ (done later) next reads,
      is_at,
    )

-- what a root weighs
root_weighs : (n : ℕ) → body_weight table two_modules (root_items n) + prepared_weight table two_modules (root_items n)
    ≡ 40 + 33 * n
unfolding table body_weight item_weight prepared_weight
root_weighs n = omega (arith, links_weigh 0 n, links_prepared 0 n)

-- the reading of a root is done
pub root_done : (limit levels n total : ℕ) → limit ≡ suc levels → n + 2 ≤ limit → total + 113 + 193 * n < 4294967295
    → (r : Reading) × (reading_of table two_modules limit (Some total) (root_items n) ≡ done r)
    × HasLinks n r
unfolding reading_of read_root prepare_all finishing root_exports
root_done limit levels n total is enough fits =
    let enter : Enter = enter_at table two_modules limit limit in
    let weight : ℕ = body_weight table two_modules (root_items n) + prepared_weight table two_modules (root_items n) in
    let w : World = begun_world weight (new_world (Some total)) in
    let weighs : weight ≡ 40 + 33 * n = root_weighs n in
    let go : World → Outcome Moment = λ v.
    and_then (prepare_all table 0 (root_items n) (prepared_at v))
    (read_items table two_modules enter 0 (root_items n)) in
    let starts = begins limit weight (new_world (Some total)) go (lt-ltb 0 limit (omega (arith, enough)))
    (lt-ltb (total + (1 + weight)) 4294967295 (omega (arith, weighs, fits))) in
    let prepares = ap (λ o. and_then o (read_items table two_modules enter 0 (root_items n)))
    (links_prepare 3 0 n (prepared_at w)) in
    let (later, reads, at) = root_read limit levels n (total + (1 + weight)) w is enough (refl {a = 1})
    (refl {a = Some (total + (1 + weight))}) (refl {a = []})
    (omega (arith, weighs, fits)) in (
      result_of [] later.world,
      ap (λ o. and_then o (finishing table (root_items n))) (starts ∙ prepares ∙ reads)
          ∙ ap (λ es. and_then (root_exports table later.scope es 0 later.world)
          (λ (f : Finish). done (result_of f.0 f.1))) (links_export 0 n),
      record {
        begun = omega (arith, at.begun);
        instances = omega (arith, at.core_instances);
        adapters = omega (arith, at.adapters);
        typed = at.typed;
      },
    )

-- the total before the first item
count_is : (n : ℕ) → counted table 0 (payloads n) ≡ 30 + 2 * n
unfolding counted table payloads
count_is n = omega (arith, rest_items 21 0 n, ap (sum_by record_entities) (modules_are n))

-- what is answered where the reading is done
done_is : (n total : ℕ) (r : Reading) → total < 4294967295
    → option_map (reading_of table (modules_of (payloads n)) (n + 2) (Some total))
    (root_of None (payloads n)) ≡ Some (done r)
    → answer_from table None (n + 2) (Some total) (payloads n) ≡ Some (Ok r)
unfolding answer_from reading
done_is n total r room reads =
    ap (λ b. if b then or_fault (static_fault table None (payloads n)) (option_map ending
    (reading table None (n + 2) (Some total) (payloads n))) else Some (Err error.TooMany))
    (lt-ltb total 4294967295 room)
    ∙ ap (λ e. or_fault e (option_map ending (reading table None (n + 2) (Some total) (payloads n)))) (no_fault n)
    ∙ ap (option_map ending) reads

-- a chain is valid
pub valid : (n : ℕ) → n ≤ 10000 → IsValid n
unfolding answer_of
valid n few =
    let counts : counted table 0 (payloads n) ≡ 30 + 2 * n = count_is n in
    let (r, reads, links) = root_done (n + 2) (n + 1) n (counted table 0 (payloads n)) (omega arith) (omega arith)
    (omega (arith, counts, few)) in
    let body = ap (option_map (reading_of table (modules_of (payloads n)) (n + 2)
    (Some (counted table 0 (payloads n))))) (root_is n)
    ∙ ap (λ ms. Some (reading_of table ms (n + 2) (Some (counted table 0 (payloads n))) (root_items n)))
    (modules_are n) ∙ ap Some reads in
    record {
      result_ = r;
      is_done = done_is n (counted table 0 (payloads n)) r (omega (arith, counts, few)) body;
      has_links = links;
    }
