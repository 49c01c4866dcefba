-- A child begins and ends, wherever the reading began.
use Rattle.std.proofs.Common.{◌≡◌, ◌<◌, ◌≤◌, ◌+◌, ℕ, List, ◌∷◌, Some, Ok, Err, length}
use Rattle.std.proofs.Common.{map, sym, ap, subst, ◌∙◌, arith, inr}
use Rattle.std.specs.Prelude.{⊤, slice_get, unwrap_or}
use Rattle.pc_numbers.specs.declared.runtime.RuntimeComponentInstanceIndex.{RuntimeComponentInstanceIndex}
use Rattle.pc_types.specs.declared.error.Error.{Error}
use Rattle.pc_types.specs.declared.error.Error.TheVariants as error
use Rattle.pc_types.specs.declared.error.Place.TheVariants as place
use Rattle.pc_types.specs.declared.module_record.ModuleRecord.{ModuleRecord}
use Rattle.pc_types.specs.declared.parsed.TypeTable.{TypeTable}
use Rattle.pc_types_builder.specs.Plain.{Layers}
use Rattle.pc_types_builder.specs.Converted.{AreConverted}
use Rattle.pc_types_lists.specs.Types.{Resources, Types}
use Rattle.pc_parsed.specs.declared.payload.ItemKind.{ItemKind}
use Rattle.pc_spec_reading.specs.Item.{Items}
use Rattle.pc_spec_reading.specs.Scope.{Moment}
use Rattle.pc_spec_reading.specs.Section.{argument_of}
use Rattle.pc_spec_reading.specs.Total.{body_weight}
use Rattle.pc_spec_reading.specs.World.{full}
use Rattle.pc_local.specs.declared.item.LocalInitializer.TheVariants as local
use Rattle.pc_local.specs.declared.item.Translation.{Translation}
use Rattle.pc_weights.specs.Capped.{capped}
use Rattle.pc_weights.specs.Weighs.{HasWeight}
use Rattle.pc_dfg.specs.declared.dfg.ComponentDfg.{ComponentDfg}
use Rattle.pc_dfg.specs.Grows as graph
use Rattle.pc_inline_stack.specs.declared.driver.Call.{Call}
use Rattle.pc_inline_stack.specs.declared.driver.Open.{Open}
use Rattle.pc_inline_state.specs.declared.error.ItemError.{ItemError}
use Rattle.pc_inline_state.specs.declared.frame.Frame.{Frame}
use Rattle.pc_inline_state.specs.declared.state.State.{State}
use Rattle.pc_inline_state.specs.Adds.{Adds, most_of_items, types_among}
use Rattle.pc_inline_stack.specs.Begins.{Begins, converting_for}
use Rattle.pc_inline_stack.specs.Calls.{CallFollows, CallReads, Calls, GivesBack, Stays, TrailsBack}
use Rattle.pc_inline_stack.specs.Driving.{reading_from}
use Rattle.pc_inline_state.specs.Faults.{error_of}
use Rattle.pc_inline_stack.specs.Reads.{Ends}
use Rattle.pc_inline_stack.specs.Stacks.{Driven, Failed, Fails, Grew, Reached, all_most_left, instance_type_at}
use Rattle.pc_inline_stack.specs.Stacks.{items_of}
use Rattle.pc_inline_state.specs.Tables.{Keeps, tables_of}
use Rattle.pc_inline_state.proofs.AddsLemmas.{adds_refl, adds_trans}
use Rattle.pc_inline_stack.proofs.BegunLemmas.{begun_adds, begun_graph, begun_keeps}
use Rattle.pc_inline_stack.proofs.CurrentLemmas.{current_adds, current_keeps}
use Rattle.pc_inline_stack.proofs.EnterLemmas.{call_fails, call_follows, call_reached, child_grew, child_over}
use Rattle.pc_inline_stack.proofs.EnterLemmas.{child_open, child_past, child_reached, for_arguments}
use Rattle.pc_inline_stack.proofs.LeaveLemmas.{for_return, its_exports, leave_fails, left_goes, left_less}
use Rattle.pc_inline_stack.proofs.LeftLemmas.{call_parts, most_here}
use Rattle.pc_inline_stack.proofs.MoveLemmas.{failed_after, some_reached}
use Rattle.pc_inline_stack.proofs.StackLemmas.{grew_more}
use Rattle.pc_inline_state.proofs.StateLemmas.{keeps_refl, keeps_trans}
use Rattle.pc_spec_reading.specs.Components.{read_call}

-- the weight of a body is what the code has of it, as long as a total isn't full with that
same_weight : (total weight real : ℕ) → weight ≡ capped real → total + (1 + weight) < full → weight ≡ real
same_weight total weight real is below = omega (arith, is, below)

-- and where it is full with that it is full
crowded_so : (total weight real : ℕ) → weight ≡ capped real → full ≤ total + (1 + weight) → full ≤ total + (1 + real)
crowded_so total weight real is crowded = omega (arith, is, crowded)

-- a reading that failed is the same when the total has grown
failed_later : (t : TypeTable) (ms : List ModuleRecord) (limit : ℕ) (root : Translation) (old : State) (f : Frame)
    (counted : ℕ) (st : State) (total : ℕ) (e : Error) → Failed t ms limit root old f counted st total e → (total' : ℕ)
    → total ≤ total' → total' < full → Failed t ms limit root old f counted st total' e
failed_later t ms limit root old f counted st total e failed total' more below =
    let few = failed.grew.1 in
    record {
      added = failed.added;
      keeps = failed.keeps;
      adds = failed.adds;
      grew = (below, omega (arith, few, more));
      reads = failed.reads;
    }

module _ (t : TypeTable) (ms : List ModuleRecord) (limit : ℕ) (root : Translation) (old : State) (f : Frame)
    (counted : ℕ) (st : State)
  where
    module _ (ks : List Open) (o : Open) (total : ℕ) (driven : Driven t ms limit root old f counted st ks o total)
        (component : ℕ) (args : List (List ℕ × ItemKind × ℕ)) (ty : ℕ)
        (at : slice_get (items_of st.bodies.now root o) o.next ≡ Some
        (local.ComponentInstantiate component args ty)) (st' : State) (keeps : Keeps (tables_of st) (tables_of st'))
        (adds : Adds t (for_arguments t args) (tables_of st) (tables_of st')) where
      -- so few entries are among those that are left to be added
      few_here : (more : ℕ) → more ≤ for_arguments t args + 4 → more + 0 ≤ all_most_left t st.bodies.now root ks o
      few_here more few =
          let parts = call_parts t (types_among args) in
          most_here t st.bodies.now root ks o (local.ComponentInstantiate component args ty) at more
          (omega (arith, few, parts))

      -- an instantiation is refused
      pub call_failed : (e : ItemError) → Calls t ms component (map argument_of args) ty st o.frame st' (Err e)
          → Failed t ms limit root old f counted st' total
          (error_of e (place.Reading o.frame.component_instance.0 o.next))
      call_failed e calls =
          failed_after t ms limit root old f counted st ks o total driven st'
          (error_of e (place.Reading o.frame.component_instance.0 o.next)) (for_arguments t args) keeps adds
          (few_here (for_arguments t args) (omega arith))
          (λ is first x. call_fails t ms limit root is first st ks o total x component args ty at st' f e calls)

      deep : length ks < limit
      deep = let h = driven.deep in let k = driven.within in omega (arith, h, k)

      at_now : slice_get (items_of st'.bodies.now root o) o.next ≡ Some (local.ComponentInstantiate component args ty)
      at_now =
          subst (λ bs. slice_get (items_of bs root o) o.next ≡ Some (local.ComponentInstantiate component args ty))
          (sym keeps.bodies) at

      module _ (g : Frame) (frame : g ≡ record o.frame { converted = g.converted })
          (known : st'.types.resources ≡ st.types.resources) (stays : Stays t ms st o.frame st' g) (call : Call)
          (calls : Calls t ms component (map argument_of args) ty st o.frame st' (Ok call)) where
        abbrev o' : Open
        o' = record o { frame = g }

        -- a reading that came so far is in front of the child
        abbrev before : (is : Items) (first : Moment) → Reached t ms limit root is first st ks o total
            → Reached t ms limit root is first st' ks o' total
        before is first x =
            call_reached t ms limit root is first st ks o total x component args ty at st' g keeps frame known stays

        reads : (is : Items) (first : Moment) (x : Reached t ms limit root is first st ks o total)
            → CallReads t ms (tables_of st') ty (read_call t x.reader.scope component (map argument_of args) ty) call
        unfolding CallFollows
        reads is first x =
            call_follows t ms limit root is first st ks o total x component args ty at st' (Ok call) calls

        -- as many component instances have begun
        still_begun : st'.graph.num_runtime_component_instances ≡ st.graph.num_runtime_component_instances
        still_begun =
            let s = some_reached t ms limit root old f counted st ks o total driven in
            let x = before s.0 s.1 s.2 in
            sym x.world_stands.begun ∙ s.2.world_stands.begun

        ends_as : (st2 : State) (e : Error) (more : ℕ) → Keeps (tables_of st') (tables_of st2)
            → Adds t more (tables_of st') (tables_of st2) → more ≤ 4
            → ((is : Items) (first : Moment) → Reached t ms limit root is first st ks o total
            → Fails t ms limit root st2 f (reading_from t ms limit is first) e)
            → Failed t ms limit root old f counted st2 total e
        ends_as st2 e more keeps2 adds2 few ends =
            failed_after t ms limit root old f counted st ks o total driven st2 e (for_arguments t args + more)
            (keeps_trans (tables_of st) (tables_of st') (tables_of st2) keeps keeps2)
            (adds_trans t (for_arguments t args) more (tables_of st) (tables_of st') (tables_of st2) adds adds2)
            (few_here (for_arguments t args + more) (omega (arith, few))) ends

        unbegun_so : (g : ComponentDfg) (total' : ℕ) (e : Error) → g ≡ st'.graph → total' ≡ total
            → ((is : Items) (first : Moment) → Reached t ms limit root is first st ks o total
            → Fails t ms limit root st' f (reading_from t ms limit is first) e)
            → Failed t ms limit root old f counted (record st' { graph = g }) total' e
        unbegun_so g total' e same still ends =
            subst (λ n. Failed t ms limit root old f counted (record st' { graph = g }) n e) (sym still)
            (subst (λ h. Failed t ms limit root old f counted (record st' { graph = h }) total e) (sym same)
            (ends_as st' e 0 (keeps_refl (tables_of st')) (adds_refl t 0 (tables_of st')) (omega arith) ends))

        module _ (weight : ℕ)
            (weighs : (tr : Translation) → slice_get st'.bodies.now call.body.0 ≡ Some tr → HasWeight t ms tr weight)
          where
            -- what the body of the child weighs that a reading comes to
            abbrev real : (is : Items) (first : Moment) → Reached t ms limit root is first st ks o total → ℕ
            real is first x = body_weight t ms (reads is first x).stands.body

            is_weight : (is : Items) (first : Moment) (x : Reached t ms limit root is first st ks o total)
                → weight ≡ capped (real is first x)
            is_weight is first x =
                let s = (reads is first x).stands in
                weighs s.translation s.there st'.bodies.now s.names s.body s.stands.items

            -- no child begins
            pub child_unbegun : (g : ComponentDfg) (total' : ℕ) (e : Error)
                → Begins limit weight st'.graph g total total' (Err e)
                → Failed t ms limit root old f counted (record st' { graph = g }) total' e
            unfolding Begins Fails Ends
            child_unbegun g total' error.TooManyInstances begins =
                unbegun_so g total' error.TooManyInstances begins.1 begins.2
                (λ is first x. child_over t ms limit root is first st' ks o' total (before is first x) component args
                ty at_now call (reads is first x) deep begins.0)
            child_unbegun g total' error.TooMany begins =
                unbegun_so g total' error.TooMany begins.2 begins.3
                (λ is first x. inr (child_past t ms limit root is first st' ks o' total (before is first x) component
                args ty at_now call (reads is first x) deep begins.0
                (crowded_so total weight (real is first x) (is_weight is first x) begins.1)))
            child_unbegun g total' error.NoMemory begins =
                unbegun_so g total' error.NoMemory begins.0 begins.1 (λ is first x. tt)
            child_unbegun g total' (error.Invalid p) begins = absurd begins
            child_unbegun g total' (error.BadType p) begins = absurd begins
            child_unbegun g total' (error.Unsupported u p) begins = absurd begins
            child_unbegun g total' (error.Malformed p) begins = absurd begins
            child_unbegun g total' (error.BadTable p) begins = absurd begins
            child_unbegun g total' (error.BadIntrinsics p) begins = absurd begins
            child_unbegun g total' (error.UnknownIntrinsic p) begins = absurd begins
            child_unbegun g total' (error.DefinedTwice p) begins = absurd begins
            child_unbegun g total' (error.BadOptions p) begins = absurd begins

            module _ (c : RuntimeComponentInstanceIndex) (g2 : ComponentDfg) (total' : ℕ)
                (begins : Begins limit weight st'.graph g2 total total' (Ok c))
                (grown : graph.Grows st'.graph g2) where
              begun_so : (st'.graph.num_runtime_component_instances < limit) × (g2 ≡ begun_graph st'.graph)
                  × (total' ≡ total + (1 + weight)) × (total + (1 + weight) < full)
              unfolding Begins
              begun_so = (begins.0, begins.2, begins.4, subst (λ n. n < full) begins.4 begins.5)

              grows : graph.Grows st'.graph (begun_graph st'.graph)
              grows = subst (graph.Grows st'.graph) begun_so.1 grown

              -- the weight is that of the body of the child
              is_real : (is : Items) (first : Moment) (x : Reached t ms limit root is first st ks o total)
                  → weight ≡ real is first x
              is_real is first x = same_weight total weight (real is first x) (is_weight is first x) begun_so.3

              real_below : (is : Items) (first : Moment) (x : Reached t ms limit root is first st ks o total)
                  → total + (1 + real is first x) < full
              real_below is first x = subst (λ n. total + (1 + n) < full) (is_real is first x) begun_so.3

              -- the total when it begins
              real_total : (is : Items) (first : Moment) (x : Reached t ms limit root is first st ks o total)
                  → total + (1 + real is first x) ≡ total'
              real_total is first x =
                  ap (λ n. total + (1 + n)) (sym (is_real is first x)) ∙ sym begun_so.2

              -- it has grown by what the child adds at the most
              begun_grew : (done : Layers) → Grew counted total' (driven.added + (for_arguments t args + 1))
                  (all_most_left t st'.bodies.now root (o' ∷ ks) (child_open call c done))
                  (most_of_items t root.initializers)
              begun_grew done =
                  let count = most_of_items t root.initializers in
                  let s = some_reached t ms limit root old f counted st ks o total driven in
                  let x = s.2 in
                  subst (λ n. Grew counted n (driven.added + (for_arguments t args + 1))
                  (all_most_left t st'.bodies.now root (o' ∷ ks) (child_open call c done)) count)
                  (real_total s.0 s.1 x)
                  (child_grew t ms limit root s.0 s.1 st' ks o' total (before s.0 s.1 x) component args ty at_now call
                  (reads s.0 s.1 x) c done counted driven.added count (real_below s.0 s.1 x)
                  (subst (λ bs. Grew counted total driven.added (all_most_left t bs root ks o) count) (sym keeps.bodies)
                  driven.grew))

              -- there was no memory for the stack
              pub child_unfed : Failed t ms limit root old f counted (record st' { graph = g2 }) total' error.NoMemory
              unfolding Fails Ends
              child_unfed =
                  let more = begun_so.2 in
                  failed_later t ms limit root old f counted (record st' { graph = g2 }) total error.NoMemory
                  (subst (λ h. Failed t ms limit root old f counted (record st' { graph = h }) total error.NoMemory)
                  (sym begun_so.1)
                  (ends_as (record st' { graph = begun_graph st'.graph }) error.NoMemory 1 (begun_keeps st' grows)
                  (begun_adds t st') (omega arith) (λ is first x. tt))) total' (omega (arith, more))
                  (subst (λ n. n < full) (sym begun_so.2) begun_so.3)

              child_current : (done : Layers)
                  → ((r : Resources) → AreConverted (record st'.types { resources = r }) t done)
                  → Driven t ms limit root old f counted
                  (record st' { graph = g2; types = converting_for st'.types c }) (o' ∷ ks) (child_open call c done)
                  total'
              child_current done none =
                  let depth = driven.deep in
                  let still = still_begun in
                  let below = begun_so.0 in
                  let number : g2.num_runtime_component_instances ≡ st'.graph.num_runtime_component_instances + 1 =
                  ap (λ (h : ComponentDfg). h.num_runtime_component_instances) begun_so.1 in
                  let begun : State = record st' { graph = begun_graph st'.graph } in
                  let after : State =
                  record st' { graph = begun_graph st'.graph; types = converting_for st'.types c } in
                  let keeps_all : Keeps (tables_of old) (tables_of st') =
                  keeps_trans (tables_of old) (tables_of st) (tables_of st') driven.keeps keeps in
                  let adds_all : Adds t (driven.added + for_arguments t args) (tables_of old) (tables_of st') =
                  adds_trans t driven.added (for_arguments t args) (tables_of old) (tables_of st) (tables_of st')
                  driven.adds adds in
                  let added : driven.added + (for_arguments t args + 1) ≡ driven.added + for_arguments t args + 1 =
                  omega arith in
                  record {
                    added = driven.added + (for_arguments t args + 1);
                    keeps = subst (λ h. Keeps (tables_of old)
                        (tables_of (record st' { graph = h; types = converting_for st'.types c }))) (sym begun_so.1)
                        (keeps_trans (tables_of old) (tables_of begun) (tables_of after)
                        (keeps_trans (tables_of old) (tables_of st') (tables_of begun) keeps_all
                        (begun_keeps st' grows))
                        (current_keeps (tables_of begun) (converting_for st'.types c).resources));
                    adds = subst (λ h. Adds t (driven.added + (for_arguments t args + 1)) (tables_of old)
                        (tables_of (record st' { graph = h; types = converting_for st'.types c }))) (sym begun_so.1)
                        (current_adds t (driven.added + (for_arguments t args + 1)) (tables_of old) (tables_of begun)
                        (converting_for st'.types c).resources
                        (subst (λ n. Adds t n (tables_of old) (tables_of begun)) (sym added)
                        (adds_trans t (driven.added + for_arguments t args) 1 (tables_of old) (tables_of st')
                        (tables_of begun) adds_all (begun_adds t st'))));
                    grew = begun_grew done;
                    deep = omega (arith, depth, number, still);
                    within = omega (arith, below, number);
                    starts = driven.starts;
                    reads = λ is first stand here some.
                        let x = driven.reads is first stand here some in
                        subst (λ n. Reached t ms limit root is first
                        (record st' { graph = g2; types = converting_for st'.types c }) (o' ∷ ks)
                        (child_open call c done) n) (real_total is first x)
                        (child_reached t ms limit root is first st' ks o' total (before is first x) component args ty
                        at_now call (reads is first x) c g2 weight total' begins grows done none deep
                        (real_below is first x));
                  }

              -- the child is read, and types are converted for it
              pub child_driven : (ts : Types) → ts ≡ converting_for st'.types c → (done : Layers)
                  → ((r : Resources) → AreConverted (record st'.types { resources = r }) t done)
                  → Driven t ms limit root old f counted (record st' { graph = g2; types = ts }) (o' ∷ ks)
                  (child_open call c done) total'
              child_driven ts current done none =
                  subst (λ b. Driven t ms limit root old f counted (record st' { graph = g2; types = b }) (o' ∷ ks)
                  (child_open call c done) total') (sym current) (child_current done none)

    module _ (caller : Open) (ks : List Open) (o : Open) (total : ℕ)
        (driven : Driven t ms limit root old f counted st (caller ∷ ks) o total)
        (ty : ℕ) (ty_is : ty ≡ unwrap_or (instance_type_at (items_of st.bodies.now root caller) caller.next) 0)
        (end : length (items_of st.bodies.now root o) ≤ o.next) (st' : State) (g : Frame)
        (keeps : Keeps (tables_of st) (tables_of st'))
        (adds : Adds t (for_return t root st o) (tables_of st) (tables_of st'))
        (same : g.component_instance ≡ caller.frame.component_instance) where
      abbrev caller_then : Open
      caller_then = record caller { frame = g; next = caller.next + 1 }

      less : for_return t root st o + all_most_left t st.bodies.now root ks caller_then
          ≤ all_most_left t st.bodies.now root (caller ∷ ks) o
      less =
          let s = some_reached t ms limit root old f counted st (caller ∷ ks) o total driven in
          left_less t ms limit root s.0 s.1 st caller ks o total s.2 g

      -- a child has ended, and what waits for it can't go on
      pub left_failed : (e : ItemError) → GivesBack t ms (its_exports root st o) ty st o.frame caller.frame st' g
          (Err e)
          → Failed t ms limit root old f counted st' total
          (error_of e (place.Reading g.component_instance.0 caller.next))
      left_failed e gives =
          let few = less in
          failed_after t ms limit root old f counted st (caller ∷ ks) o total driven st'
          (error_of e (place.Reading g.component_instance.0 caller.next)) (for_return t root st o) keeps adds
          (omega (arith, few))
          (λ is first x. leave_fails t ms limit root is first st caller ks o total x ty ty_is end st' g keeps f same e
          gives)

      -- what waits for it has what it exports
      pub left_driven : (done : ⊤) → GivesBack t ms (its_exports root st o) ty st o.frame caller.frame st' g (Ok done)
          → TrailsBack st o.frame caller.frame st' g
          → Driven t ms limit root old f counted st' ks (record caller { frame = g; next = caller.next + 1 }) total
      left_driven done gives trails =
          let depth = driven.deep in
          let within = driven.within in
          let goes : (is : Items) (first : Moment)
          → Reached t ms limit root is first st (caller ∷ ks) o total
          → Reached t ms limit root is first st' ks caller_then total
          × (st'.graph.num_runtime_component_instances ≡ st.graph.num_runtime_component_instances) =
          λ is first x. left_goes t ms limit root is first st caller ks o total x ty ty_is end st' g keeps done
          gives trails in
          let s = some_reached t ms limit root old f counted st (caller ∷ ks) o total driven in
          let number = (goes s.0 s.1 s.2).1 in
          let count = most_of_items t root.initializers in
          record {
            added = driven.added + for_return t root st o;
            keeps = keeps_trans (tables_of old) (tables_of st) (tables_of st') driven.keeps keeps;
            adds = adds_trans t driven.added (for_return t root st o) (tables_of old) (tables_of st) (tables_of st')
                driven.adds adds;
            grew = subst (λ bs. Grew counted total (driven.added + for_return t root st o)
                (all_most_left t bs root ks caller_then) count) (sym keeps.bodies)
                (grew_more counted total driven.added (all_most_left t st.bodies.now root (caller ∷ ks) o)
                (for_return t root st o) (all_most_left t st.bodies.now root ks caller_then) count less driven.grew);
            deep = omega (arith, depth, number);
            within = omega (arith, within, number);
            starts = driven.starts;
            reads = λ is first stand here some. (goes is first (driven.reads is first stand here some)).0;
          }
