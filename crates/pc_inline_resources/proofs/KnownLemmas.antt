-- Other resources are known: what that keeps and adds, how the change is noted, and where the reading stands.
use Rattle.std.proofs.Common.{◌≡◌, ◌==◌, ℕ, Bool, true, false, List, [], ◌∷◌, ◌++◌, Option, Some, refl, sym, ap, subst}
use Rattle.std.proofs.Common.{◌∙◌, if◌then◌else◌, true≢false}
use Rattle.std.specs.Cmp.{nat_eq_equiv}
use Rattle.std.proofs.lemmas.Bool.{eqb-true}
use Rattle.pc_entity.proofs.Growing.{kept_refl}
use Rattle.pc_numbers.specs.declared.runtime.ResourceIndex.{ResourceIndex}
use Rattle.pc_types.specs.declared.module_record.ModuleRecord.{ModuleRecord}
use Rattle.pc_types.specs.declared.parsed.TypeTable.{TypeTable}
use Rattle.pc_types.specs.TypeTree.{Identity, identity_of}
use Rattle.pc_types_lists.specs.Known.{resource_of}
use Rattle.pc_types_lists.specs.Types.{Resources}
use Rattle.pc_types_lists.proofs.KeptTypes.{keeps_same}
use Rattle.pc_types_builder.specs.Plain.{Layers}
use Rattle.pc_types_builder.specs.Converted.{AreConverted}
use Rattle.pc_dfg.specs.declared.dfg.ComponentDfg.{ComponentDfg}
use Rattle.pc_dfg.proofs.GrowLemmas.{grows_refl}
use Rattle.pc_spec_reading.specs.Resource.{knowing}
use Rattle.pc_spec_reading.specs.Scope.{Moment, with_known}
use Rattle.pc_inline_state.specs.declared.frame.Change.{Change}
use Rattle.pc_inline_state.specs.declared.frame.Frame.{Frame}
use Rattle.pc_inline_state.specs.declared.state.State.{State}
use Rattle.pc_inline_state.specs.Frames.{Both, both}
use Rattle.pc_inline_state.specs.KnowsSame.{IsResource}
use Rattle.pc_inline_state.specs.Points.{IsSoundState, PointStands}
use Rattle.pc_inline_state.specs.Tables.{Keeps, tables_of}
use Rattle.pc_inline_state.specs.Trails.{Trails, undone}
use Rattle.pc_inline_state.proofs.InstanceLemmas.{instances_kept}
use Rattle.pc_inline_state.proofs.PlacedLemmas.{placed_kept}
use Rattle.pc_inline_state.proofs.StateLemmas.{keeps_refl}
use Rattle.pc_inline_canon.proofs.KeptLemmas.{frame_kept}
use Rattle.pc_inline_canon.proofs.WorldLemmas.{world_still}

-- changes are taken back one after another
undone_append : (cs ds : List Change) (known : ℕ → Option ResourceIndex) (q : ℕ)
    → undone (cs ++ ds) known q ≡ undone cs (undone ds known) q
undone_append [] ds known q = refl
undone_append (c ∷ cs) ds known q = ap (λ r. if q == c.number then c.was else r) (undone_append cs ds known q)

-- from what is the same they leave the same
undone_same : (f g : ℕ → Option ResourceIndex) → ((q : ℕ) → f q ≡ g q) → (cs : List Change) (q : ℕ)
    → undone cs f q ≡ undone cs g q
undone_same f g same [] q = same q
undone_same f g same (c ∷ cs) q = ap (λ r. if q == c.number then c.was else r) (undone_same f g same cs q)

-- the last change is taken back
last_undone : (k j : ℕ → Option ResourceIndex) (n : ℕ) (x : Option ResourceIndex)
    → ((q : ℕ) → j q ≡ (if q == n then x else k q)) → (q : ℕ) → (if q == n then k n else j q) ≡ k q
last_undone k j n x put q = by (q == n) (λ same. eqb-true q n same) (put q)
  where
    by : (b : Bool) → (b ≡ true → q ≡ n) → j q ≡ (if b then x else k q) → (if b then k n else j q) ≡ k q
    by true same is = ap k (sym (same refl))
    by false same is = is

module _ (cs : List Change) (k j : Resources) (n : ℕ) (x : Option ResourceIndex)
    (put : (q : ℕ) → resource_of j.known q ≡ (if q == n then x else resource_of k.known q))
    (current : j.current ≡ k.current) where
  -- a number stands for something else, which is noted
  pub changed_trail : (ds : List Change)
      → ds ≡ cs ++ record { number = n; was = resource_of k.known n } ∷ [] → Trails cs k ds j
  changed_trail ds noted = subst (λ es. Trails cs k es j) (sym noted) (record {
    known = λ q. undone_append cs (record { number = n; was = resource_of k.known n } ∷ []) (resource_of j.known) q
        ∙ undone_same (undone (record { number = n; was = resource_of k.known n } ∷ []) (resource_of j.known))
        (resource_of k.known) (last_undone (resource_of k.known) (resource_of j.known) n x put) cs q;
    current = current;
  })

-- a number stands for what it stood for
same_put : (k : ℕ → Option ResourceIndex) (n q : ℕ) → k q ≡ (if q == n then k n else k q)
same_put k n q = by (q == n) (λ same. eqb-true q n same)
  where
    by : (b : Bool) → (b ≡ true → q ≡ n) → k q ≡ (if b then k n else k q)
    by true same = ap k (same refl)
    by false same = refl

-- nothing has changed, but a change is noted
pub noted_trail : (cs : List Change) (k j : Resources) (n : ℕ) (was : Option ResourceIndex)
    → was ≡ resource_of k.known n → j ≡ k → (ds : List Change)
    → ds ≡ cs ++ record { number = n; was = was } ∷ [] → Trails cs k ds j
noted_trail cs k j n was is same ds noted =
    subst (λ (r : Resources). Trails cs k ds r) (sym same)
    (changed_trail cs k k n (resource_of k.known n) (same_put (resource_of k.known) n) refl ds
    (noted ∙ ap (λ r. cs ++ record { number = n; was = r } ∷ []) is))

-- a state in which other resources are known
abbrev pub knowing_in : State → Resources → State
knowing_in st k = record st { types = record st.types { resources = k } }

module _ (st : State) (k : Resources) where
  -- each number keeps what it names
  pub known_keeps : Keeps (tables_of st) (tables_of (knowing_in st k))
  known_keeps =
      let still = keeps_refl (tables_of st) in
      record {
        types = still.types;
        graph = still.graph;
        fits = still.fits;
        cores = still.cores;
        definitions = still.definitions;
        closures = still.closures;
        instances = still.instances;
        paths = still.paths;
        bodies = refl;
        names = refl;
        table = refl;
      }

  -- what all component instances share is in order
  known_sound : (t : TypeTable) (ms : List ModuleRecord) → IsSoundState t ms st
      → IsSoundState t ms (knowing_in st k)
  known_sound t ms s = record {
    ordered = s.ordered;
    items = s.items;
    plain = s.plain;
    used = s.used;
    numbers = record { signatures = s.numbers.signatures };
    held = record {
      options = s.held.options;
      modules = λ n ty m at.
          let h = s.held.modules n ty m at in
          record {
            there = h.there;
            known = h.known;
            component_instance = h.component_instance;
            tree = h.tree;
            is = h.is;
            number = h.number;
            holds = h.holds;
          };
    };
    table = s.table;
    bodies = s.bodies;
    names = s.names;
    members = s.members;
    instances = instances_kept ms (tables_of st) (tables_of (knowing_in st k)) known_keeps refl
        st.runtime_instances.items s.instances;
    widths = s.widths;
    placed = placed_kept t ms st (knowing_in st k) known_keeps (kept_refl st.runtime_instances.items) refl s.placed;
  }

  -- a point at which other resources are known on both sides
  pub known_point : (t : TypeTable) (ms : List ModuleRecord) (f : Frame) (now : Moment)
      (ks : List (ℕ × Identity)) → PointStands t ms st f now
      → ((n : ℕ) → Both (IsResource st.graph) (resource_of k.known n) (identity_of ks n))
      → k.current ≡ st.types.resources.current
      → (done : Layers) → AreConverted (knowing_in st k).types t done → (cs : List Change)
      → PointStands t ms (knowing_in st k) (record f { converted = done; changes = cs }) (with_known now ks)
  known_point t ms f now ks at known current done converted cs =
      let frame = frame_kept ms (tables_of st) (tables_of (knowing_in st k)) known_keeps f now.scope at.frame in
      record {
        sound = known_sound t ms at.sound;
        here = record { known = known; current = ap (λ c. c.0) current ∙ at.here.current };
        converted = converted;
        frame = record {
          core_funcs = frame.core_funcs;
          memories = frame.memories;
          tables = frame.tables;
          globals = frame.globals;
          tags = frame.tags;
          modules = frame.modules;
          funcs = frame.funcs;
          core_instances = frame.core_instances;
          instances = frame.instances;
          components = frame.components;
          arguments = frame.arguments;
          component_instance = frame.component_instance;
          begun = frame.begun;
        };
        world = world_still st.types (knowing_in st k).types st.graph st.graph (keeps_same st.types)
            (grows_refl st.graph) (λ who fits. fits) refl refl refl refl refl refl refl refl refl refl now.world
            at.world;
        unexported = at.unexported;
      }

-- a number is known as a resource on both sides
known_more : (g : ComponentDfg) (k j : ℕ → Option ResourceIndex) (ks : List (ℕ × Identity)) (n : ℕ) (r : ResourceIndex)
    (i : Identity) → IsResource g r i → ((q : ℕ) → Both (IsResource g) (k q) (identity_of ks q))
    → ((q : ℕ) → j q ≡ (if q == n then Some r else k q)) → (q : ℕ)
    → Both (IsResource g) (j q) (identity_of (knowing ks n i) q)
known_more g k j ks n r i is known put q =
    by (q == n) (n == q) (nat_eq_equiv.symm q n) (known q) (put q)
  where
    by : (a b : Bool) → a ≡ b → Both (IsResource g) (k q) (identity_of ks q) → j q ≡ (if a then Some r else k q)
        → Both (IsResource g) (j q) (if b then Some i else identity_of ks q)
    by true true same was now = subst (λ x. Both (IsResource g) x (Some i)) (sym now) (both is)
    by true false same was now = absurd (true≢false same)
    by false true same was now = absurd (true≢false (sym same))
    by false false same was now = subst (λ x. Both (IsResource g) x (identity_of ks q)) (sym now) was

-- so a point stands where the number is known as the resource
pub registered_point : (t : TypeTable) (ms : List ModuleRecord) (st : State) (f : Frame) (st' : State) (f' : Frame)
    (n : ℕ) (r : ResourceIndex) (i : Identity) → IsResource st.graph r i
    → st' ≡ knowing_in st st'.types.resources → f' ≡ record f { converted = f'.converted; changes = f'.changes }
    → ((q : ℕ) → resource_of st'.types.resources.known q
    ≡ (if q == n then Some r else resource_of st.types.resources.known q))
    → st'.types.resources.current ≡ st.types.resources.current → AreConverted st'.types t f'.converted
    → (now : Moment) → PointStands t ms st f now
    → PointStands t ms st' f' (with_known now (knowing now.scope.known n i))
registered_point t ms st f st' f' n r i is state frame put current converted now at =
    let ks = knowing now.scope.known n i in
    subst (λ (x : State). PointStands t ms x f' (with_known now ks)) (sym state)
    (subst (λ (x : Frame). PointStands t ms (knowing_in st st'.types.resources) x (with_known now ks)) (sym frame)
    (known_point st st'.types.resources t ms f now ks at
    (known_more st.graph (resource_of st.types.resources.known) (resource_of st'.types.resources.known)
    now.scope.known n r i is at.here.known put)
    current f'.converted (subst (λ (x : State). AreConverted x.types t f'.converted) state converted) f'.changes))

-- a number stands for something else than in what is known at first, which is noted
pub put_trail : (cs : List Change) (k j : Resources) (n : ℕ) (x : Option ResourceIndex) (i : Resources) → i ≡ k
    → ((q : ℕ) → resource_of j.known q ≡ (if q == n then x else resource_of i.known q)) → j.current ≡ i.current
    → (was : Option ResourceIndex) → was ≡ resource_of k.known n → (ds : List Change)
    → ds ≡ cs ++ record { number = n; was = was } ∷ [] → Trails cs k ds j
put_trail cs k j n x i same put current was is ds noted =
    changed_trail cs k j n x
    (subst (λ (l : Resources). (q : ℕ) → resource_of j.known q ≡ (if q == n then x else resource_of l.known q)) same
    put)
    (current ∙ ap (λ (l : Resources). l.current) same) ds
    (noted ∙ ap (λ w. cs ++ record { number = n; was = w } ∷ []) is)

-- what else was known at first stays known
pub others_known : (k j : Resources) (n : ℕ) (x : Option ResourceIndex) (i : Resources) → i ≡ k
    → ((q : ℕ) → resource_of j.known q ≡ (if q == n then x else resource_of i.known q)) → (q : ℕ) → ¬ (q ≡ n)
    → resource_of j.known q ≡ resource_of k.known q
others_known k j n x i same put q other =
    by (q == n) (λ is. eqb-true q n is) (put q) ∙ ap (λ (l : Resources). resource_of l.known q) same
  where
    by : (b : Bool) → (b ≡ true → q ≡ n) → resource_of j.known q ≡ (if b then x else resource_of i.known q)
        → resource_of j.known q ≡ resource_of i.known q
    by true is put_q = absurd (other (is refl))
    by false is put_q = put_q
