-- The entries of a plan stay those of the graph while numbers are given.
use Rattle.std.proofs.Common.{◌≡◌, ◌<◌, ◌++◌, inl, inr, ℕ, List, [], ◌∷◌, length, map, All, Option, None, Some}
use Rattle.std.proofs.Common.{option_map, refl, sym, ap, subst, ◌∙◌}
use Rattle.std.specs.Prelude.{slice_get, unwrap_or}
use Rattle.std.specs.List.{flat_map}
use Rattle.std.proofs.lemmas.List.Elements.{All-head, All-tail, All-weaker}
use Rattle.std.proofs.lemmas.Option.{none-some, slice_get_within}
use Rattle.pc_entity.proofs.Growing.{slice_get-append, slice_get-append_seam}
use Rattle.pc_dfg.specs.declared.ids.CallbackId.{CallbackId}
use Rattle.pc_dfg.specs.declared.ids.MemoryId.{MemoryId}
use Rattle.pc_dfg.specs.declared.ids.PostReturnId.{PostReturnId}
use Rattle.pc_dfg.specs.declared.ids.ReallocId.{ReallocId}
use Rattle.pc_dfg.specs.declared.ids.OptionsId.{OptionsId}
use Rattle.pc_dfg.specs.declared.ids.TableId.{TableId}
use Rattle.pc_numbers.specs.declared.module_entity.ModuleInternedTypeIndex.{ModuleInternedTypeIndex}
use Rattle.pc_numbers.specs.declared.runtime.RuntimeComponentInstanceIndex.{RuntimeComponentInstanceIndex}
use Rattle.pc_numbers.specs.declared.runtime.RuntimeImportIndex.{RuntimeImportIndex}
use Rattle.pc_numbers.specs.declared.runtime.RuntimeInstanceIndex.{RuntimeInstanceIndex}
use Rattle.pc_numbers.specs.declared.runtime.TrampolineIndex.{TrampolineIndex}
use Rattle.pc_types.specs.declared.trampoline.TrampolineKind.{TrampolineKind}
use Rattle.pc_spec_plan.specs.PlanView as plan
use Rattle.pc_trampoline.specs.declared.part.Head.{Head}
use Rattle.pc_trampoline.specs.declared.part.Head.TheVariants as head
use Rattle.pc_trampoline.specs.declared.part.Part.TheVariants as part
use Rattle.pc_trampoline.specs.declared.part.PartList.{PartList}
use Rattle.pc_trampoline.specs.declared.part.PartList.TheVariants as list
use Rattle.pc_trampoline.specs.declared.trampoline.Trampoline.{Trampoline}
use Rattle.pc_trampoline.specs.declared.trampoline.Trampoline.TheVariants as trampoline
use Rattle.pc_trampoline.specs.Parts.{list_of, parts_of}
use Rattle.pc_trampoline.specs.View.{PlanTrampoline, entry_of, part_by}
use Rattle.pc_info.specs.declared.initializer.GlobalInitializer.{GlobalInitializer}
use Rattle.pc_info.specs.declared.options.CanonicalOptionsDataModel.TheVariants as plan_model
use Rattle.pc_dfg.specs.declared.dfg.ComponentDfg.{ComponentDfg}
use Rattle.pc_dfg.specs.declared.options.CanonicalOptions.{CanonicalOptions}
use Rattle.pc_dfg.specs.declared.options.CanonicalOptionsDataModel.{CanonicalOptionsDataModel as Model}
use Rattle.pc_dfg.specs.declared.options.CanonicalOptionsDataModel.TheVariants as model
use Rattle.pc_dfg.specs.Names.{each_of}
use Rattle.pc_dfg.specs.Numbers.{SignedTrampoline, graph_numbers, model_entry, options_entry, trampoline_entry}
use Rattle.pc_dfg_linearize.specs.declared.id.Id.{Id}
use Rattle.pc_dfg_linearize.specs.declared.id.Id.TheVariants as id
use Rattle.pc_dfg_linearize.specs.declared.state.Counts.{Counts}
use Rattle.pc_dfg_linearize.specs.declared.state.Finish.{Finish}
use Rattle.pc_dfg_linearize.specs.Added.{add_options, add_slot, add_trampoline}
use Rattle.pc_dfg_linearize.specs.Closed.{Fits}
use Rattle.pc_dfg_linearize.specs.Entries.{GraphPart, callback_in, head_in, list_in, memory_in, model_in, options_in, part_in}
use Rattle.pc_dfg_linearize.specs.Entries.{parts_in, post_return_in, realloc_in}
use Rattle.pc_dfg_linearize.specs.Numbers.{number_at}
use Rattle.pc_dfg_linearize.specs.Once.{Alike, Notes, Stay, unsigned}
use Rattle.pc_dfg_linearize.specs.Parts.{HasNumber, in_entry, in_model, in_part, in_trampoline, maybe_slot, number_of}
use Rattle.pc_dfg_linearize.specs.Parts.{options_id, parts, slot_id, slot_numbers}
use Rattle.pc_dfg_linearize.specs.Plan.{slot_count}
use Rattle.pc_dfg_linearize.specs.Represented.{AreNamed, AreSigned, IsCopyOf, IsEntryOf, Keeps, Represents}
use Rattle.pc_dfg_linearize.proofs.NoteLemmas.{alike_number, options_noted, slot_noted, trampoline_noted}
use Rattle.pc_dfg_linearize.proofs.NumberLemmas.{number_back}
use Rattle.pc_dfg_linearize.proofs.PartLemmas.{all_left, all_right}
use Rattle.pc_dfg_linearize.proofs.StepNameLemmas.{entry_named, named_later, named_still, names_front, trampoline_named}

-- numbers stay where an id without one gets one
pub notes_stay : (f f' : Finish) (x : Id) (n : ℕ) → Notes f f' x n → number_of f x ≡ None → Stay f f'
notes_stay f f' x n notes none y m is =
    elim (notes.others y) [
      | inl alike ↦ absurd (none-some m (sym none ∙ alike_number f x y alike ∙ is))
      | inr same ↦ same ∙ is
    ]

-- a lowering has no parts besides
abbrev IsAlone : Head RuntimeImportIndex OptionsId → PartList GraphPart → Type 0
IsAlone (head.Lowering r ty o) ps = ps ≡ list.Empty
IsAlone h ps = Unit {0}

pub lowering_alone : (x : Trampoline RuntimeImportIndex OptionsId MemoryId TableId CallbackId PostReturnId)
    → IsAlone (parts_of x).head (parts_of x).parts
unfolding parts_of
lowering_alone (trampoline.LowerImport r ty o) = refl
lowering_alone x = tt

module _ (f f' : Finish) (stay : Stay f f') where
  stay_all : (xs : List Id) → All (HasNumber f) xs → All (HasNumber f') xs
  stay_all xs all = All-weaker (HasNumber f) (HasNumber f') (λ x has. (has.0, stay x has.0 has.1)) xs all

  memory_stays : (m : Option MemoryId)
      → All (HasNumber f) (maybe_slot plan.memory (option_map (λ (k : MemoryId). k.0) m))
      → option_map (memory_in f') m ≡ option_map (memory_in f) m
  unfolding number_of
  memory_stays None all = refl
  memory_stays (Some m) all =
      let has = All-head (HasNumber f) (id.Memory m) [] all in
      ap (λ n. Some (record { 0 = unwrap_or n 0 })) (stay (id.Memory m) has.0 has.1 ∙ sym has.1)

  realloc_stays : (r : Option ReallocId)
      → All (HasNumber f) (maybe_slot plan.realloc (option_map (λ (k : ReallocId). k.0) r))
      → option_map (realloc_in f') r ≡ option_map (realloc_in f) r
  unfolding number_of
  realloc_stays None all = refl
  realloc_stays (Some r) all =
      let has = All-head (HasNumber f) (id.Realloc r) [] all in
      ap (λ n. Some (record { 0 = unwrap_or n 0 })) (stay (id.Realloc r) has.0 has.1 ∙ sym has.1)

  callback_stays : (c : Option CallbackId)
      → All (HasNumber f) (maybe_slot plan.callback (option_map (λ (k : CallbackId). k.0) c))
      → option_map (callback_in f') c ≡ option_map (callback_in f) c
  unfolding number_of
  callback_stays None all = refl
  callback_stays (Some c) all =
      let has = All-head (HasNumber f) (id.Callback c) [] all in
      ap (λ n. Some (record { 0 = unwrap_or n 0 })) (stay (id.Callback c) has.0 has.1 ∙ sym has.1)

  post_return_stays : (p : Option PostReturnId)
      → All (HasNumber f) (maybe_slot plan.post_return (option_map (λ (k : PostReturnId). k.0) p))
      → option_map (post_return_in f') p ≡ option_map (post_return_in f) p
  unfolding number_of
  post_return_stays None all = refl
  post_return_stays (Some p) all =
      let has = All-head (HasNumber f) (id.PostReturn p) [] all in
      ap (λ n. Some (record { 0 = unwrap_or n 0 })) (stay (id.PostReturn p) has.0 has.1 ∙ sym has.1)

  model_stays : (m : Model) → All (HasNumber f) (in_model (model_entry m)) → model_in f' m ≡ model_in f m
  model_stays model.Gc all = refl
  model_stays (model.LinearMemory m r) all =
      let ms = maybe_slot plan.memory (option_map (λ (k : MemoryId). k.0) m) in
      let rs = maybe_slot plan.realloc (option_map (λ (k : ReallocId). k.0) r) in
      ap (λ v. plan_model.LinearMemory (record { memory = v; realloc = option_map (realloc_in f') r }))
      (memory_stays m (all_left (HasNumber f) ms rs all))
      ∙ ap (λ v. plan_model.LinearMemory (record { memory = option_map (memory_in f) m; realloc = v }))
      (realloc_stays r (all_right (HasNumber f) ms rs all))

  -- options are converted as they were
  pub options_stay : (o : CanonicalOptions) → All (HasNumber f) (in_entry (options_entry o))
      → options_in f' o ≡ options_in f o
  options_stay o all =
      let ms = in_model (model_entry o.data_model) in
      let cs = maybe_slot plan.callback (option_map (λ (k : CallbackId). k.0) o.callback) in
      let ps = maybe_slot plan.post_return (option_map (λ (k : PostReturnId). k.0) o.post_return) in
      let front = all_left (HasNumber f) (ms ++ cs) ps all in
      let one = ap (λ v. record (options_in f' o) { data_model = v })
      (model_stays o.data_model (all_left (HasNumber f) ms cs front)) in
      let two = ap (λ v. record (options_in f' o) { data_model = model_in f o.data_model; callback = v })
      (callback_stays o.callback (all_right (HasNumber f) ms cs front)) in
      let three = ap (λ v. record (options_in f o) { post_return = v })
      (post_return_stays o.post_return (all_right (HasNumber f) (ms ++ cs) ps all)) in
      one ∙ two ∙ three

  part_stays : (p : GraphPart) → All (HasNumber f) (in_part (part_by graph_numbers p)) → part_in f' p ≡ part_in f p
  unfolding number_of
  part_stays (part.Memory m) all =
      let has = All-head (HasNumber f) (id.Memory m) [] all in
      ap (λ n. part.Memory (record { 0 = unwrap_or n 0 })) (stay (id.Memory m) has.0 has.1 ∙ sym has.1)
  part_stays (part.MaybeMemory m) all = ap (λ n. part.MaybeMemory n) (memory_stays m all)
  part_stays (part.Table t) all =
      let has = All-head (HasNumber f) (id.Table t) [] all in
      ap (λ n. part.Table (record { 0 = unwrap_or n 0 })) (stay (id.Table t) has.0 has.1 ∙ sym has.1)
  part_stays (part.Callback c) all = ap (λ n. part.Callback n) (callback_stays c all)
  part_stays (part.PostReturn p) all = ap (λ n. part.PostReturn n) (post_return_stays p all)
  part_stays (part.Options o) all =
      let has = All-head (HasNumber f) (id.Options o) [] all in
      ap (λ n. part.Options (record { 0 = unwrap_or n 0 })) (stay (id.Options o) has.0 has.1 ∙ sym has.1)
  part_stays (part.Type_ ty) all = refl
  part_stays (part.Number n) all = refl
  part_stays (part.Flag b) all = refl

  list_stays : (ps : PartList GraphPart)
      → All (HasNumber f) (flat_map in_part (map (part_by graph_numbers) (list_of ps))) → list_in f' ps ≡ list_in f ps
  list_stays list.Empty all = refl
  list_stays (list.One p) all =
      ap (λ x. list.One x) (part_stays p (all_left (HasNumber f) (in_part (part_by graph_numbers p)) [] all))
  list_stays (list.Two p q) all =
      let ps = in_part (part_by graph_numbers p) in
      let qs = in_part (part_by graph_numbers q) in
      let first = part_stays p (all_left (HasNumber f) ps (qs ++ []) all) in
      let second = part_stays q (all_left (HasNumber f) qs [] (all_right (HasNumber f) ps (qs ++ []) all)) in
      ap (λ x. list.Two x (part_in f' q)) first ∙ ap (λ x. list.Two (part_in f p) x) second

  -- a trampoline is converted as it was
  pub trampoline_as_before : (s : ModuleInternedTypeIndex) (t : TrampolineIndex) (k : TrampolineKind)
      (h : Head RuntimeImportIndex OptionsId) (ps : PartList GraphPart) → IsAlone h ps
      → All (HasNumber f) (in_trampoline t (entry_of graph_numbers s k h (list_of ps)))
      → parts_in f' t (record { kind = k; head = h; parts = ps })
      ≡ parts_in f t (record { kind = k; head = h; parts = ps })
  unfolding number_of
  trampoline_as_before s t k (head.Lowering r ty o) ps alone all =
      let low = All-head (HasNumber f) (id.Lowering t) (id.Options o ∷ []) all in
      let last = All-head (HasNumber f) (id.Options o) []
      (All-tail (HasNumber f) (id.Lowering t) (id.Options o ∷ []) all) in
      let lowered = ap (λ n. unwrap_or n 0) (stay (id.Lowering t) low.0 low.1 ∙ sym low.1) in
      let options = ap (λ n. unwrap_or n 0) (stay (id.Options o) last.0 last.1 ∙ sym last.1) in
      let parts = ap (list_in f') alone ∙ sym (ap (list_in f) alone) in
      λ i. record {
        kind = k;
        head = head.Lowering (record { 0 = lowered i }) ty (record { 0 = options i });
        parts = parts i;
      }
  trampoline_as_before s t k (head.Builtin c) ps alone all =
      ap (λ l. record { kind = k; head = head.Builtin c; parts = l }) (list_stays ps all)
  trampoline_as_before s t k h ps alone all =
      ap (λ l. record { kind = k; head = head_in f' t h; parts = l }) (list_stays ps all)

module _ (g : ComponentDfg) where
  unsigned_parts : (x : Id) → parts g (unsigned x) ≡ parts g x
  unfolding unsigned parts
  unsigned_parts (id.Memory n) = refl
  unsigned_parts y = refl

  -- what has one number depends on the same
  alike_parts : (x y : Id) → Alike x y → parts g x ≡ parts g y
  alike_parts x y alike = sym (unsigned_parts x) ∙ ap (parts g) alike ∙ unsigned_parts y

  -- what options depend on, where they are held
  pub options_parts : (k : ℕ) (x : CanonicalOptions) → slice_get g.options k ≡ Some x
      → parts g (options_id k) ≡ in_entry (options_entry x)
  unfolding parts
  options_parts k x at = ap (each_of (λ y. in_entry (options_entry y))) at

  -- what a trampoline depends on, where it is held
  pub copied_parts : (t : ℕ) (x : SignedTrampoline) → slice_get g.trampolines t ≡ Some x
      → parts g (id.Trampoline (record { 0 = t })) ≡ in_trampoline (record { 0 = t }) (trampoline_entry x)
  unfolding parts
  copied_parts t x at = ap (each_of (λ y. in_trampoline (record { 0 = t }) (trampoline_entry y))) at

  module _ (f f' : Finish) (stay : Stay f f') (is : Represents g f) where
    -- what depends on what was numbered still does
    parts_more : (x : Id) (n : ℕ) → Notes f f' x n → All (HasNumber f) (parts g x) → (y : Id) → HasNumber f' y
        → All (HasNumber f') (parts g y)
    parts_more x n notes all y has =
        elim (notes.others y) [
          | inl alike ↦ stay_all f f' stay (parts g y) (subst (All (HasNumber f)) (alike_parts x y alike) all)
          | inr same ↦ stay_all f f' stay (parts g y) (is.parts y (has.0, sym same ∙ has.1))
        ]

    -- and the trampolines that it depends on are named
    named_more : (x : Id) (n : ℕ) → Notes f f' x n → All (HasNumber f) (parts g x) → Keeps f.steps f'.steps
        → AreNamed f f'.steps (parts g x) → (y : Id) → HasNumber f' y → AreNamed f' f'.steps (parts g y)
    named_more x n notes all keeps new y has =
        elim (notes.others y) [
          | inl alike ↦ subst (AreNamed f' f'.steps) (alike_parts x y alike)
              (named_still f f' stay f'.steps (parts g x) all new)
          | inr same ↦
              let had : HasNumber f y = (has.0, sym same ∙ has.1) in
              named_later f f' stay keeps (parts g y) (is.parts y had) (is.named y had)
        ]

    -- an entry stays that of the graph
    entry_stays : (options : (n : ℕ) (o : _) → slice_get f.options n ≡ Some o → slice_get f'.options n ≡ Some o)
        → (k n : ℕ) → number_at f.numbers.options k ≡ Some n → IsEntryOf g f' k n
    unfolding number_of
    entry_stays options k n at =
        let e = is.options k n at in
        let all = subst (All (HasNumber f)) (options_parts k e.entry e.at) (is.parts (options_id k) (n, at)) in
        record {
          entry = e.entry;
          at = e.at;
          there =
              options n (options_in f e.entry) e.there ∙ ap (λ o. Some o) (sym (options_stay f f' stay e.entry all));
        }

    -- a trampoline stays that of the graph
    trampoline_stays :
        (made : (n : ℕ) (t : _) → slice_get f.trampolines n ≡ Some t → slice_get f'.trampolines n ≡ Some t)
        → (signed : (n : ℕ) (s : _) → slice_get f.signatures n ≡ Some s → slice_get f'.signatures n ≡ Some s)
        → (t n : ℕ) → number_at f.numbers.trampolines t ≡ Some n → IsCopyOf g f' t n
    unfolding number_of
    trampoline_stays made signed t n at =
        let e = is.trampolines t n at in
        let x = id.Trampoline (record { 0 = t }) in
        let made_of = parts_of e.entry.1 in
        record {
          entry = e.entry;
          at = e.at;
          signature = signed n e.entry.0 e.signature;
          made = e.made;
          there = made n e.made e.there;
          is = e.is ∙ sym (trampoline_as_before f f' stay e.entry.0 (record { 0 = t }) made_of.kind made_of.head
              made_of.parts (lowering_alone e.entry.1)
              (subst (All (HasNumber f)) (copied_parts t e.entry e.at) (is.parts x (n, at))));
        }

    -- neither options nor trampolines were added
    pub represents_still : (x : Id) (n : ℕ) → Notes f f' x n → All (HasNumber f) (parts g x)
        → f'.options ≡ f.options → f'.trampolines ≡ f.trampolines → f'.signatures ≡ f.signatures
        → f'.numbers.options ≡ f.numbers.options → f'.numbers.trampolines ≡ f.numbers.trampolines → AreSigned g f'
        → Keeps f.steps f'.steps → AreNamed f f'.steps (parts g x) → Represents g f'
    represents_still x n notes all os ts ss options trampolines signed keeps new = record {
      intrinsics = signed;
      named = named_more x n notes all keeps new;
      parts = parts_more x n notes all;
      options = λ k m at.
          entry_stays (λ i o here. ap (λ l. slice_get l i) os ∙ here) k m (ap (λ l. number_at l k) (sym options) ∙ at);
      trampolines = λ t m at.
          trampoline_stays (λ i y here. ap (λ l. slice_get l i) ts ∙ here) (λ i s here. ap (λ l. slice_get l i) ss
          ∙ here) t m
          (ap (λ l. number_at l t) (sym trampolines) ∙ at);
    }

  -- a slot was added
  pub represents_slot : (f : Finish) → Represents g f → (k : plan.SlotKind) (n : ℕ) (i : GlobalInitializer)
      → n < length (slot_numbers f k) → number_of f (slot_id k n) ≡ None → All (HasNumber f) (parts g (slot_id k n))
      → AreNamed f (f.steps ++ i ∷ []) (parts g (slot_id k n)) → Represents g (add_slot k n i f)
  represents_slot f is plan.memory n i within none all new =
      let noted = slot_noted f plan.memory n i within in
      let stay = notes_stay f (add_slot plan.memory n i f) (slot_id plan.memory n) f.counts.memories noted none in
      represents_still f (add_slot plan.memory n i f) stay is
      (slot_id plan.memory n) f.counts.memories noted all refl refl
      refl refl refl is.intrinsics (names_front f.steps (i ∷ [])) new
  represents_slot f is k n i within none all new =
      let noted = slot_noted f k n i within in
      let stay = notes_stay f (add_slot k n i f) (slot_id k n) (slot_count f k) noted none in
      represents_still f (add_slot k n i f) stay is (slot_id k n) (slot_count f k) noted all refl refl refl refl
      refl is.intrinsics (names_front f.steps (i ∷ [])) new

  module _ (f : Finish) (is : Represents g f) (fits : Fits g f) where
    -- options were added
    pub represents_options : (k : ℕ) (x : CanonicalOptions) → slice_get g.options k ≡ Some x
        → number_at f.numbers.options k ≡ None → All (HasNumber f) (parts g (options_id k))
        → Represents g (add_options k (options_in f x) f)
    unfolding number_of
    represents_options k x at none all =
        let after = add_options k (options_in f x) f in
        let within : k < length f.numbers.options =
        subst (λ n. k < n) (sym fits.options) (slice_get_within g.options k x at) in
        let notes = options_noted f k (options_in f x) within in
        let stay = notes_stay f after (options_id k) (length f.options) notes none in
        let same = options_stay f after stay x (subst (All (HasNumber f)) (options_parts k x at) all) in
        record {
          intrinsics = is.intrinsics;
          parts = parts_more f after stay is (options_id k) (length f.options) notes all;
          named = named_more f after stay is (options_id k) (length f.options) notes all (λ n named. named)
              (subst (AreNamed f f.steps) (sym (options_parts k x at)) (entry_named f f.steps (options_entry x)));
          options = λ j n numbered. elim (number_back f.numbers.options k (length f.options) within j n numbered)
              as (λ _. IsEntryOf g after j n) [
                | inl last ↦ record {
                  entry = x;
                  at = ap (slice_get g.options) (sym last.0) ∙ at;
                  there = ap (slice_get after.options) (sym last.1)
                      ∙ slice_get-append_seam f.options (options_in f x) [] ∙ ap (λ o. Some o) (sym same);
                }
                | inr before ↦ entry_stays f after stay is
                    (λ i o here. slice_get-append f.options (options_in f x ∷ []) i o here) j n before
              ];
          trampolines = trampoline_stays f after stay is (λ i y here. here) (λ i s here. here);
        }

    -- a trampoline was added
    pub represents_trampoline : (k : ℕ) (x : SignedTrampoline) (y : PlanTrampoline) → slice_get g.trampolines k ≡ Some x
        → parts_of y ≡ parts_in f (record { 0 = k }) (parts_of x.1) → number_at f.numbers.trampolines k ≡ None
        → All (HasNumber f) (parts g (id.Trampoline (record { 0 = k }))) → Represents g (add_trampoline k x.0 y f)
    unfolding number_of
    represents_trampoline k x y at made none all =
        let after = add_trampoline k x.0 y f in
        let id_k = id.Trampoline (record { 0 = k }) in
        let within : k < length f.numbers.trampolines =
        subst (λ n. k < n) (sym fits.trampolines) (slice_get_within g.trampolines k x at) in
        let notes = trampoline_noted f k x.0 y within in
        let stay = notes_stay f after id_k (length f.trampolines) notes none in
        let made_of = parts_of x.1 in
        let same = trampoline_as_before f after stay x.0 (record { 0 = k }) made_of.kind made_of.head made_of.parts
        (lowering_alone x.1) (subst (All (HasNumber f)) (copied_parts k x at) all) in
        let signature = ap (slice_get after.signatures) (sym fits.signatures)
        ∙ slice_get-append_seam f.signatures x.0 [] in
        record {
          intrinsics = is.intrinsics;
          parts = parts_more f after stay is id_k (length f.trampolines) notes all;
          named = named_more f after stay is id_k (length f.trampolines) notes all (λ n named. named)
              (subst (AreNamed f f.steps) (sym (copied_parts k x at))
              (trampoline_named f f.steps (record { 0 = k }) (trampoline_entry x)));
          options = entry_stays f after stay is (λ i o here. here);
          trampolines =
              λ t n numbered. elim (number_back f.numbers.trampolines k (length f.trampolines) within t n numbered)
              as (λ _. IsCopyOf g after t n) [
                | inl last ↦ subst (λ i. IsCopyOf g after i n) last.0
                    (subst (IsCopyOf g after k) last.1 (record {
                      entry = x;
                      at = at;
                      signature = signature;
                      made = y;
                      there = slice_get-append_seam f.trampolines y [];
                      is = made ∙ sym same;
                    }))
                | inr before ↦ trampoline_stays f after stay is
                    (λ i z here. slice_get-append f.trampolines (y ∷ []) i z here)
                    (λ i s here. slice_get-append f.signatures (x.0 ∷ []) i s here) t n before
              ];
        }

    -- a plan with other steps, core instances and resources
    abbrev pub aside : List GlobalInitializer → List RuntimeInstanceIndex → Counts → List RuntimeComponentInstanceIndex
        → Finish
    aside steps instances counts resources =
        record f { steps = steps; instances = instances; counts = counts; resources = resources }

    aside_number : (steps : List GlobalInitializer) (instances : List RuntimeInstanceIndex) (counts : Counts)
        (resources : List RuntimeComponentInstanceIndex) (y : Id)
        → number_of (aside steps instances counts resources) y ≡ number_of f y
    unfolding number_of
    aside_number steps instances counts resources (id.Memory n) = refl
    aside_number steps instances counts resources y = refl

    -- what has no number changes nothing
    pub represents_aside : (steps : List GlobalInitializer) (instances : List RuntimeInstanceIndex) (counts : Counts)
        (resources : List RuntimeComponentInstanceIndex) → Keeps f.steps steps
        → Represents g (aside steps instances counts resources)
    represents_aside steps instances counts resources keeps =
        let after = aside steps instances counts resources in
        let same = aside_number steps instances counts resources in
        let stay : Stay f after = λ y n at. same y ∙ at in
        record {
          intrinsics = is.intrinsics;
          parts = λ y has. stay_all f after stay (parts g y) (is.parts y (has.0, sym (same y) ∙ has.1));
          named = λ y has.
              let had : HasNumber f y = (has.0, sym (same y) ∙ has.1) in
              named_later f after stay keeps (parts g y) (is.parts y had) (is.named y had);
          options = entry_stays f after stay is (λ i o here. here);
          trampolines = trampoline_stays f after stay is (λ i z here. here) (λ i s here. here);
        }
