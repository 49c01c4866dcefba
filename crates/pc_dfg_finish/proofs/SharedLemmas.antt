-- No options entry of a plan stands twice.
use Rattle.std.proofs.Common.{◌≡◌, ◌++◌, ℕ, List, [], All, Option, None, Some, option_map, refl, sym, ap, subst, ◌∙◌}
use Rattle.std.specs.Prelude.{unwrap_or}
use Rattle.std.proofs.lemmas.List.Elements.{All-head}
use Rattle.std.proofs.lemmas.Option.{none-some, same_Some, slice_get_within}
use Rattle.pc_entity.specs.Lists.{AreDistinct}
use Rattle.pc_dfg.specs.declared.ids.CallbackId.{CallbackId}
use Rattle.pc_dfg.specs.declared.ids.MemoryId.{MemoryId}
use Rattle.pc_dfg.specs.declared.ids.PostReturnId.{PostReturnId}
use Rattle.pc_dfg.specs.declared.ids.ReallocId.{ReallocId}
use Rattle.pc_numbers.specs.declared.runtime.RuntimeMemoryIndex.{RuntimeMemoryIndex}
use Rattle.pc_numbers.specs.declared.runtime.RuntimeReallocIndex.{RuntimeReallocIndex}
use Rattle.pc_spec_plan.specs.PlanView as plan
use Rattle.pc_info.specs.declared.options.CanonicalOptionsDataModel.{CanonicalOptionsDataModel as PlanModel}
use Rattle.pc_info.specs.declared.options.CanonicalOptionsDataModel.TheVariants as plan_model
use Rattle.pc_dfg.specs.declared.dfg.ComponentDfg.{ComponentDfg}
use Rattle.pc_dfg.specs.declared.options.CanonicalOptions.{CanonicalOptions}
use Rattle.pc_dfg.specs.declared.options.CanonicalOptionsDataModel.{CanonicalOptionsDataModel as Model}
use Rattle.pc_dfg.specs.declared.options.CanonicalOptionsDataModel.TheVariants as model
use Rattle.pc_dfg.specs.Numbers.{model_entry, options_entry}
use Rattle.pc_dfg_linearize.specs.declared.id.Id.TheVariants as id
use Rattle.pc_dfg_linearize.specs.declared.state.Finish.{Finish}
use Rattle.pc_dfg_linearize.specs.Entries.{callback_in, memory_in, model_in, options_in, post_return_in, realloc_in}
use Rattle.pc_dfg_linearize.specs.Numbers.{number_at, numbered}
use Rattle.pc_dfg_linearize.specs.Once.{AreGiven, Fills}
use Rattle.pc_dfg_linearize.specs.Parts.{HasNumber, in_entry, in_model, maybe_slot, number_of, options_id}
use Rattle.pc_dfg_linearize.specs.Represented.{Represents}
use Rattle.pc_dfg_linearize.proofs.PartLemmas.{all_left, all_right}
use Rattle.pc_dfg_linearize.proofs.RepresentedLemmas.{options_parts}

-- one number is that of one entry
pub one_entry : (ns : List (Option ℕ)) (count : ℕ) → AreGiven (number_at ns) count → (a b n m : ℕ)
    → number_at ns a ≡ Some n
    → number_at ns b ≡ Some m → numbered ns a ≡ numbered ns b → a ≡ b
one_entry ns count given a b n m at at' same =
    let one = ap (λ o. unwrap_or o 0) (sym at) ∙ same ∙ ap (λ o. unwrap_or o 0) at' in
    given.once a b n at (at' ∙ ap (λ k. Some k) (sym one))

-- what has one image is one, where it is so for what is there
pub one_maybe : {K V : Type 0} (f : K → V) (P : Option K → Type 0)
    → ((a b : K) → P (Some a) → P (Some b) → f a ≡ f b → a ≡ b) → (o p : Option K) → P o → P p
    → option_map f o ≡ option_map f p → o ≡ p
one_maybe f P one None None a b same = refl
one_maybe f P one None (Some y) a b same = absurd (none-some (f y) same)
one_maybe f P one (Some x) None a b same = absurd (none-some (f x) (sym same))
one_maybe f P one (Some x) (Some y) a b same = ap (λ k. Some k) (one x y a b (same_Some (f x) (f y) same))

-- the slots of memory and realloc of a plan's model
abbrev memory_of : PlanModel → Option RuntimeMemoryIndex
memory_of plan_model.Gc = None
memory_of (plan_model.LinearMemory o) = o.memory

abbrev realloc_of : PlanModel → Option RuntimeReallocIndex
realloc_of plan_model.Gc = None
realloc_of (plan_model.LinearMemory o) = o.realloc

module _ (f : Finish) (fills : Fills f) where
  pub one_memory : (a b : MemoryId) → All (HasNumber f) (maybe_slot plan.memory (Some a.0))
      → All (HasNumber f) (maybe_slot plan.memory (Some b.0)) → memory_in f a ≡ memory_in f b → a ≡ b
  unfolding number_of
  one_memory a b has has' same =
      let x = All-head (HasNumber f) (id.Memory a) [] has in
      let y = All-head (HasNumber f) (id.Memory b) [] has' in
      let one = one_entry f.numbers.memories f.counts.memories (fills.slots plan.memory) a.0 b.0 x.0 y.0 x.1 y.1
      (ap (λ i. i.0) same) in
      ap (λ k. record { 0 = k }) one

  one_realloc : (a b : ReallocId) → All (HasNumber f) (maybe_slot plan.realloc (Some a.0))
      → All (HasNumber f) (maybe_slot plan.realloc (Some b.0)) → realloc_in f a ≡ realloc_in f b → a ≡ b
  unfolding number_of
  one_realloc a b has has' same =
      let x = All-head (HasNumber f) (id.Realloc a) [] has in
      let y = All-head (HasNumber f) (id.Realloc b) [] has' in
      let one = one_entry f.numbers.reallocs f.counts.reallocs (fills.slots plan.realloc) a.0 b.0 x.0 y.0 x.1 y.1
      (ap (λ i. i.0) same) in
      ap (λ k. record { 0 = k }) one

  pub one_callback : (a b : CallbackId) → All (HasNumber f) (maybe_slot plan.callback (Some a.0))
      → All (HasNumber f) (maybe_slot plan.callback (Some b.0)) → callback_in f a ≡ callback_in f b → a ≡ b
  unfolding number_of
  one_callback a b has has' same =
      let x = All-head (HasNumber f) (id.Callback a) [] has in
      let y = All-head (HasNumber f) (id.Callback b) [] has' in
      let one = one_entry f.numbers.callbacks f.counts.callbacks (fills.slots plan.callback) a.0 b.0 x.0 y.0 x.1 y.1
      (ap (λ i. i.0) same) in
      ap (λ k. record { 0 = k }) one

  pub one_post_return : (a b : PostReturnId) → All (HasNumber f) (maybe_slot plan.post_return (Some a.0))
      → All (HasNumber f) (maybe_slot plan.post_return (Some b.0)) → post_return_in f a ≡ post_return_in f b → a ≡ b
  unfolding number_of
  one_post_return a b has has' same =
      let x = All-head (HasNumber f) (id.PostReturn a) [] has in
      let y = All-head (HasNumber f) (id.PostReturn b) [] has' in
      let one =
      one_entry f.numbers.post_returns f.counts.post_returns (fills.slots plan.post_return) a.0 b.0 x.0 y.0 x.1
      y.1 (ap (λ i. i.0) same) in
      ap (λ k. record { 0 = k }) one

  -- what a maybe left out slot depends on has its number
  abbrev pub Memories : Option MemoryId → Type 0
  Memories m = All (HasNumber f) (maybe_slot plan.memory (option_map (λ (k : MemoryId). k.0) m))

  abbrev Reallocs : Option ReallocId → Type 0
  Reallocs r = All (HasNumber f) (maybe_slot plan.realloc (option_map (λ (k : ReallocId). k.0) r))

  abbrev pub Callbacks : Option CallbackId → Type 0
  Callbacks c = All (HasNumber f) (maybe_slot plan.callback (option_map (λ (k : CallbackId). k.0) c))

  abbrev pub PostReturns : Option PostReturnId → Type 0
  PostReturns p = All (HasNumber f) (maybe_slot plan.post_return (option_map (λ (k : PostReturnId). k.0) p))

  one_model : (a b : Model) → All (HasNumber f) (in_model (model_entry a))
      → All (HasNumber f) (in_model (model_entry b))
      → model_in f a ≡ model_in f b → a ≡ b
  one_model model.Gc model.Gc has has' same = refl
  one_model model.Gc (model.LinearMemory m r) has has' same = absurd (cc same)
  one_model (model.LinearMemory m r) model.Gc has has' same = absurd (cc same)
  one_model (model.LinearMemory m r) (model.LinearMemory n s) has has' same =
      let left = λ (i : Option MemoryId) (j : Option ReallocId). all_left (HasNumber f)
      (maybe_slot plan.memory (option_map (λ (k : MemoryId). k.0) i))
      (maybe_slot plan.realloc (option_map (λ (k : ReallocId). k.0) j)) in
      let right = λ (i : Option MemoryId) (j : Option ReallocId). all_right (HasNumber f)
      (maybe_slot plan.memory (option_map (λ (k : MemoryId). k.0) i))
      (maybe_slot plan.realloc (option_map (λ (k : ReallocId). k.0) j)) in
      let memory = one_maybe (memory_in f) Memories one_memory m n (left m r has) (left n s has') (ap memory_of same) in
      let realloc =
      one_maybe (realloc_in f) Reallocs one_realloc r s (right m r has) (right n s has') (ap realloc_of same) in
      ap (λ v. model.LinearMemory v r) memory ∙ ap (λ v. model.LinearMemory n v) realloc

  one_options : (x y : CanonicalOptions) → All (HasNumber f) (in_entry (options_entry x))
      → All (HasNumber f) (in_entry (options_entry y)) → options_in f x ≡ options_in f y → x ≡ y
  one_options x y has has' same =
      let ms = λ (o : CanonicalOptions). in_model (model_entry o.data_model) in
      let cs = λ (o : CanonicalOptions). maybe_slot plan.callback (option_map (λ (k : CallbackId). k.0) o.callback) in
      let ps = λ (o : CanonicalOptions).
      maybe_slot plan.post_return (option_map (λ (k : PostReturnId). k.0) o.post_return) in
      let front = λ (o : CanonicalOptions) (all : All (HasNumber f) (in_entry (options_entry o))).
      all_left (HasNumber f) (ms o ++ cs o) (ps o) all in
      let callback = one_maybe (callback_in f) Callbacks one_callback x.callback y.callback
      (all_right (HasNumber f) (ms x) (cs x) (front x has)) (all_right (HasNumber f) (ms y) (cs y) (front y has'))
      (ap (λ o. o.callback) same) in
      let post_return = one_maybe (post_return_in f) PostReturns one_post_return x.post_return y.post_return
      (all_right (HasNumber f) (ms x ++ cs x) (ps x) has) (all_right (HasNumber f) (ms y ++ cs y) (ps y) has')
      (ap (λ o. o.post_return) same) in
      let model = one_model x.data_model y.data_model (all_left (HasNumber f) (ms x) (cs x) (front x has))
      (all_left (HasNumber f) (ms y) (cs y) (front y has')) (ap (λ o. o.data_model) same) in
      ap (λ v. record x { instance = v }) (ap (λ o. o.instance) same)
      ∙ ap (λ v. record x { instance = y.instance; string_encoding = v }) (ap (λ o. o.string_encoding) same)
      ∙ ap (λ v. record y {
        callback = v;
        post_return = x.post_return;
        async_ = x.async_;
        core_type = x.core_type;
        data_model = x.data_model;
      }) callback
      ∙ ap (λ v. record y { post_return = v; async_ = x.async_; core_type = x.core_type; data_model = x.data_model })
      post_return
      ∙ ap (λ v. record y { async_ = v; core_type = x.core_type; data_model = x.data_model }) (ap (λ o. o.async_) same)
      ∙ ap (λ v. record y { core_type = v; data_model = x.data_model }) (ap (λ o. o.core_type) same)
      ∙ ap (λ v. record y { data_model = v }) model

-- no options entry of the plan stands twice, where none of the graph does
pub shared_options : (g : ComponentDfg) (f : Finish) → Represents g f → Fills f → AreDistinct g.options
    → AreDistinct f.options
unfolding number_of
shared_options g f is fills distinct i j o at at' =
    let k = fills.options.given i (slice_get_within f.options i o at) in
    let l = fills.options.given j (slice_get_within f.options j o at') in
    let a = is.options k.0 i k.1 in
    let b = is.options l.0 j l.1 in
    let has = subst (All (HasNumber f)) (options_parts g k.0 a.entry a.at) (is.parts (options_id k.0) (i, k.1)) in
    let has' = subst (All (HasNumber f)) (options_parts g l.0 b.entry b.at) (is.parts (options_id l.0) (j, l.1)) in
    let image = same_Some (options_in f a.entry) (options_in f b.entry) (sym a.there ∙ at ∙ sym at' ∙ b.there) in
    let entry = one_options f fills a.entry b.entry has has' image in
    let place = distinct k.0 l.0 a.entry a.at (b.at ∙ ap (λ x. Some x) (sym entry)) in
    same_Some i j (sym k.1 ∙ ap (number_at f.numbers.options) place ∙ l.1)
