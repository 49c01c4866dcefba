-- What an import is given, as is found and in the plan's words.
use Rattle.std.proofs.Common.{◌≡◌, ◌⊎◌, ℕ, Bool, true, false, ◌&&◌, List, [], inl, inr, length, Some, None, Option}
use Rattle.std.proofs.Common.{refl, sym, ap, subst, ◌∙◌, true≢false, unwrap_or}
use Rattle.std.specs.Prelude.{◌↔◌, slice_get, map, option_map, not, if◌then◌else◌}
use Rattle.std.proofs.lemmas.Option.{none-some, same_Some, slice_get-map, slice_get_within}
use Rattle.pc_entity.proofs.Elements.{and_true, bool_cases, true_and}
use Rattle.pc_types.specs.declared.module_record.ModuleRecord.{ModuleRecord}
use Rattle.pc_types.specs.declared.parsed.CoreKind.{CoreKind}
use Rattle.pc_types.specs.declared.parsed.CoreKind.TheVariants as kind
use Rattle.pc_types.specs.Record.{entity_at, import_place, same_kind}
use Rattle.pc_spec_plan.specs.PlanView as plan
use Rattle.pc_info.specs.declared.component.ComponentTranslation.{ComponentTranslation}
use Rattle.pc_info.specs.declared.core_def.CoreDef.{CoreDef}
use Rattle.pc_info.specs.Definitions.{def_view}
use Rattle.pc_info.specs.Standing.{steps_in}
use Rattle.pc_spec_wiring.specs.Known.{IsAmbiguous, IsGiven, IsKnown, Known, Refers, a_defined}
use Rattle.pc_spec_wiring.specs.Known.{holds_data, known_kind, the_flags}
use Rattle.pc_dfg.specs.declared.instantiations.AbstractInstantiations.{AbstractInstantiations}
use Rattle.pc_dfg.specs.declared.instantiations.AbstractInstantiations.TheVariants as abstract
use Rattle.pc_analysis_imports.specs.declared.source.Source.{Source}
use Rattle.pc_analysis_imports.specs.declared.source.Source.TheVariants as source
use Rattle.pc_analysis_imports.specs.Exported.{is_exported_in}
use Rattle.pc_analysis_imports.specs.Followed.{source_of}
use Rattle.pc_analysis_imports.specs.Found.{plan_instances, plan_marks}
use Rattle.pc_analysis_imports.specs.Imports.{always_given, import_source, source_at}
use Rattle.pc_dfg.specs.Instantiations as inst
use Rattle.pc_dfg.specs.Instantiations.{joined, known_of}
use Rattle.pc_analysis_imports.specs.Known.{CanBeFollowed}
use Rattle.pc_analysis_imports.specs.Marks.{Marks}
use Rattle.pc_analysis_imports.specs.Ways.{AreWays, IsWay, given_to}
use Rattle.pc_analysis_imports.proofs.AmbiguousLemmas.{ambiguous_if_shown, args_seen, shown_if_ambiguous, told_given, way_at}
use Rattle.pc_analysis_imports.proofs.FoldLemmas.{contained}
use Rattle.pc_analysis_imports.proofs.FollowedLemmas.{Tells, known_in}
use Rattle.pc_analysis_imports.proofs.MarkLemmas.{CanMark, an_entity, is_marked, marked_by, some_flags}
use Rattle.pc_analysis_imports.proofs.OneWayLemmas.{found_if_one, one_if_found}
use Rattle.pc_analysis_imports.proofs.OriginLemmas.{refers_as}

-- kinds that are told to be the same are
pub same_kind_is : (a b : CoreKind) → same_kind a b ≡ true → b ≡ a
same_kind_is kind.Func kind.Func h = refl
same_kind_is kind.Table kind.Table h = refl
same_kind_is kind.Memory kind.Memory h = refl
same_kind_is kind.Global kind.Global h = refl
same_kind_is kind.Tag kind.Tag h = refl
same_kind_is a b h = absurd (true≢false (sym h))

pub same_kind_itself : (a : CoreKind) → same_kind a a ≡ true
same_kind_itself kind.Func = refl
same_kind_itself kind.Table = refl
same_kind_itself kind.Memory = refl
same_kind_itself kind.Global = refl
same_kind_itself kind.Tag = refl

-- what an import of a kind is known to be: what it is given, if that is of the kind and isn't marked
abbrev pub plain_if : Marks → CoreKind → Option Known → Option Known
plain_if a k None = None
plain_if a k (Some x) = if same_kind k (known_kind x) && not (is_marked a x) then Some x else None

not_false : (b : Bool) → b ≡ false → not b ≡ true
not_false b h = ap not h

pub not_true : (b : Bool) → not b ≡ true → b ≡ false
not_true true h = absurd (true≢false (sym h))
not_true false h = refl

pub plain_is : (a : Marks) (k : CoreKind) (o : Option Known) (x : Known) → plain_if a k o ≡ Some x
    → (o ≡ Some x) × (known_kind x ≡ k) × (is_marked a x ≡ false)
plain_is a k None x h = absurd (none-some x h)
plain_is a k (Some y) x h = by (same_kind k (known_kind y) && not (is_marked a y)) refl h
  where
    by : (b : Bool) → (same_kind k (known_kind y) && not (is_marked a y)) ≡ b → (if b then Some y else None) ≡ Some x
        → (Some y ≡ Some x) × (known_kind x ≡ k) × (is_marked a x ≡ false)
    by true is h =
        let both = and_true (same_kind k (known_kind y)) (not (is_marked a y)) is in
        let same : y ≡ x = same_Some y x h in (
          h,
          sym (ap known_kind same) ∙ same_kind_is k (known_kind y) both.0,
          sym (ap (is_marked a) same) ∙ not_true (is_marked a y) both.1,
        )
    by false is h = absurd (none-some x h)

pub is_plain : (a : Marks) (k : CoreKind) (o : Option Known) (x : Known) → o ≡ Some x → known_kind x ≡ k
    → is_marked a x ≡ false → plain_if a k o ≡ Some x
is_plain a k o x is same unmarked =
    ap (plain_if a k) is
    ∙ ap (λ b. if b then Some x else None)
    (true_and (same_kind k (known_kind x)) (not (is_marked a x))
    (ap (same_kind k) same ∙ same_kind_itself k) (not_false (is_marked a x) unmarked))

module _ (p : ComponentTranslation) (records : List ModuleRecord) (ok : CanBeFollowed records (steps_in p))
    (ways : List AbstractInstantiations) (ways_count : length ways ≡ length records)
    (are_ways : AreWays (is_exported_in p.component.export_items) p.component.initializers ways) where
  abbrev exported : ℕ → Bool
  exported = is_exported_in p.component.export_items

  abbrev marks : Marks
  marks = plan_marks p records ways

  abbrev source_in : CoreDef → Source
  source_in = source_of records (plan_instances p records)

  abbrev Given : (m : ℕ) → CoreKind → (n : ℕ) → plan.Definition → Type 0
  Given = IsGiven records (steps_in p) exported

  abbrev pub found_source : (m : ℕ) → ModuleRecord → CoreKind → (n : ℕ) → Source
  found_source m r k n =
      import_source r (always_given records (plan_instances p records) (slice_get ways m)) (entity_at k n)

  always_one : (w : AbstractInstantiations) (a : List CoreDef) → known_of w ≡ inst.one a
      → always_given records (plan_instances p records) (Some w) ≡ map source_in a
  always_one abstract.Many a h = absurd (none-some a (ap args_seen h))
  always_one (abstract.One args) a h = ap (map source_in) (same_Some args.now a (ap args_seen h))
  always_one abstract.None a h = absurd (none-some a (ap args_seen h))

  -- what is given is told
  pub given_told : (m : ℕ) (r : ModuleRecord) (k : CoreKind) (n : ℕ) (d : plan.Definition)
      → slice_get records m ≡ Some r → Given m k n d → Tells records (steps_in p) exported d (found_source m r k n)
  given_told m r k n d at g =
      let way = way_at p records ok ways ways_count are_ways m (slice_get_within records m r at) in
      let way_is = are_ways m way.0 way.1 in
      let found = found_if_one records p.component.initializers exported m way.0 way_is g.args g.one_way in
      let is_way = subst (IsWay (exported m) (given_to m p.component.initializers)) found.1 way_is in
      let same : g.core_module ≡ r = same_Some g.core_module r (sym g.is ∙ at) in
      let place : import_place r (entity_at k n) ≡ Some g.place =
      sym (ap (λ (x : ModuleRecord). import_place x (entity_at k n)) same) ∙ g.imports in
      let there = sym (slice_get-map def_view found.0 g.place)
      ∙ ap (λ l. slice_get l g.place) found.2 ∙ g.gets in
      let b = behind found.0 g.place there in
      let is : found_source m r k n ≡ source_in b.0 =
      ap (λ o. source_at (always_given records (plan_instances p records) o) (import_place r (entity_at k n))) way.1
      ∙ (λ z. source_at (always_one way.0 found.0 found.1 z) (place z))
      ∙ ap (λ o. unwrap_or o source.Unknown)
      (slice_get-map source_in found.0 g.place ∙ ap (option_map source_in) b.1) in
      let tells =
      told_given p records ok ways ways_count are_ways m found.0 is_way.1 b.0 (contained found.0 g.place b.0 b.1) in
      subst (λ s. Tells records (steps_in p) exported d s) (sym is)
      (subst (λ e. Tells records (steps_in p) exported e (source_in b.0)) b.2 tells)
    where
      behind : (a : List CoreDef) (place : ℕ) → option_map def_view (slice_get a place) ≡ Some d
          → (b : CoreDef) × (slice_get a place ≡ Some b) × (def_view b ≡ d)
      behind a place h = by (slice_get a place) refl h
        where
          by : (o : Option CoreDef) → slice_get a place ≡ o → option_map def_view o ≡ Some d
              → (b : CoreDef) × (slice_get a place ≡ Some b) × (def_view b ≡ d)
          by None is h = absurd (none-some d h)
          by (Some b) is h = (b, is, same_Some (def_view b) d h)

  -- what is found is given, or nothing is found
  pub told_given_or_none : (m : ℕ) (r : ModuleRecord) (k : CoreKind) (n : ℕ) → slice_get records m ≡ Some r
      → (found_source m r k n ≡ source.Unknown)
      ⊎ ((d : plan.Definition) × Given m k n d × Tells records (steps_in p) exported d (found_source m r k n))
  told_given_or_none m r k n at = by (slice_get ways m) refl
    where
      none_at : (o : Option ℕ) → source_at [] o ≡ source.Unknown
      none_at None = refl
      none_at (Some place) = refl

      placed_at : (w : AbstractInstantiations) (a : List CoreDef) → slice_get ways m ≡ Some w → known_of w ≡ inst.one a
          → (o : Option ℕ) → import_place r (entity_at k n) ≡ o
          → (source_at (map source_in a) o ≡ source.Unknown)
          ⊎ ((d : plan.Definition) × Given m k n d
          × Tells records (steps_in p) exported d (source_at (map source_in a) o))
      placed_at w a way is None none = inl refl
      placed_at w a way is (Some place) there = argument (slice_get a place) refl
        where
          argument : (b : Option CoreDef) → slice_get a place ≡ b
              → (source_at (map source_in a) (Some place) ≡ source.Unknown)
              ⊎ ((d : plan.Definition) × Given m k n d
              × Tells records (steps_in p) exported d (source_at (map source_in a) (Some place)))
          argument None none =
              inl (ap (λ o. unwrap_or o source.Unknown)
              (slice_get-map source_in a place ∙ ap (option_map source_in) none))
          argument (Some b) here =
              let way_is = are_ways m w way in
              let is_way = subst (IsWay (exported m) (given_to m p.component.initializers)) is way_is in
              let found = one_if_found records p.component.initializers exported m w way_is a is in
              let given : Given m k n (def_view b) = record {
                core_module = r;
                args = map def_view a;
                place = place;
                is = at;
                one_way = found;
                imports = there;
                gets = slice_get-map def_view a place ∙ ap (option_map def_view) here;
              } in
              let same : source_at (map source_in a) (Some place) ≡ source_in b =
              ap (λ o. unwrap_or o source.Unknown)
              (slice_get-map source_in a place ∙ ap (option_map source_in) here) in
              inr (
                def_view b,
                given,
                subst (λ s. Tells records (steps_in p) exported (def_view b) s) (sym same)
                    (told_given p records ok ways ways_count are_ways m a is_way.1 b (contained a place b here)),
              )

      by : (o : Option AbstractInstantiations) → slice_get ways m ≡ o
          → (import_source r (always_given records (plan_instances p records) (slice_get ways m)) (entity_at k n)
          ≡ source.Unknown)
          ⊎ ((d : plan.Definition) × Given m k n d × Tells records (steps_in p) exported d (found_source m r k n))
      by None is =
          inl (ap (λ o. source_at (always_given records (plan_instances p records) o) (import_place r (entity_at k n))) is
          ∙ none_at (import_place r (entity_at k n)))
      by (Some abstract.Many) is =
          inl (ap (λ o. source_at (always_given records (plan_instances p records) o) (import_place r (entity_at k n))) is
          ∙ none_at (import_place r (entity_at k n)))
      by (Some abstract.None) is =
          inl (ap (λ o. source_at (always_given records (plan_instances p records) o) (import_place r (entity_at k n))) is
          ∙ none_at (import_place r (entity_at k n)))
      by (Some (abstract.One args)) is =
          subst (λ s. (s ≡ source.Unknown)
          ⊎ ((d : plan.Definition) × Given m k n d × Tells records (steps_in p) exported d s))
          (sym (ap (λ o. source_at (always_given records (plan_instances p records) o) (import_place r (entity_at k n)))
          is))
          (placed_at (abstract.One args) args.now is refl (import_place r (entity_at k n)) refl)

  -- what is referred to can be marked, if it holds data
  can_mark : (d : plan.Definition) (x : Known) → Refers records (steps_in p) exported d x
      → holds_data (known_kind x) ≡ true → CanMark (length records) x
  can_mark d (a_defined m k n) h data_ =
      let f = refers_as records (steps_in p) exported h in
      an_entity (slice_get_within records m f.0 f.2) data_
  can_mark d (the_flags c) h data_ = some_flags

  -- what can be marked is marked exactly where it is ambiguous
  pub marked_exactly : (x : Known) → CanMark (length records) x
      → (is_marked marks x ≡ true) ↔ IsAmbiguous records (steps_in p) exported x
  marked_exactly x can =
      let by = marked_by (length records) _ x can in (
        λ h. let f = by.0 h in ambiguous_if_shown p records ok ways ways_count are_ways x f.0 f.1 f.2,
        λ h. by.1 (shown_if_ambiguous p records ok ways ways_count are_ways x h),
      )

  unmarked : (x : Known) → CanMark (length records) x → (IsAmbiguous records (steps_in p) exported x → ⊥)
      → is_marked marks x ≡ false
  unmarked x can none = elim (bool_cases (is_marked marks x)) [
    | inl hit ↦ absurd (none ((marked_exactly x can).0 hit))
    | inr miss ↦ miss
  ]

  -- a known import
  pub import_exactly : (m : ℕ) (r : ModuleRecord) (k : CoreKind) (n : ℕ) (x : Known) → slice_get records m ≡ Some r
      → holds_data k ≡ true
      → (plain_if marks k (known_in (found_source m r k n)) ≡ Some x) ↔ IsKnown records (steps_in p) exported m k n x
  import_exactly m r k n x at data_ = (into, back)
    where
      into : plain_if marks k (known_in (found_source m r k n)) ≡ Some x → IsKnown records (steps_in p) exported m k n x
      into h =
          let is = plain_is marks k (known_in (found_source m r k n)) x h in
          elim (told_given_or_none m r k n at) [
            | inl none ↦ absurd (none-some x (sym (ap known_in none) ∙ is.0))
            | inr f ↦
                let refers = (f.2.refers x).0 is.0 in
                let can = can_mark f.0 x refers (ap holds_data is.1 ∙ data_) in
                record {
                  definition = f.0;
                  data_kind = data_;
                  same_kind = is.1;
                  given = f.1;
                  refers = refers;
                  plain = λ ambiguous. true≢false (sym ((marked_exactly x can).1 ambiguous) ∙ is.2);
                }
          ]

      back : IsKnown records (steps_in p) exported m k n x → plain_if marks k (known_in (found_source m r k n)) ≡ Some x
      back known =
          let tells = given_told m r k n known.definition at known.given in
          let can = can_mark known.definition x known.refers (ap holds_data known.same_kind ∙ data_) in
          is_plain marks k (known_in (found_source m r k n)) x ((tells.refers x).1 known.refers) known.same_kind
          (unmarked x can known.plain)
