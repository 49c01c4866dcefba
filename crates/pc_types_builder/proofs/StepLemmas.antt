-- A step of a conversion: an entry gets its type, once what it names has.
use Rattle.std.proofs.Common.{◌≡◌, ℕ, ◌<◌, ◌≤◌, ◌+◌, List, [], ◌∷◌, get_or, length, take, zero, suc, Option, Some, None}
use Rattle.std.proofs.Common.{refl, sym, ap, ◌∙◌, subst, arith, inl, inr, ◌⊎◌, Bool, true, false}
use Rattle.std.specs.Prelude.{IfSome, slice_get, slice_set, option_and_then}
use Rattle.std.proofs.lemmas.List.{length-set, length-take}
use Rattle.std.proofs.lemmas.Option.{none-some, same_Some, slice_get-get_or, slice_get_within}
use Rattle.pc_entity.specs.Lists.{Kept}
use Rattle.pc_entity.proofs.Growing.{slice_get-set_same, take-next}
use Rattle.pc_types.specs.declared.parsed.DeclType.{DeclType}
use Rattle.pc_types.specs.declared.parsed.DeclType.TheVariants as entry
use Rattle.pc_types.specs.declared.parsed.TypeTable.{TypeTable}
use Rattle.pc_types.specs.declared.types.TypeDef.{TypeDef}
use Rattle.pc_types.specs.declared.types.TypeDef.TheVariants as def
use Rattle.pc_types.specs.Table.{table_fault}
use Rattle.pc_types.specs.TypeTree.{Identity, TypeTree, declared, earlier_tree, entry_tree, trees_from}
use Rattle.pc_types_lists.specs.Types.{Types}
use Rattle.pc_types_builder.specs.Trees.{IsEntry, identities}
use Rattle.pc_types_convert.specs.Labels.{IsLike}
use Rattle.pc_types_convert.specs.Plain.{AreLayered, HadOnce, IsNoted, Layers, NotesMore, PutsOwn, PutsPlain}
use Rattle.pc_types_convert.specs.Plain.{is_plain_entry}
use Rattle.pc_types_builder.specs.Converted.{AreConverted, AreLike, AreNoted, ArePlain, AreTyped, IsOfKind}
use Rattle.pc_types_builder.specs.Converted.{IsPlainEntry}
use Rattle.pc_types_builder.specs.Depends.{depends}
use Rattle.pc_types_builder.proofs.PlainLemmas.{plain_entry}
use Rattle.pc_types_convert.specs.Entries.{EntryIs}
use Rattle.pc_types_convert.specs.Needed.{AreNeeded, Ascend, Each, IsAmong, IsDone, parts_of}
use Rattle.pc_types_convert.specs.Parts.{AreHeld}
use Rattle.pc_types_convert.specs.Steps.{IsReadyEntry}
use Rattle.pc_types_lists.proofs.HeldLemmas.{value_held}
use Rattle.pc_numbers.specs.declared.runtime.ResourceIndex.{ResourceIndex}
use Rattle.pc_entity.proofs.LookupLemmas.{found_at}
use Rattle.pc_types_convert.proofs.AmongLemmas.{each_among, each_append, each_more}
use Rattle.pc_types_convert.proofs.LikeLemmas.{entry_like}
use Rattle.pc_types_builder.proofs.Simulation.{entry_has, tree_at}
use Rattle.pc_types_convert.proofs.SoundLemmas.{parts_below, sound_at}
use Rattle.pc_types_builder.proofs.ReadyLemmas.{IsDonePart, ready_entry}

-- an item in front of a place is an item
pub take_found : {A : Type 0} (xs : List A) (k p : ℕ) (x : A) → slice_get (take k xs) p ≡ Some x
    → slice_get xs p ≡ Some x
take_found [] zero p x h = h
take_found [] (suc k) p x h = h
take_found (y ∷ xs) zero p x h = absurd (none-some x h)
take_found (y ∷ xs) (suc k) zero x h = h
take_found (y ∷ xs) (suc k) (suc p) x h = take_found xs k p x h

-- what follows of each number from two facts of it
pub each_both : (P Q R : ℕ → Type 0) → ((n : ℕ) → P n → Q n → R n) → (ns : List ℕ) → Each P ns → Each Q ns → Each R ns
each_both P Q R both [] h k = tt
each_both P Q R both (n ∷ ns) h k = (both n h.0 k.0, each_both P Q R both ns h.1 k.1)

-- what an entry is in the builder is of its kind
kind_of_entry : (b : Types) (done : List (Option TypeDef)) (t : TypeTable) (n : ℕ) (e : DeclType) (d : TypeDef)
    → EntryIs b done t n e d → IsOfKind e d
kind_of_entry b done t n entry.Resource d h = (h.0, h.1)
kind_of_entry b done t n (entry.Func params result is_async) d h = (h.0, h.1)
kind_of_entry b done t n (entry.Val v) d h = (h.0, h.1)
kind_of_entry b done t n (entry.Record fields) d h = (_, h.2)
kind_of_entry b done t n (entry.Variant cases) d h = (_, h.2)
kind_of_entry b done t n (entry.List v) d h = (_, h.2)
kind_of_entry b done t n (entry.Tuple vs) d h = (_, h.2)
kind_of_entry b done t n (entry.Flags names) d h = (_, h.1)
kind_of_entry b done t n (entry.Enum names) d h = (_, h.1)
kind_of_entry b done t n (entry.Option v) d h = (_, h.2)
kind_of_entry b done t n (entry.Result ok err) d h = (_, h.2)
kind_of_entry b done t n (entry.Own m) d h = (_, h.1)
kind_of_entry b done t n (entry.Borrow m) d h = (_, h.1)
kind_of_entry b done t n (entry.Stream v) d h = (_, h.2)
kind_of_entry b done t n (entry.Future v) d h = (_, h.2)
kind_of_entry b done t n (entry.Instance exports) d h = (h.0, h.2)
kind_of_entry b done t n (entry.Component imports exports) d h = (h.0, h.2)
kind_of_entry b done t n (entry.Module imports exports) d h = (h.0, h.2)

-- a tree among those in front is the one among all
pub earlier_back : (known : List (ℕ × Identity)) (c : ℕ) (t : TypeTable) (before all : List (Option TypeTree))
    → Kept before all → (n : ℕ) → n < length before
    → (tree : TypeTree) → earlier_tree known c t all n ≡ Some tree → earlier_tree known c t before n ≡ Some tree
earlier_back known c t before all kept n within tree h =
    let f = found_at before n within in
    ap (option_and_then (λ x. x)) f.1 ∙ sym (ap (option_and_then (λ x. x)) (kept n f.0 f.1)) ∙ h

-- an item stays where one is written at its place or another
set_found : {A : Type 0} (xs : List A) (k n : ℕ) (y z : A) → slice_get (slice_set xs k y) n ≡ Some z
    → ((n ≡ k) × (y ≡ z)) ⊎ (slice_get xs n ≡ Some z)
set_found [] k n y z h = inr h
set_found (x ∷ xs) zero zero y z h = inl (refl, same_Some y z h)
set_found (x ∷ xs) zero (suc n) y z h = inr h
set_found (x ∷ xs) (suc k) zero y z h = inr h
set_found (x ∷ xs) (suc k) (suc n) y z h =
    elim (set_found xs k n y z h) as (λ _. ((suc n ≡ suc k) × (y ≡ z)) ⊎ (slice_get (x ∷ xs) (suc n) ≡ Some z)) [
      | inl here ↦ inl (ap suc here.0, here.1)
      | inr old ↦ inr old
    ]

-- what is done stays done where an entry gets its type
done_kept : (done : List (Option TypeDef)) (k n : ℕ) (d : TypeDef) → IsDone done n
    → IsDone (slice_set done k (Some d)) n
done_kept [] k n d h = h
done_kept (x ∷ xs) zero zero d h = (d, refl)
done_kept (x ∷ xs) zero (suc n) d h = h
done_kept (x ∷ xs) (suc k) zero d h = h
done_kept (x ∷ xs) (suc k) (suc n) d h = done_kept xs k n d h

-- and in the list that a step leaves
pub kept_put : (done new : List (Option TypeDef)) (k : ℕ) (d : TypeDef) → new ≡ slice_set done k (Some d)
    → (n : ℕ) → IsDone done n → IsDone new n
kept_put done new k d put n h = subst (λ l. IsDone l n) (sym put) (done_kept done k n d h)

-- an entry that gets its type is done
pub done_put : (done new : List (Option TypeDef)) (k : ℕ) (d : TypeDef) → new ≡ slice_set done k (Some d)
    → k < length done → IsDone new k
done_put done new k d put within =
    subst (λ l. IsDone l k) (sym put) (d, slice_get-set_same done k (Some d) within)

-- an item is in front of a later place
take_here : {A : Type 0} (xs : List A) (k p : ℕ) (x : A) → p < k → slice_get xs p ≡ Some x
    → slice_get (take k xs) p ≡ Some x
take_here [] zero p x below h = h
take_here [] (suc k) p x below h = h
take_here (y ∷ xs) zero p x below h = absurd (omega (arith, below))
take_here (y ∷ xs) (suc k) zero x below h = h
take_here (y ∷ xs) (suc k) (suc p) x below h = take_here xs k p x (omega (arith, below)) h

-- of numbers that ascend, those below one of them stand in front of it
pub among_earlier : (ns : List ℕ) (i k p : ℕ) → Ascend ns → slice_get ns i ≡ Some k → IsAmong p ns → p < k
    → IsAmong p (take i ns)
among_earlier [] i k p rise at among below = absurd among
among_earlier (n ∷ ns) zero k p rise at among below = elim among as (λ _. IsAmong p []) [
  | inl same ↦ omega (arith, below, same, same_Some n k at)
  | inr later ↦ omega (arith, below, same_Some n k at, each_among (λ m. n < m) ns p rise.0 later)
]
among_earlier (n ∷ ns) (suc i) k p rise at among below = elim among as (λ _. IsAmong p (n ∷ take i ns)) [
  | inl same ↦ inl same
  | inr later ↦ inr (among_earlier ns i k p rise.1 at later below)
]

-- what stands at a place is one of the numbers
among_at : (ns : List ℕ) (i k : ℕ) → slice_get ns i ≡ Some k → IsAmong k ns
among_at [] i k at = absurd (none-some k at)
among_at (n ∷ ns) zero k at = inl (sym (same_Some n k at))
among_at (n ∷ ns) (suc i) k at = inr (among_at ns i k at)

-- the next of some numbers is one of them
pub among_next : (ns : List ℕ) (i : ℕ) → i < length ns → IsAmong (get_or ns i 0) ns
among_next ns i within = among_at ns i (get_or ns i 0) (slice_get-get_or ns i 0 within)

-- the converted value types are held
converted_held : (b : Types) (t : TypeTable) (done : List (Option TypeDef)) → AreTyped b t done → AreHeld b done
converted_held b t done are n w found =
    let who = (λ (r : ResourceIndex). declared 0) in
    let x = are.entries n (def.Interface w) found who in
    value_held b who w x.0 x.2

-- the value types in front of a place are held
pub front_held : (b : Types) (t : TypeTable) (done front : List (Option TypeDef)) (k : ℕ) → AreTyped b t done
    → front ≡ take k done → AreHeld b front
front_held b t done front k are before =
    subst (AreHeld b) (sym before)
    (λ n w found. converted_held b t done are n w (take_found done k n (Some (def.Interface w)) found))

-- a type that is found stands there
found_once : (o : Option (Option TypeDef)) (d : TypeDef) → option_and_then (λ x. x) o ≡ Some d → o ≡ Some (Some d)
found_once None d h = absurd (none-some d h)
found_once (Some x) d h = ap Some h

-- the type that an entry had once, if it had one, has its labels
pub like_ready : (b : Types) (t : TypeTable) (once : List (Option TypeDef)) (k : ℕ) (e : DeclType)
    (like : Option TypeDef) → AreLike b t once → slice_get t.types k ≡ Some e
    → like ≡ option_and_then (λ d. d) (slice_get once k) → IfSome like (IsLike b e)
like_ready b t once k e None are at is = tt
like_ready b t once k e (Some d) are at is = are.each k d e (found_once (slice_get once k) d (sym is)) at

module _ (t : TypeTable) (sound : table_fault t ≡ None) where
  -- what a needed entry names is ready
  pub ready_step : (b : Types) (done : List (Option TypeDef)) (k : ℕ) (e : DeclType) → AreTyped b t done
      → slice_get t.types k ≡ Some e
      → Each (IsDone done) (parts_of e) → IsReadyEntry t (take k done) e
  ready_step b done k e are at parts =
      let here = sound_at t k e sound at in
      let earlier = take k t.types in
      ready_entry t earlier (take k done) e here.0 here.1
      (each_both (IsDone done) (λ p. p < length earlier) (IsDonePart t earlier (take k done))
      (λ p x below. (
        x.0,
        take_here done k p (Some x.0) (omega (arith, below, length-take k t.types)) x.1,
        λ f found. are.kinds p x.0 f x.1 (take_found t.types k p f found),
      ))
      (parts_of e) parts (parts_below t earlier e here.0))

  -- the same of the list that a step reads
  pub ready_front : (b : Types) (done front : List (Option TypeDef)) (k : ℕ) (e : DeclType) → AreTyped b t done
      → front ≡ take k done → slice_get t.types k ≡ Some e → Each (IsDone done) (parts_of e) → IsReadyEntry t front e
  ready_front b done front k e are before at parts =
      subst (λ l. IsReadyEntry t l e) (sym before) (ready_step b done k e are at parts)

  -- the type of a converted entry has its tree
  pub converted_entry : (b : Types) (done : List (Option TypeDef)) (k : ℕ) (e : DeclType) (d : TypeDef)
      → slice_get t.types k ≡ Some e → AreTyped b t done
      → EntryIs b (take k done) t k e d → IsEntry b t k d
  converted_entry b done k e d at are is who =
      let known = identities who b.resources.known in
      let c = b.resources.current.0 in
      let x = tree_at known c t [] t.types k e at in
      let has = entry_has b who t (take k done) x.0
      (λ n f found.
      let old = are.entries n f (take_found done k n (Some f) found) who in
      let within = slice_get_within (take k done) n (Some f) found in (
        old.0,
        earlier_back known c t x.0 (trees_from known c t [] t.types) x.2 n
            (omega (arith, x.1, within, length-take k done)) old.0 old.1,
        old.2,
      ))
      k e d (omega (arith, x.1)) is in
      let here = subst (λ m. slice_get (trees_from known c t [] t.types) m ≡ Some (entry_tree known c t x.0 e))
      (omega arith) x.3 in
      (has.0, ap (option_and_then (λ o. o)) here ∙ has.1, has.2)

  -- one entry more
  typed_put : (b : Types) (done : List (Option TypeDef)) (k : ℕ) (e : DeclType) (d : TypeDef)
      → slice_get t.types k ≡ Some e → AreTyped b t done → IsOfKind e d → IsEntry b t k d
      → AreTyped b t (slice_set done k (Some d))
  typed_put b done k e d at are kind is = record {
    room = length-set done k (Some d) ∙ are.room;
    kinds = λ n f g found at_n.
        elim (set_found done k n (Some d) (Some f) found) as (λ _. IsOfKind g f) [
          | inl here ↦ (
              let same = same_Some e g (sym at ∙ subst (λ m. slice_get t.types m ≡ Some g) here.0 at_n) in
              subst (λ h. IsOfKind h f) same (subst (λ x. IsOfKind e x) (same_Some d f here.1) kind))
          | inr old ↦ are.kinds n f g old at_n
        ];
    entries = λ n f found.
        elim (set_found done k n (Some d) (Some f) found) as (λ _. IsEntry b t n f) [
          | inl here ↦ subst (λ m. IsEntry b t m f) (sym here.0)
              (subst (λ x. IsEntry b t k x) (same_Some d f here.1) is)
          | inr old ↦ are.entries n f old
        ];
  }

  -- one entry more that is the same in each component instance
  plain_put : (plain : List (Option TypeDef)) (k : ℕ) (e : DeclType) (d : TypeDef) → slice_get t.types k ≡ Some e
      → is_plain_entry plain e ≡ true → ArePlain t plain → ArePlain t (slice_set plain k (Some d))
  plain_put plain k e d at is are =
      let here = plain_entry plain e is in
      let stay = each_more (IsDone plain) (IsDone (slice_set plain k (Some d))) (λ m. done_kept plain k m d) in
      record {
        form = λ n g found at_n.
            elim (set_found plain k n (Some d) (Some found.0) found.1) as (λ _. depends g ≡ false) [
              | inl same ↦ subst (λ h. depends h ≡ false)
                  (same_Some e g (sym at ∙ subst (λ m. slice_get t.types m ≡ Some g) same.0 at_n)) here.0
              | inr old ↦ are.form n g (found.0, old) at_n
            ];
        closed = λ n g found at_n.
            elim (set_found plain k n (Some d) (Some found.0) found.1) as
            (λ _. Each (IsDone (slice_set plain k (Some d))) (parts_of g)) [
              | inl same ↦ stay (parts_of g) (subst (λ h. Each (IsDone plain) (parts_of h))
                  (same_Some e g (sym at ∙ subst (λ m. slice_get t.types m ≡ Some g) same.0 at_n)) here.1)
              | inr old ↦ stay (parts_of g) (are.closed n g (found.0, old) at_n)
            ];
      }

  -- where the same entries have a type of this component instance, what is noted may be more
  noted_same : (c new : Layers) → new.own ≡ c.own → ((p m : ℕ) → IsNoted c.users p m → IsNoted new.users p m)
      → AreNoted t c → AreNoted t new
  noted_same c new own users are = record {
    noted = λ m p g is at among.
        elim (are.noted m p g (subst (λ l. IsDone l m) own is) at among) as
        (λ _. (IsDone new.own p × IsNoted new.users p m) ⊎ IsPlainEntry t p) [
          | inl it ↦ inl (subst (λ l. IsDone l p) (sym own) it.0, users p m it.1)
          | inr its ↦ inr its
        ];
  }

  -- where an entry may have had one more type once, that has its labels too
  like_put : (b : Types) (old new : List (Option TypeDef)) (k : ℕ) (e : DeclType) (d : TypeDef)
      → slice_get t.types k ≡ Some e → IsLike b e d → HadOnce k d old new → AreLike b t old → AreLike b t new
  like_put b old new k e d at is had are = record {
    each = λ n f g found at_n.
        elim (had n f found) as (λ _. IsLike b g f) [
          | inl once ↦ are.each n f g once at_n
          | inr here ↦ (
              let same = same_Some e g (sym at ∙ subst (λ m. slice_get t.types m ≡ Some g) here.0 at_n) in
              subst (λ h. IsLike b h f) same (subst (λ x. IsLike b e x) (sym here.1) is))
        ];
  }

  -- nothing else is to be shown where no type has changed
  pub notes_keep : (b : Types) (c new : Layers) (front : List (Option TypeDef)) (k : ℕ) (e : DeclType) (d : TypeDef)
      → slice_get t.types k ≡ Some e → EntryIs b front t k e d → NotesMore k d c new → AreConverted b t c
      → AreConverted b t new
  notes_keep b c new front k e d at is more are = record {
    all = subst (AreTyped b t) (sym more.all) are.all;
    plain = subst (AreTyped b t) (sym more.plain) are.plain;
    same = subst (ArePlain t) (sym more.plain) are.same;
    layered = more.layered;
    noted = noted_same c new more.own more.users are.noted;
    like = like_put b c.like new.like k e d at (entry_like b front t k e d is) more.like are.like;
  }

  -- where an entry gets a type of this component instance, what it names is noted, or is the same in each: all is that
  -- of an entry that is, of which nothing need be noted
  part_noted : (c new : Layers) (k : ℕ) (e : DeclType) (d : TypeDef) → ArePlain t c.plain → AreLayered c
      → Each (IsDone c.all) (parts_of e) → (is_plain : Bool) → is_plain ≡ is_plain_entry c.plain e → (named : List ℕ)
      → (is_plain ≡ false → named ≡ parts_of e) → PutsOwn k d named c new → (p : ℕ) → IsAmong p (parts_of e)
      → (IsDone new.own p × IsNoted new.users p k) ⊎ IsPlainEntry t p
  part_noted c new k e d same layered parts true plain named all puts p among =
      inr (c.plain, same, each_among (IsDone c.plain) (parts_of e) p (plain_entry c.plain e (sym plain)).1 among)
  part_noted c new k e d same layered parts false plain named all puts p among =
      let done = each_among (IsDone c.all) (parts_of e) p parts among in
      elim (layered.either p done.0 done.1) as (λ _. (IsDone new.own p × IsNoted new.users p k) ⊎ IsPlainEntry t p) [
        | inl own ↦ inl (
          kept_put c.own new.own k d puts.own p (done.0, own),
          puts.noted p (subst (IsAmong p) (sym (all refl)) among) (done.0, own),
        )
        | inr its ↦ inr (c.plain, same, (done.0, its))
      ]

  -- so it is of each entry
  own_noted : (c new : Layers) (k : ℕ) (e : DeclType) (d : TypeDef) (named : List ℕ) → slice_get t.types k ≡ Some e
      → PutsOwn k d named c new → AreNoted t c
      → ((p : ℕ) → IsAmong p (parts_of e) → (IsDone new.own p × IsNoted new.users p k) ⊎ IsPlainEntry t p)
      → AreNoted t new
  own_noted c new k e d named at puts are here = record {
    noted = λ m p g is at_m among.
        elim (set_found c.own k m (Some d) (Some is.0) (subst (λ l. slice_get l m ≡ Some (Some is.0)) puts.own is.1)) as
        (λ _. (IsDone new.own p × IsNoted new.users p m) ⊎ IsPlainEntry t p) [
          | inl last ↦ (
              let of_k : slice_get t.types k ≡ Some g = subst (λ i. slice_get t.types i ≡ Some g) last.0 at_m in
              let part : IsAmong p (parts_of e) =
              subst (λ h. IsAmong p (parts_of h)) (sym (same_Some e g (sym at ∙ of_k))) among in
              subst (λ i. (IsDone new.own p × IsNoted new.users p i) ⊎ IsPlainEntry t p) (sym last.0) (here p part))
          | inr old ↦ elim (are.noted m p g (is.0, old) at_m among) as
              (λ _. (IsDone new.own p × IsNoted new.users p m) ⊎ IsPlainEntry t p) [
                | inl own ↦ inl (kept_put c.own new.own k d puts.own p own.0, puts.users p m own.1)
                | inr its ↦ inr its
              ]
        ];
  }

  -- the same of the lists that a step reads and leaves
  pub put_more : (b : Types) (c new : Layers) (front : List (Option TypeDef)) (k : ℕ) (e : DeclType) (d : TypeDef)
      → slice_get t.types k ≡ Some e → Each (IsDone c.all) (parts_of e) → AreConverted b t c → front ≡ take k c.all
      → EntryIs b front t k e d → (is_plain : Bool) → is_plain ≡ is_plain_entry c.plain e
      → (named : List ℕ) → (is_plain ≡ false → named ≡ parts_of e) → new.all ≡ slice_set c.all k (Some d)
      → (((is_plain ≡ true) × PutsPlain k d c new) ⊎ PutsOwn k d named c new) → AreLayered new → AreConverted b t new
  put_more b c new front k e d at done are before is is_plain plain named all_named all_put put layered =
      let here = subst (λ f. EntryIs b f t k e d) before is in
      let kind = kind_of_entry b (take k c.all) t k e d here in
      let entry = converted_entry b c.all k e d at are.all here in
      record {
        all = subst (AreTyped b t) (sym all_put) (typed_put b c.all k e d at are.all kind entry);
        plain = elim put as (λ _. AreTyped b t new.plain) [
          | inl more ↦ subst (AreTyped b t) (sym more.1.plain) (typed_put b c.plain k e d at are.plain kind entry)
          | inr same ↦ subst (AreTyped b t) (sym same.plain) are.plain
        ];
        same = elim put as (λ _. ArePlain t new.plain) [
          | inl more ↦ subst (ArePlain t) (sym more.1.plain)
              (plain_put c.plain k e d at (sym plain ∙ more.0) are.same)
          | inr same ↦ subst (ArePlain t) (sym same.plain) are.same
        ];
        layered = layered;
        noted = elim put as (λ _. AreNoted t new) [
          | inl more ↦ noted_same c new more.1.own (λ p m h. subst (λ l. IsNoted l p m) (sym more.1.users) h) are.noted
          | inr own ↦ own_noted c new k e d named at own are.noted
              (part_noted c new k e d are.same are.layered done is_plain plain named all_named own)
        ];
        like = elim put as (λ _. AreLike b t new.like) [
          | inl more ↦ subst (AreLike b t) (sym more.1.like) are.like
          | inr own ↦ like_put b c.like new.like k e d at (entry_like b front t k e d is) own.like are.like
        ];
      }

  -- what the next of the needed entries names is done
  pub parts_done : (before done : List (Option TypeDef)) (n : ℕ) (order : List ℕ) → AreNeeded t before n order
      → (i : ℕ) → i < length order
      → Each (IsDone done) (take i order) → ((m : ℕ) → IsDone before m → IsDone done m)
      → (e : DeclType) → slice_get t.types (get_or order i 0) ≡ Some e → Each (IsDone done) (parts_of e)
  parts_done before done n order needed i within so_far kept e at =
      let k = get_or order i 0 in
      let earlier = take k t.types in
      let here = slice_get-get_or order i 0 within in
      each_both (λ p. IsDone before p ⊎ IsAmong p order) (λ p. p < length earlier) (IsDone done)
      (λ p either below. elim either as (λ _. IsDone done p) [
        | inl old ↦ kept p old
        | inr among ↦ each_among (IsDone done) (take i order) p so_far
            (among_earlier order i k p needed.ascend here among (omega (arith, below, length-take k t.types)))
      ])
      (parts_of e) (needed.closed k e (among_next order i within) at)
      (parts_below t earlier e (sound_at t k e sound at).0)

-- one entry more is done
pub done_next : (old new : List (Option TypeDef)) (order : List ℕ) (i : ℕ) → i < length order
    → ((m : ℕ) → IsDone old m → IsDone new m)
    → Each (IsDone old) (take i order) → IsDone new (get_or order i 0) → Each (IsDone new) (take (i + 1) order)
done_next old new order i within kept so_far last =
    subst (Each (IsDone new)) (sym (take-next order i (get_or order i 0) (slice_get-get_or order i 0 within)))
    (each_append (IsDone new) (take i order) (get_or order i 0 ∷ [])
    (each_more (IsDone old) (IsDone new) kept (take i order) so_far) (last, tt))

-- what is wanted of the entry that a table has is wanted of the entry that a step reads
pub entry_wanted : (b : Types) (t : TypeTable) (done front : List (Option TypeDef)) (k : ℕ) (e : DeclType)
    → front ≡ take k done → slice_get t.types k ≡ Some e
    → ((f : DeclType) × (slice_get t.types k ≡ Some f) × (d : TypeDef) × EntryIs b (take k done) t k f d)
    → (d : TypeDef) × EntryIs b front t k e d
entry_wanted b t done front k e before at q = (
  q.2,
  subst (λ f. EntryIs b f t k e q.2) (sym before)
      (subst (λ f. EntryIs b (take k done) t k f q.2) (same_Some q.0 e (sym q.1 ∙ at)) q.3),
)

-- all are done where the list is gone through
done_all : (done : List (Option TypeDef)) (order : List ℕ) (i : ℕ) → length order ≤ i
    → Each (IsDone done) (take i order) → Each (IsDone done) order
done_all done [] i all h = tt
done_all done (n ∷ ns) zero all h = absurd (omega (arith, all))
done_all done (n ∷ ns) (suc i) all h = (h.0, done_all done ns i (omega (arith, all)) h.1)

-- and so is the asked entry
pub asked_done : (t : TypeTable) (before done : List (Option TypeDef)) (n : ℕ) (order : List ℕ)
    → AreNeeded t before n order → (i : ℕ) → length order ≤ i
    → Each (IsDone done) (take i order) → ((m : ℕ) → IsDone before m → IsDone done m) → IsDone done n
asked_done t before done n order needed i all so_far kept = elim needed.asked as (λ _. IsDone done n) [
  | inl old ↦ kept n old
  | inr among ↦ each_among (IsDone done) order n (done_all done order i all so_far) among
]
