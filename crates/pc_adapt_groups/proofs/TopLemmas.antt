-- The greatest number of which something holds, and what definitions name by it.
use Rattle.std.proofs.Common.{◌≡◌, ◌⊎◌, inl, inr, ℕ, zero, suc, max, List, [], ◌∷◌, ◌++◌, refl, sym}
use Rattle.std.proofs.Common.{ap, subst, ◌∙◌, arith}
use Rattle.std.specs.Prelude.{Some, slice_get, Contains}
use Rattle.std.proofs.lemmas.Bool.{cases_lt}
use Rattle.std.proofs.lemmas.List.Elements.{Contains-append_left, Contains-append_right, Contains-append_cases}
use Rattle.pc_numbers.specs.declared.entity_index.EntityIndex.{EntityIndex}
use Rattle.pc_numbers.specs.declared.module_entity.ModuleInternedTypeIndex.{ModuleInternedTypeIndex}
use Rattle.pc_numbers.specs.declared.runtime.RuntimeComponentInstanceIndex.{RuntimeComponentInstanceIndex}
use Rattle.pc_numbers.specs.declared.runtime.TrampolineIndex.{TrampolineIndex}
use Rattle.pc_types.specs.declared.intrinsic.UnsafeIntrinsic.{UnsafeIntrinsic}
use Rattle.pc_dfg.specs.declared.core_def.CoreDef.{CoreDef}
use Rattle.pc_dfg.specs.declared.core_def.CoreDef.TheVariants as def
use Rattle.pc_dfg.specs.declared.core_def.CoreExport.{CoreExport}
use Rattle.pc_dfg.specs.declared.dfg.ComponentDfg.{ComponentDfg}
use Rattle.pc_dfg.specs.declared.ids.AdapterId.{AdapterId}
use Rattle.pc_dfg.specs.Names.{Thing, an_adapter, an_instance, Names, names_instance, names_adapter, names_through}
use Rattle.pc_dfg.specs.Names.{in_trampoline, OneNames}
use Rattle.pc_dfg.specs.Numbers.{SignedTrampoline, trampoline_entry}
use Rattle.pc_adapt_groups.specs.declared.reach.Reach.{Reach}
use Rattle.pc_adapt_groups.specs.Reaches.{IsTop, IsReach, joined_reach, nothing, one_adapter, one_instance}

-- of what is the same, the same number is the greatest
pub top_same : (P Q : ℕ → Type 0) (m : ℕ) → ((n : ℕ) → P n → Q n) → ((n : ℕ) → Q n → P n) → IsTop P m → IsTop Q m
top_same P Q m there back top = record {
  most = λ n q. top.most n (back n q);
  there = λ n e. there n (top.there n e);
}

-- of two, the greater one
pub top_either : (P Q : ℕ → Type 0) (m k : ℕ) → IsTop P m → IsTop Q k → IsTop (λ n. P n ⊎ Q n) (max m k)
top_either P Q m k p q = record {
  most = λ n one. elim one [
    | inl a ↦ let less = p.most n a in omega (arith, less)
    | inr b ↦ let less = q.most n b in omega (arith, less)
  ];
  there = λ n e. elim (cases_lt m k) [
    | inl less ↦ inr (q.there n (omega (arith, e, less)))
    | inr more ↦ inl (p.there n (omega (arith, e, more)))
  ];
}

-- of nothing, 0
pub top_none : (P : ℕ → Type 0) → ((n : ℕ) → P n → ⊥) → IsTop P 0
top_none P none = record {
  most = λ n p. absurd (none n p);
  there = λ n e. absurd (omega (arith, e));
}

-- of one number, one more
pub top_one : (P : ℕ → Type 0) (k : ℕ) → P k → ((n : ℕ) → P n → n ≡ k) → IsTop P (suc k)
top_one P k here only = record {
  most = λ n p. let is = only n p in omega (arith, is);
  there = λ n e. let is : k ≡ n = omega (arith, e) in subst P is here;
}

module _ (g : ComponentDfg) where
  one_of_none : (y : Thing) → OneNames g [] y → ⊥
  unfolding OneNames
  one_of_none y (d, (k, below, is), names) = omega (arith, below)

  pub one_left : (ds es : List CoreDef) (y : Thing) → OneNames g ds y → OneNames g (ds ++ es) y
  unfolding OneNames
  one_left ds es y (d, in_ds, names) = (d, Contains-append_left ds es d in_ds, names)

  pub one_right : (ds es : List CoreDef) (y : Thing) → OneNames g es y → OneNames g (ds ++ es) y
  unfolding OneNames
  one_right ds es y (d, in_es, names) = (d, Contains-append_right ds es d in_es, names)

  pub one_cases : (ds es : List CoreDef) (y : Thing) → OneNames g (ds ++ es) y → OneNames g ds y ⊎ OneNames g es y
  unfolding OneNames
  one_cases ds es y (d, inside, names) =
      elim (Contains-append_cases ds es d inside) [
        | inl left ↦ inl (d, left, names)
        | inr right ↦ inr (d, right, names)
      ]

  pub one_single : (d : CoreDef) (y : Thing) → Names g d y → OneNames g (d ∷ []) y
  unfolding OneNames
  one_single d y names = (d, (0, omega arith, refl), names)

  pub single_one : (d : CoreDef) (y : Thing) → OneNames g (d ∷ []) y → Names g d y
  unfolding OneNames
  single_one d y (e, inside, names) = subst (λ c. Names g c y) (it inside) names
    where
      it : Contains (d ∷ []) e → e ≡ d
      it (zero, below, is) = sym is
      it (suc k, below, is) = absurd (omega (arith, below))

  -- nothing names nothing
  pub reach_none : IsReach g [] nothing
  reach_none = record {
    adapters = top_none (λ b. OneNames g [] (an_adapter b)) (λ b one. one_of_none (an_adapter b) one);
    instances = top_none (λ n. OneNames g [] (an_instance n)) (λ n one. one_of_none (an_instance n) one);
  }

  -- what the definitions of two lists name
  pub reach_append : (ds es : List CoreDef) (r s : Reach) → IsReach g ds r → IsReach g es s
      → IsReach g (ds ++ es) (joined_reach r s)
  reach_append ds es r s of_ds of_es = record {
    adapters = both (λ b. an_adapter b) r.adapters s.adapters of_ds.adapters of_es.adapters;
    instances = both (λ n. an_instance n) r.instances s.instances of_ds.instances of_es.instances;
  }
    where
      both : (thing : ℕ → Thing) (m k : ℕ) → IsTop (λ n. OneNames g ds (thing n)) m
          → IsTop (λ n. OneNames g es (thing n)) k
          → IsTop (λ n. OneNames g (ds ++ es) (thing n)) (max m k)
      both thing m k p q =
          top_same (λ n. OneNames g ds (thing n) ⊎ OneNames g es (thing n)) (λ n. OneNames g (ds ++ es) (thing n))
          (max m k)
          (λ n one. elim one [
            | inl left ↦ one_left ds es (thing n) left
            | inr right ↦ one_right ds es (thing n) right
          ]) (λ n one. one_cases ds es (thing n) one)
          (top_either (λ n. OneNames g ds (thing n)) (λ n. OneNames g es (thing n)) m k p q)

  -- what the definitions in a trampoline name, it names
  pub reach_through : (t : TrampolineIndex) (x : SignedTrampoline) (r : Reach) → slice_get g.trampolines t.0 ≡ Some x
      → IsReach g (in_trampoline g (trampoline_entry x)) r → IsReach g (def.Trampoline t ∷ []) r
  unfolding OneNames
  reach_through t x r at inner = record {
    adapters = same (λ b. an_adapter b) r.adapters inner.adapters;
    instances = same (λ n. an_instance n) r.instances inner.instances;
  }
    where
      there : (y : Thing) → OneNames g (in_trampoline g (trampoline_entry x)) y → OneNames g (def.Trampoline t ∷ []) y
      there y (d, inside, names) = one_single (def.Trampoline t) y (names_through at inside names)

      through : (y : Thing) (d : CoreDef) → Names g d y → d ≡ def.Trampoline t
          → OneNames g (in_trampoline g (trampoline_entry x)) y
      through y d (names_instance {e = f}) e = absurd (no f e)
        where
          no : (f : CoreExport EntityIndex) → def.Export f ≡ def.Trampoline t → ⊥
          no f e = grind (arith, e)
      through y d (names_adapter {a = a}) e = absurd (no a e)
        where
          no : (a : AdapterId) → def.Adapter a ≡ def.Trampoline t → ⊥
          no a e = grind (arith, e)
      through y d (names_through {t = u} {x = z} {d = c} at_u inside names) e =
          let one : u ≡ t = number u e in
          let same : z ≡ x = same_some (sym at_u ∙ ap (λ n. slice_get g.trampolines n.0) one ∙ at) in
          (c, subst (λ v. Contains (in_trampoline g (trampoline_entry v)) c) same inside, names)
        where
          number : (u : TrampolineIndex) → def.Trampoline u ≡ def.Trampoline t → u ≡ t
          number u e = grind (arith, e)

          same_some : {a b : SignedTrampoline} → Some a ≡ Some b → a ≡ b
          same_some e = grind (arith, e)

      same : (thing : ℕ → Thing) (m : ℕ) → IsTop (λ n. OneNames g (in_trampoline g (trampoline_entry x)) (thing n)) m
          → IsTop (λ n. OneNames g (def.Trampoline t ∷ []) (thing n)) m
      same thing m top =
          top_same (λ n. OneNames g (in_trampoline g (trampoline_entry x)) (thing n))
          (λ n. OneNames g (def.Trampoline t ∷ []) (thing n)) m (λ n one. there (thing n) one)
          (λ n one. through (thing n) (def.Trampoline t) (single_one (def.Trampoline t) (thing n) one) refl) top

  -- an item of a core instance names that instance
  export_names : (d : CoreDef) (y : Thing) → Names g d y → (x : CoreExport EntityIndex) → d ≡ def.Export x
      → y ≡ an_instance x.instance.0
  export_names d y (names_instance {e = f}) x e = ap (λ z. an_instance z.instance.0) (same f e)
    where
      same : (f : CoreExport EntityIndex) → def.Export f ≡ def.Export x → f ≡ x
      same f e = grind (arith, e)
  export_names d y (names_adapter {a = a}) x e = absurd (no a e)
    where
      no : (a : AdapterId) → def.Adapter a ≡ def.Export x → ⊥
      no a e = grind (arith, e)
  export_names d y (names_through {t = t} at inside names) x e = absurd (no t e)
    where
      no : (t : TrampolineIndex) → def.Trampoline t ≡ def.Export x → ⊥
      no t e = grind (arith, e)

  -- an adapter names itself
  adapter_names : (d : CoreDef) (y : Thing) → Names g d y → (a : AdapterId) → d ≡ def.Adapter a → y ≡ an_adapter a.0
  adapter_names d y (names_instance {e = f}) a e = absurd (no f e)
    where
      no : (f : CoreExport EntityIndex) → def.Export f ≡ def.Adapter a → ⊥
      no f e = grind (arith, e)
  adapter_names d y (names_adapter {a = b}) a e = ap (λ z. an_adapter z.0) (same b e)
    where
      same : (b : AdapterId) → def.Adapter b ≡ def.Adapter a → b ≡ a
      same b e = grind (arith, e)
  adapter_names d y (names_through {t = t} at inside names) a e = absurd (no t e)
    where
      no : (t : TrampolineIndex) → def.Trampoline t ≡ def.Adapter a → ⊥
      no t e = grind (arith, e)

  -- flags name nothing
  flags_names : (d : CoreDef) (y : Thing) → Names g d y → (c : RuntimeComponentInstanceIndex)
      → d ≡ def.InstanceFlags c → ⊥
  flags_names d y (names_instance {e = f}) c e = no f e
    where
      no : (f : CoreExport EntityIndex) → def.Export f ≡ def.InstanceFlags c → ⊥
      no f e = grind (arith, e)
  flags_names d y (names_adapter {a = a}) c e = no a e
    where
      no : (a : AdapterId) → def.Adapter a ≡ def.InstanceFlags c → ⊥
      no a e = grind (arith, e)
  flags_names d y (names_through {t = t} at inside names) c e = no t e
    where
      no : (t : TrampolineIndex) → def.Trampoline t ≡ def.InstanceFlags c → ⊥
      no t e = grind (arith, e)

  -- an intrinsic names nothing
  intrinsic_names : (d : CoreDef) (y : Thing) → Names g d y → (s : ModuleInternedTypeIndex) (i : UnsafeIntrinsic)
      → d ≡ def.UnsafeIntrinsic s i → ⊥
  intrinsic_names d y (names_instance {e = f}) s i e = no f e
    where
      no : (f : CoreExport EntityIndex) → def.Export f ≡ def.UnsafeIntrinsic s i → ⊥
      no f e = grind (arith, e)
  intrinsic_names d y (names_adapter {a = a}) s i e = no a e
    where
      no : (a : AdapterId) → def.Adapter a ≡ def.UnsafeIntrinsic s i → ⊥
      no a e = grind (arith, e)
  intrinsic_names d y (names_through {t = t} at inside names) s i e = no t e
    where
      no : (t : TrampolineIndex) → def.Trampoline t ≡ def.UnsafeIntrinsic s i → ⊥
      no t e = grind (arith, e)

  same_instance : (m n : ℕ) → an_instance m ≡ an_instance n → m ≡ n
  same_instance m n e = grind (arith, e)

  same_adapter : (m n : ℕ) → an_adapter m ≡ an_adapter n → m ≡ n
  same_adapter m n e = grind (arith, e)

  other_thing : (m n : ℕ) → an_instance m ≡ an_adapter n → ⊥
  other_thing m n e = grind (arith, e)

  -- an item of a core instance names one instance
  pub reach_export : (x : CoreExport EntityIndex) → IsReach g (def.Export x ∷ []) (one_instance x.instance.0)
  reach_export x = record {
    adapters = top_none (λ b. OneNames g (d ∷ []) (an_adapter b)) (λ b one.
        other_thing i b (sym (export_names d (an_adapter b) (single_one d (an_adapter b) one) x refl)));
    instances = top_one (λ n. OneNames g (d ∷ []) (an_instance n)) i (one_single d (an_instance i) names_instance)
        (λ n one. same_instance n i (export_names d (an_instance n) (single_one d (an_instance n) one) x refl));
  }
    where
      d : CoreDef
      d = def.Export x

      i : ℕ
      i = x.instance.0

  -- an adapter is one
  pub reach_adapter : (a : AdapterId) → IsReach g (def.Adapter a ∷ []) (one_adapter a.0)
  reach_adapter a = record {
    adapters = top_one (λ n. OneNames g (d ∷ []) (an_adapter n)) a.0 (one_single d (an_adapter a.0) names_adapter)
        (λ n one. same_adapter n a.0 (adapter_names d (an_adapter n) (single_one d (an_adapter n) one) a refl));
    instances = top_none (λ n. OneNames g (d ∷ []) (an_instance n)) (λ n one.
        other_thing n a.0 (adapter_names d (an_instance n) (single_one d (an_instance n) one) a refl));
  }
    where
      d : CoreDef
      d = def.Adapter a

  -- flags and intrinsics name nothing
  pub reach_flags : (c : RuntimeComponentInstanceIndex) → IsReach g (def.InstanceFlags c ∷ []) nothing
  reach_flags c = record {
    adapters = top_none (λ b. OneNames g (d ∷ []) (an_adapter b)) (λ b one.
        flags_names d (an_adapter b) (single_one d (an_adapter b) one) c refl);
    instances = top_none (λ n. OneNames g (d ∷ []) (an_instance n)) (λ n one.
        flags_names d (an_instance n) (single_one d (an_instance n) one) c refl);
  }
    where
      d : CoreDef
      d = def.InstanceFlags c

  pub reach_intrinsic : (s : ModuleInternedTypeIndex) (i : UnsafeIntrinsic)
      → IsReach g (def.UnsafeIntrinsic s i ∷ []) nothing
  reach_intrinsic s i = record {
    adapters = top_none (λ b. OneNames g (d ∷ []) (an_adapter b)) (λ b one.
        intrinsic_names d (an_adapter b) (single_one d (an_adapter b) one) s i refl);
    instances = top_none (λ n. OneNames g (d ∷ []) (an_instance n)) (λ n one.
        intrinsic_names d (an_instance n) (single_one d (an_instance n) one) s i refl);
  }
    where
      d : CoreDef
      d = def.UnsafeIntrinsic s i
