-- Options read one after the other.
use Rattle.std.proofs.Common.{◌≡◌, List, [], ◌∷◌, ◌++◌, Bool, true, false, Option, None, Some, refl, sym, ap, ◌∙◌}
use Rattle.std.specs.Prelude.{◌||◌}
use Rattle.std.specs.List.{list_any}
use Rattle.std.specs.Option.{option_or}
use Rattle.std.proofs.lemmas.List.Folds.{list_any-append}
use Rattle.pc_parsed.specs.declared.canon.CanonOption.{CanonOption}
use Rattle.pc_spec_reading.specs.Options.{callback_in, encoding_in, is_async, is_gc, last_of, memory_in, post_return_in}
use Rattle.pc_spec_reading.specs.Options.{realloc_in}
use Rattle.pc_inline_canon.specs.declared.options.Written.{Written}
use Rattle.pc_inline_canon.specs.Written.{written}

or_none : {A : Type 0} (o : Option A) → option_or o None ≡ o
or_none None = refl
or_none (Some x) = refl

or_or : {A : Type 0} (a b c : Option A) → option_or (option_or a b) c ≡ option_or a (option_or b c)
or_or None b c = refl
or_or (Some x) b c = refl

-- what the last of options says, with one more
last_of-push : {A : Type 0} (says : CanonOption → Option A) (os : List CanonOption) (o : CanonOption)
    → last_of says (os ++ o ∷ []) ≡ option_or (says o) (last_of says os)
last_of-push says [] o = sym (or_none (says o))
last_of-push says (x ∷ os) o =
    ap (λ w. option_or w (says x)) (last_of-push says os o) ∙ or_or (says o) (last_of says os) (says x)

or_false : (b : Bool) → (b || false) ≡ b
or_false true = refl
or_false false = refl

any-push : (test : CanonOption → Bool) (os : List CanonOption) (o : CanonOption)
    → list_any test (os ++ o ∷ []) ≡ (list_any test os || test o)
any-push test os o = list_any-append test os (o ∷ []) ∙ ap (λ b. list_any test os || b) (or_false (test o))

-- what options say, with one more
pub written-push : (os : List CanonOption) (o : CanonOption) (w v : Written) → w ≡ written os
    → v.encoding ≡ option_or (encoding_in o) w.encoding → v.memory ≡ option_or (memory_in o) w.memory
    → v.realloc ≡ option_or (realloc_in o) w.realloc → v.post_return ≡ option_or (post_return_in o) w.post_return
    → v.callback ≡ option_or (callback_in o) w.callback → v.async_ ≡ (w.async_ || is_async o)
    → v.gc ≡ (w.gc || is_gc o) → v ≡ written (os ++ o ∷ [])
written-push os o w v is encoding memory realloc post_return callback async_ gc =
    let a = encoding ∙ ap (λ x. option_or (encoding_in o) x.encoding) is ∙ sym (last_of-push encoding_in os o) in
    let b = memory ∙ ap (λ x. option_or (memory_in o) x.memory) is ∙ sym (last_of-push memory_in os o) in
    let c = realloc ∙ ap (λ x. option_or (realloc_in o) x.realloc) is ∙ sym (last_of-push realloc_in os o) in
    let d = post_return ∙ ap (λ x. option_or (post_return_in o) x.post_return) is
    ∙ sym (last_of-push post_return_in os o) in
    let e = callback ∙ ap (λ x. option_or (callback_in o) x.callback) is ∙ sym (last_of-push callback_in os o) in
    let f = async_ ∙ ap (λ x. x.async_ || is_async o) is ∙ sym (any-push is_async os o) in
    let g = gc ∙ ap (λ x. x.gc || is_gc o) is ∙ sym (any-push is_gc os o) in
    λ i. record {
      encoding = a i;
      memory = b i;
      realloc = c i;
      post_return = d i;
      callback = e i;
      async_ = f i;
      gc = g i;
    }
