-- Values whose marks agree in one way agree in another, where each mark does.
use Rattle.std.proofs.Common.{◌≡◌, refl, ap}
use Rattle.pc_spec_plan.specs.CoreValue as value
use Rattle.pc_spec_plan.specs.CoreValue.{CoreValue, DataModel, MaybeValue, Options, Part, Parts, map_maybe, map_model}
use Rattle.pc_spec_plan.specs.CoreValue.{map_options, map_part, map_parts, map_value}

module _ {τ υ ω : Type 0} (f : τ → υ) (h : τ → ω) (same : (m n : τ) → f m ≡ f n → h m ≡ h n) where
  mutual
    -- values
    pub value_same : (v w : CoreValue τ) → map_value f v ≡ map_value f w → map_value h v ≡ map_value h w
    value_same (value.exported n i) (value.exported m j) is =
        let a : n ≡ m = cc in
        let b : i ≡ j = cc in
        λ k. value.exported (a k) (b k)
    value_same (value.lowered p t o) (value.lowered q u r) is =
        let a : p ≡ q = cc in
        let b : f t ≡ f u = cc in
        let c : map_options f o ≡ map_options f r = cc in
        let d = same t u b in
        let e = options_same o r c in
        λ k. value.lowered (a k) (d k) (e k)
    value_same (value.builtin j c ps) (value.builtin l d qs) is =
        let a : j ≡ l = cc in
        let b : c ≡ d = cc in
        let e : map_parts f ps ≡ map_parts f qs = cc in
        let x = parts_same ps qs e in
        λ k. value.builtin (a k) (b k) (x k)
    value_same (value.intrinsic n) (value.intrinsic m) is =
        let a : n ≡ m = cc in
        ap value.intrinsic a
    value_same (value.adapter t o u r v) (value.adapter t2 o2 u2 r2 w) is =
        let a : f t ≡ f t2 = cc in
        let b : map_options f o ≡ map_options f o2 = cc in
        let c : f u ≡ f u2 = cc in
        let d : map_options f r ≡ map_options f r2 = cc in
        let e : map_value f v ≡ map_value f w = cc in
        let first = same t t2 a in
        let lift = options_same o o2 b in
        let second = same u u2 c in
        let lower = options_same r r2 d in
        let callee = value_same v w e in
        λ k. value.adapter (first k) (lift k) (second k) (lower k) (callee k)
    value_same (value.flags c) (value.flags d) is =
        let a : c ≡ d = cc in
        ap value.flags a
    value_same (value.helper j ps) (value.helper l qs) is =
        let a : j ≡ l = cc in
        let e : map_parts f ps ≡ map_parts f qs = cc in
        let x = parts_same ps qs e in
        λ k. value.helper (a k) (x k)
    value_same v w is = absurd (let no : ⊥ = cc in no)

    -- options
    options_same : (o r : Options τ) → map_options f o ≡ map_options f r → map_options h o ≡ map_options h r
    options_same (value.options c e a s cb pr m) (value.options c2 e2 a2 s2 cb2 pr2 m2) is =
        let instances : c ≡ c2 = cc in
        let encodings : e ≡ e2 = cc in
        let flags : a ≡ a2 = cc in
        let signed : f s ≡ f s2 = cc in
        let callbacks : map_maybe f cb ≡ map_maybe f cb2 = cc in
        let post_returns : map_maybe f pr ≡ map_maybe f pr2 = cc in
        let models : map_model f m ≡ map_model f m2 = cc in
        let signatures = same s s2 signed in
        let first = maybe_same cb cb2 callbacks in
        let second = maybe_same pr pr2 post_returns in
        let third = model_same m m2 models in
        λ k. value.options (instances k) (encodings k) (flags k) (signatures k) (first k) (second k) (third k)

    -- where values lie
    model_same : (m n : DataModel τ) → map_model f m ≡ map_model f n → map_model h m ≡ map_model h n
    model_same value.gc value.gc is = refl
    model_same (value.linear m r) (value.linear n s) is =
        let memories : map_maybe f m ≡ map_maybe f n = cc in
        let reallocs : map_maybe f r ≡ map_maybe f s = cc in
        let first = maybe_same m n memories in
        let second = maybe_same r s reallocs in
        λ k. value.linear (first k) (second k)
    model_same m n is = absurd (let no : ⊥ = cc in no)

    -- values that may be left out
    maybe_same : (v w : MaybeValue τ) → map_maybe f v ≡ map_maybe f w → map_maybe h v ≡ map_maybe h w
    maybe_same value.no_value value.no_value is = refl
    maybe_same (value.a_value v) (value.a_value w) is =
        let a : map_value f v ≡ map_value f w = cc in
        ap value.a_value (value_same v w a)
    maybe_same v w is = absurd (let no : ⊥ = cc in no)

    -- parts of builtins and helpers
    parts_same : (ps qs : Parts τ) → map_parts f ps ≡ map_parts f qs → map_parts h ps ≡ map_parts h qs
    parts_same value.no_parts value.no_parts is = refl
    parts_same (value.and_part p ps) (value.and_part q qs) is =
        let a : map_part f p ≡ map_part f q = cc in
        let b : map_parts f ps ≡ map_parts f qs = cc in
        let first = part_same p q a in
        let rest = parts_same ps qs b in
        λ k. value.and_part (first k) (rest k)
    parts_same ps qs is = absurd (let no : ⊥ = cc in no)

    part_same : (p q : Part τ) → map_part f p ≡ map_part f q → map_part h p ≡ map_part h q
    part_same (value.mark_part m) (value.mark_part n) is =
        let a : f m ≡ f n = cc in
        ap value.mark_part (same m n a)
    part_same (value.number_part n) (value.number_part m) is =
        let a : n ≡ m = cc in
        ap value.number_part a
    part_same (value.flag_part a) (value.flag_part b) is =
        let x : a ≡ b = cc in
        ap value.flag_part x
    part_same (value.value_part v) (value.value_part w) is =
        let a : map_maybe f v ≡ map_maybe f w = cc in
        ap value.value_part (maybe_same v w a)
    part_same (value.options_part o) (value.options_part r) is =
        let a : map_options f o ≡ map_options f r = cc in
        ap value.options_part (options_same o r a)
    part_same p q is = absurd (let no : ⊥ = cc in no)
