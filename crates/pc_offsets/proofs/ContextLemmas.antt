-- The fields of a context have alignments, and its size is told where it fits.
use Rattle.std.proofs.Common.{◌≡◌, ◌⊎◌, inl, inr, ℕ, ◌<◌, ◌≤◌, length, Some, None, refl, subst, ap, sym, ◌∙◌, arith}
use Rattle.std.specs.Prelude.{nat_le, if◌then◌else◌}
use Rattle.std.proofs.lemmas.Bool.{le-leb, lt-leb}
use Rattle.pc_info.specs.declared.component.Component.{Component}
use Rattle.pc_offsets.specs.Context.{Entries, IsLaidOut, context, context_size, entries_for, entries_of, layout_of}
use Rattle.pc_offsets.specs.Context.{used_end}
use Rattle.pc_offsets.specs.declared.offsets.VMComponentOffsets.{VMComponentOffsets}
use Rattle.pc_offsets.specs.Layout.{AreAligned, size_of}
use Rattle.pc_offsets.proofs.LayoutLemmas.{past_by_field}

-- a pointer takes bytes
positive : (p : ℕ) → (p ≡ 4) ⊎ (p ≡ 8) → 0 < p
positive p (inl four) = omega (arith, four)
positive p (inr eight) = omega (arith, eight)

-- each field of a context has an alignment
pub context_aligned : (p : ℕ) (e : Entries) → (p ≡ 4) ⊎ (p ≡ 8) → AreAligned (context p e)
context_aligned p e width =
    let pos = positive p width in
    (omega arith, (pos, (omega arith, (pos, (pos, (pos, (pos, (pos, (pos, (pos, (pos, (pos, tt))))))))))))

-- trampolines and intrinsics that were counted are those of the plan
pub counted : (p : ℕ) (c : Component) (trampolines intrinsics : ℕ) → trampolines ≡ length c.trampolines
    → intrinsics ≡ used_end c.unsafe_intrinsics
    → context p (record (entries_of c) { trampolines = trampolines; intrinsics = intrinsics })
    ≡ context p (entries_of c)
counted p c trampolines intrinsics one two = rw (one, two) refl

-- so many trampolines make a context pass the greatest `u32`
pub past_by_trampolines : (p : ℕ) (e : Entries) → (p ≡ 4) ⊎ (p ≡ 8) → 4294967295 < e.trampolines
    → 4294967295 < size_of (context p e)
past_by_trampolines p e width past =
    let bytes = positive p width in
    past_by_field (context p e) (context_aligned p e width) 3 _ _ refl refl (omega (arith, bytes)) 4294967295 past

-- a number that fits is told, and another isn't
told : (s n : ℕ) → n ≡ s → n ≤ 4294967295 → Some n ≡ (if nat_le s 4294967295 then Some s else None)
told s n is fits =
    subst (λ (x : ℕ). Some n ≡ (if nat_le x 4294967295 then Some x else None)) is (rw (le-leb n 4294967295 fits) refl)

untold : (s : ℕ) → 4294967295 < s → None ≡ (if nat_le s 4294967295 then Some s else None)
untold s past = rw (lt-leb s 4294967295 past) refl

-- the size of the context of a plan, for whose counts offsets are kept
pub size_told : {P : Type 0} (bytes : P → ℕ) (o : VMComponentOffsets P) (ptr : P) (c : Component) (size : ℕ)
    → IsLaidOut bytes o → o.ptr ≡ ptr → entries_for o ≡ entries_of c → size ≡ size_of (layout_of bytes o)
    → Some size ≡ context_size (bytes ptr) c
unfolding context_size
size_told {P} bytes o ptr c size kept ptr_is entries_are is =
    let same = is ∙ ap (λ (q : P). size_of (context (bytes q) (entries_for o))) ptr_is
    ∙ ap (λ (e : Entries). size_of (context (bytes ptr) e)) entries_are in
    told (size_of (context (bytes ptr) (entries_of c))) size same
    (subst (λ (n : ℕ). n ≤ 4294967295) (kept.end_is ∙ sym is) kept.end_fits)

-- it isn't told where it passes the greatest `u32`
pub size_untold : (p : ℕ) (c : Component) → 4294967295 < size_of (context p (entries_of c)) → None ≡ context_size p c
unfolding context_size
size_untold p c past = untold (size_of (context p (entries_of c))) past
