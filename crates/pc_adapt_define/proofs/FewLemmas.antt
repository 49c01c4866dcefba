-- How many entries definitions for the imports of an adapter add to a graph at most.
use Rattle.std.proofs.Common.{◌≡◌, ◌≤◌, ℕ, ◌+◌, Bool, true, false, ◌&&◌, List, [], ◌∷◌, ◌++◌, length, Option, None}
use Rattle.std.proofs.Common.{Some, arith}
use Rattle.std.specs.Prelude.{map, option_map}
use Rattle.pc_numbers.specs.declared.module_entity.ModuleInternedTypeIndex.{ModuleInternedTypeIndex}
use Rattle.pc_types.specs.declared.encoding.StringEncoding.{StringEncoding}
use Rattle.pc_types.specs.declared.encoding.StringEncoding.TheVariants as encoding
use Rattle.pc_types_lists.specs.declared.facts.TypeFacts.{TypeFacts}
use Rattle.pc_types_lists.specs.Facts.{join}
use Rattle.pc_trampoline.specs.declared.transcode.Transcode.{Transcode}
use Rattle.pc_dfg.specs.declared.adapter.Adapter.{Adapter}
use Rattle.pc_dfg.specs.declared.adapter.AdapterOptions.{AdapterOptions}
use Rattle.pc_dfg.specs.declared.core_def.CoreDef.{CoreDef}
use Rattle.pc_dfg.specs.declared.core_def.CoreDef.TheVariants as def
use Rattle.pc_dfg.specs.declared.dfg.ComponentDfg.{ComponentDfg}
use Rattle.pc_spec_adapt.specs.Asked.{FunctionFacts}
use Rattle.pc_spec_adapt.specs.Planned.{all_facts, transcodings}
use Rattle.pc_adapt.specs.declared.import.Import.{Import}
use Rattle.pc_adapt.specs.declared.import.Import.TheVariants as import
use Rattle.pc_adapt.specs.Imports.{calls, copies, copies_if, copy, definitions, import_if, imports_of, is_async_call}
use Rattle.pc_adapt.specs.Imports.{Memory, memory_imports, memory_of, realloc_of, side_imports, transfer_imports}
use Rattle.pc_adapt_define.specs.Adds.{Adds, one_if}
use Rattle.pc_adapt_define.specs.Define.{AreDefined, callbacks_in, memories_in, post_returns_in, total, trampolines_in}
use Rattle.pc_adapt_define.proofs.AddsLemmas.{adds_more}

-- one or two steps bring a string from one encoding into another
transcodings_few : (a b : StringEncoding) → length (transcodings a b) ≤ 2
transcodings_few encoding.Utf8 encoding.Utf8 = omega arith
transcodings_few encoding.Utf8 encoding.Utf16 = omega arith
transcodings_few encoding.Utf8 encoding.CompactUtf16 = omega arith
transcodings_few encoding.Utf16 encoding.Utf8 = omega arith
transcodings_few encoding.Utf16 encoding.Utf16 = omega arith
transcodings_few encoding.Utf16 encoding.CompactUtf16 = omega arith
transcodings_few encoding.CompactUtf16 encoding.Utf8 = omega arith
transcodings_few encoding.CompactUtf16 encoding.Utf16 = omega arith
transcodings_few encoding.CompactUtf16 encoding.CompactUtf16 = omega arith

-- what may be left out counts one at most
one_few : {A : Type 0} (o : Option A) → one_if o ≤ 1
one_few None = omega arith
one_few (Some x) = omega arith

module _ (f : Import → ℕ) where
  -- the total of two lists
  total_append : (xs ys : List Import) → total f (xs ++ ys) ≡ total f xs + total f ys
  total_append [] ys = omega arith
  total_append (x ∷ xs) ys = let rest = total_append xs ys in omega (arith, rest)

  -- where both are bounded
  both : (xs ys : List Import) (m n : ℕ) → total f xs ≤ m → total f ys ≤ n → total f (xs ++ ys) ≤ m + n
  both xs ys m n first second = omega (arith, total_append xs ys, first, second)

  -- where the first one counts nothing
  behind_none : (xs ys : List Import) (n : ℕ) → total f xs ≤ 0 → total f ys ≤ n → total f (xs ++ ys) ≤ n
  behind_none xs ys n first second = omega (arith, total_append xs ys, first, second)

  -- where definitions count nothing, two of a kind of copy no more than t, a helper without slots no more than b, and a
  -- call no more than k
  record Counts (t b k : ℕ) : Type 0 where
    none : (d : CoreDef) → f (import.CoreDef d) ≤ 0
    two : (ops : List Transcode) (x y : Memory) → length ops ≤ 2 → total f (map (copy x y) ops) ≤ t
    own : f import.ResourceTransferOwn ≤ b
    borrow : f import.ResourceTransferBorrow ≤ b
    future : f import.FutureTransfer ≤ b
    stream : f import.StreamTransfer ≤ b
    error_context : f import.ErrorContextTransfer ≤ b
    trap : f (import.Trap (record { 0 = 1 })) ≤ b
    call : (is_async clear : Bool) (o : AdapterOptions) → total f (calls is_async clear o) ≤ k

  module _ (t b k : ℕ) (counts : Counts t b k) where
    -- a definition
    one_none : (d : CoreDef) → total f (import.CoreDef d ∷ []) ≤ 0
    one_none d = let none = counts.none d in omega (arith, none)

    definitions_none : (o : Option CoreDef) → total f (definitions o) ≤ 0
    definitions_none None = omega arith
    definitions_none (Some d) = one_none d

    memory_none : (m : Option Memory) → total f (memory_imports m) ≤ 0
    memory_none None = omega arith
    memory_none (Some m) = one_none _

    -- what the options of a side hold
    side_none : (o : AdapterOptions) → total f (side_imports o) ≤ 0
    side_none o =
        let p = memory_imports (memory_of o.data_model) in
        let q = definitions (realloc_of o.data_model) in
        let r = definitions o.callback in
        let s = definitions o.post_return in
        both (p ++ q ++ r) s 0 0
        (both (p ++ q) r 0 0
        (both p q 0 0 (memory_none (memory_of o.data_model)) (definitions_none (realloc_of o.data_model)))
        (definitions_none o.callback)) (definitions_none o.post_return)

    -- the transcoders of one direction
    copies_few : (ops : List Transcode) (x y : Option Memory) → length ops ≤ 2 → total f (copies ops x y) ≤ t
    copies_few ops None y few = omega arith
    copies_few ops (Some x) None few = omega arith
    copies_few ops (Some x) (Some y) few = counts.two ops x y few

    copies_if_few : (moved : Bool) (o r : AdapterOptions) → total f (copies_if moved o r) ≤ t
    copies_if_few true o r =
        copies_few (transcodings o.string_encoding r.string_encoding) (memory_of o.data_model)
        (memory_of r.data_model) (transcodings_few o.string_encoding r.string_encoding)
    copies_if_few false o r = omega arith

    import_few : (asked : Bool) (i : Import) → f i ≤ b → total f (import_if asked i) ≤ b
    import_few true i few = omega (arith, few)
    import_few false i few = omega arith

    -- the transfers of handles
    transfers_few : (x : TypeFacts) → total f (transfer_imports x) ≤ b + b + b + b + b
    transfers_few x =
        let p = import_if x.own import.ResourceTransferOwn in
        let q = import_if x.borrow import.ResourceTransferBorrow in
        let r = import_if x.future import.FutureTransfer in
        let s = import_if x.stream import.StreamTransfer in
        let u = import_if x.error_context import.ErrorContextTransfer in
        both (p ++ q ++ r ++ s) u (b + b + b + b) b
        (both (p ++ q ++ r) s (b + b + b) b
        (both (p ++ q) r (b + b) b
        (both p q b b (import_few x.own import.ResourceTransferOwn counts.own)
        (import_few x.borrow import.ResourceTransferBorrow counts.borrow))
        (import_few x.future import.FutureTransfer counts.future))
        (import_few x.stream import.StreamTransfer counts.stream))
        (import_few x.error_context import.ErrorContextTransfer counts.error_context)

    -- all imports of an adapter
    imports_few : (lift lower : FunctionFacts) (clear : Bool) (x : Adapter)
        → total f (imports_of lift lower clear x) ≤ t + t + (b + b + b + b + b) + k + b
    unfolding imports_of
    imports_few lift lower clear x =
        let o = x.lift_options in
        let r = x.lower_options in
        let flags = import.CoreDef (def.InstanceFlags r.instance) in
        let flags' = import.CoreDef (def.InstanceFlags o.instance) in
        let is1 = import.CoreDef x.func ∷ flags ∷ flags' ∷ [] in
        let is2 = side_imports o in
        let is3 = side_imports r in
        let is4 = copies_if (lift.params.string && lower.params.string) r o in
        let is5 = copies_if (lift.results.string && lower.results.string) o r in
        let is6 = transfer_imports (join (all_facts lift) (all_facts lower)) in
        let is7 = calls (is_async_call lift lower x) clear o in
        let is8 = import.Trap (record { 0 = 1 }) ∷ [] in
        let first : total f is1 ≤ 0 =
        (let one = counts.none x.func in
        let two = counts.none (def.InstanceFlags r.instance) in
        let three = counts.none (def.InstanceFlags o.instance) in
        omega (arith, one, two, three)) in
        let last : total f is8 ≤ b = (let trap = counts.trap in omega (arith, trap)) in
        both (is1 ++ is2 ++ is3 ++ is4 ++ is5 ++ is6 ++ is7) is8 (t + t + (b + b + b + b + b) + k) b
        (both (is1 ++ is2 ++ is3 ++ is4 ++ is5 ++ is6) is7 (t + t + (b + b + b + b + b)) k
        (both (is1 ++ is2 ++ is3 ++ is4 ++ is5) is6 (t + t) (b + b + b + b + b)
        (both (is1 ++ is2 ++ is3 ++ is4) is5 t t
        (behind_none (is1 ++ is2 ++ is3) is4 t
        (both (is1 ++ is2) is3 0 0
        (both is1 is2 0 0 first (side_none o))
        (side_none r))
        (copies_if_few (lift.params.string && lower.params.string) r o))
        (copies_if_few (lift.results.string && lower.results.string) o r))
        (transfers_few (join (all_facts lift) (all_facts lower))))
        (counts.call (is_async_call lift lower x) clear o))
        last

-- two copies, where each counts no more than t
copies_count : (f : Import → ℕ) (t : ℕ) → ((op : Transcode) (x y : Memory) → f (copy x y op) ≤ t)
    → (ops : List Transcode) (x y : Memory) → length ops ≤ 2 → total f (map (copy x y) ops) ≤ t + t
copies_count f t each [] x y few = omega arith
copies_count f t each (op ∷ []) x y few = let one = each op x y in omega (arith, one)
copies_count f t each (op ∷ op' ∷ []) x y few =
    let one = each op x y in
    let two = each op' x y in
    omega (arith, one, two)
copies_count f t each (op ∷ op' ∷ op'' ∷ ops) x y few = absurd (omega (arith, few))

trampolines_count : Counts trampolines_in 2 1 2
trampolines_count = record {
  none = λ d. omega arith;
  two = λ ops x y few. copies_count trampolines_in 1 (λ op v w. omega arith) ops x y few;
  own = omega arith;
  borrow = omega arith;
  future = omega arith;
  stream = omega arith;
  error_context = omega arith;
  trap = omega arith;
  call = call;
}
  where
    call : (is_async clear : Bool) (o : AdapterOptions) → total trampolines_in (calls is_async clear o) ≤ 2
    call true clear o = omega arith
    call false true o = omega arith
    call false false o = omega arith

memories_count : Counts memories_in 4 0 1
memories_count = record {
  none = λ d. omega arith;
  two = λ ops x y few. copies_count memories_in 2 (λ op v w. omega arith) ops x y few;
  own = omega arith;
  borrow = omega arith;
  future = omega arith;
  stream = omega arith;
  error_context = omega arith;
  trap = omega arith;
  call = call;
}
  where
    call : (is_async clear : Bool) (o : AdapterOptions) → total memories_in (calls is_async clear o) ≤ 1
    call true clear o =
        let one = one_few (option_map (λ (m : Memory). m.0) (memory_of o.data_model)) in omega (arith, one)
    call false true o = omega arith
    call false false o = omega arith

callbacks_count : Counts callbacks_in 0 0 1
callbacks_count = record {
  none = λ d. omega arith;
  two = λ ops x y few. copies_count callbacks_in 0 (λ op v w. omega arith) ops x y few;
  own = omega arith;
  borrow = omega arith;
  future = omega arith;
  stream = omega arith;
  error_context = omega arith;
  trap = omega arith;
  call = call;
}
  where
    call : (is_async clear : Bool) (o : AdapterOptions) → total callbacks_in (calls is_async clear o) ≤ 1
    call true clear o = let one = one_few o.callback in omega (arith, one)
    call false true o = omega arith
    call false false o = omega arith

post_returns_count : Counts post_returns_in 0 0 1
post_returns_count = record {
  none = λ d. omega arith;
  two = λ ops x y few. copies_count post_returns_in 0 (λ op v w. omega arith) ops x y few;
  own = omega arith;
  borrow = omega arith;
  future = omega arith;
  stream = omega arith;
  error_context = omega arith;
  trap = omega arith;
  call = call;
}
  where
    call : (is_async clear : Bool) (o : AdapterOptions) → total post_returns_in (calls is_async clear o) ≤ 1
    call true clear o = let one = one_few o.post_return in omega (arith, one)
    call false true o = omega arith
    call false false o = omega arith

-- four transcoders, five transfers, two for the call and a trap
trampolines_few : (lift lower : FunctionFacts) (clear : Bool) (x : Adapter)
    → total trampolines_in (imports_of lift lower clear x) ≤ 12
trampolines_few lift lower clear x = imports_few trampolines_in 2 1 2 trampolines_count lift lower clear x

-- two for each of four transcoders, and the one of the call
memories_few : (lift lower : FunctionFacts) (clear : Bool) (x : Adapter)
    → total memories_in (imports_of lift lower clear x) ≤ 9
memories_few lift lower clear x = imports_few memories_in 4 0 1 memories_count lift lower clear x

callbacks_few : (lift lower : FunctionFacts) (clear : Bool) (x : Adapter)
    → total callbacks_in (imports_of lift lower clear x) ≤ 1
callbacks_few lift lower clear x = imports_few callbacks_in 0 0 1 callbacks_count lift lower clear x

post_returns_few : (lift lower : FunctionFacts) (clear : Bool) (x : Adapter)
    → total post_returns_in (imports_of lift lower clear x) ≤ 1
post_returns_few lift lower clear x = imports_few post_returns_in 0 0 1 post_returns_count lift lower clear x

-- what is added for the imports of an adapter is that at most
pub adds_at_most : (g h : ComponentDfg) (x : Adapter) (lift lower : FunctionFacts) (clear : Bool)
    → Adds (total memories_in (imports_of lift lower clear x)) (total callbacks_in (imports_of lift lower clear x))
    (total post_returns_in (imports_of lift lower clear x)) (total trampolines_in (imports_of lift lower clear x)) g h
    → Adds 9 1 1 12 g h
adds_at_most g h x lift lower clear adds =
    let is = imports_of lift lower clear x in
    adds_more (total memories_in is) (total callbacks_in is) (total post_returns_in is) (total trampolines_in is)
    9 1 1 12 g h (memories_few lift lower clear x) (callbacks_few lift lower clear x)
    (post_returns_few lift lower clear x)
    (trampolines_few lift lower clear x) adds

-- what definitions for the imports of an adapter add
pub adds_few : (g h : ComponentDfg) (s : ModuleInternedTypeIndex) (x : Adapter) (lift lower : FunctionFacts)
    (clear : Bool)
    (before after : List CoreDef) → AreDefined g h s (imports_of lift lower clear x) before after → Adds 9 1 1 12 g h
adds_few g h s x lift lower clear before after all = adds_at_most g h x lift lower clear all.adds
