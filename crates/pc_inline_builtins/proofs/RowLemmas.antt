-- The rows of the reading that declare builtins, each as what its builtin reads.
use Rattle.std.proofs.Common.{◌≡◌, ℕ, Bool, List, [], ◌∷◌, Option, None, Some, Result, Ok, refl, subst}
use Rattle.std.specs.Prelude.{option_and_then, option_map, slice_get}
use Rattle.std.specs.Borrow.{Bor}
use Rattle.std.proofs.lemmas.Option.{none-some, same_Some}
use Rattle.pc_types.specs.declared.module_record.ModuleRecord.{ModuleRecord}
use Rattle.pc_types.specs.declared.parsed.CoreFuncSig.{CoreFuncSig}
use Rattle.pc_types.specs.declared.parsed.TypeTable.{TypeTable}
use Rattle.pc_types.specs.declared.parsed.ValType.{ValType}
use Rattle.pc_types.specs.declared.trampoline.TrampolineKind.{TrampolineKind}
use Rattle.pc_types.specs.declared.trampoline.TrampolineKind.TheVariants as kind
use Rattle.pc_types.specs.TypeTree.{TypeTree}
use Rattle.pc_spec_plan.specs.CoreValue.{Options, options_part, value_part, a_value, number_part}
use Rattle.pc_parsed.specs.declared.canon.CanonOption.{CanonOption}
use Rattle.pc_parsed.specs.Mark.{Mark}
use Rattle.pc_spec_reading.specs.Builtins.{add_builtin, part_of, read_builtin, read_error_context, read_new_thread}
use Rattle.pc_spec_reading.specs.Builtins.{read_task_return, read_waitable, type_part}
use Rattle.pc_spec_reading.specs.Item
use Rattle.pc_spec_reading.specs.Options.{memory_options, options_of}
use Rattle.pc_spec_reading.specs.Outcome.{Fault, after, bad_type, found, invalid}
use Rattle.pc_spec_reading.specs.Rows.{read_row}
use Rattle.pc_spec_reading.specs.Scope.{Moment, Scope}
use Rattle.pc_spec_reading.specs.Types.{results_tree, signature_at, type_tree}
use Rattle.pc_inline_builtins.specs.declared.builtin.Builtin.{Builtin}
use Rattle.pc_inline_builtins.specs.declared.builtin.First.{First}
use Rattle.pc_inline_builtins.specs.declared.builtin.First.TheVariants as first
use Rattle.pc_inline_builtins.specs.declared.builtin.Handle.{Handle}
use Rattle.pc_inline_builtins.specs.declared.builtin.Handle.TheVariants as handle
use Rattle.pc_inline_builtins.specs.declared.builtin.Second.{Second}
use Rattle.pc_inline_builtins.specs.declared.builtin.Second.TheVariants as second
use Rattle.pc_inline_builtins.specs.Reads.{ReadPart, of_handle, optioned_or, read_first, read_made, read_second, typed_or}
use Rattle.pc_inline_builtins.specs.Written.{both_of, handle_operand, item_of}

-- what is found goes on the same way
found_same : {A B : Type 0} (x : Fault) (o : Option A) (g h : A → Result B Fault) → ((a : A) → g a ≡ h a)
    → found x o g ≡ found x o h
found_same x None g h same = refl
found_same x (Some a) g h same = same a

-- what is found and then goes on
after_found : {A B C : Type 0} (x : Fault) (o : Option A) (f : A → B) (go : B → Result C Fault)
    → found x o (λ a. go (f a)) ≡ after (found x o (λ a. Ok (f a))) go
after_found x None f go = refl
after_found x (Some a) f go = refl

-- an operand that is a type is read as such a type
handle_read : (t : TypeTable) (s : Scope) (signature : CoreFuncSig) (h : Handle) (n : ℕ)
    → part_of t s signature (handle_operand h n)
    ≡ found bad_type (option_and_then (of_handle h) (type_tree t s n)) (λ (tree : TypeTree). Ok (type_part tree))
handle_read t s signature handle.Resource n = refl
handle_read t s signature handle.Stream n = refl
handle_read t s signature handle.Future n = refl

module _ {C : Type 0} (go : List ReadPart → C) where
  -- a type, and nothing behind it
  type_alone : (tree : Option TypeTree)
      → ◌≡◌ {A = Result C Fault} (after (after (found bad_type tree (λ (x : TypeTree). Ok (type_part x)))
      (λ p. after (Ok []) (λ ps. Ok (p ∷ ps)))) (λ (ps : List ReadPart). Ok (go ps)))
      (after (typed_or tree) (λ (p : Option ReadPart). Ok (go (both_of p None))))
  type_alone None = refl
  type_alone (Some tree) = refl

  -- a type, and then a part
  type_then : (tree : Option TypeTree) (q : ReadPart)
      → ◌≡◌ {A = Result C Fault} (after (after (found bad_type tree (λ (x : TypeTree). Ok (type_part x)))
      (λ p. after (Ok (q ∷ [])) (λ ps. Ok (p ∷ ps)))) (λ (ps : List ReadPart). Ok (go ps)))
      (after (typed_or tree) (λ (p : Option ReadPart). Ok (go (both_of p (Some q)))))
  type_then None q = refl
  type_then (Some tree) q = refl

  -- a type, and then options
  type_options : (tree : Option TypeTree) (o : Option (Options Mark))
      → ◌≡◌ {A = Result C Fault} (after (after (found bad_type tree (λ (x : TypeTree). Ok (type_part x)))
      (λ p. after (after (found invalid o (λ (x : Options Mark). Ok (options_part x)))
      (λ p. after (Ok []) (λ ps. Ok (p ∷ ps)))) (λ ps. Ok (p ∷ ps)))) (λ (ps : List ReadPart). Ok (go ps)))
      (after (typed_or tree) (λ (p : Option ReadPart). after (optioned_or o) (λ (q : Option ReadPart).
      Ok (go (both_of p q)))))
  type_options None o = refl
  type_options (Some tree) None = refl
  type_options (Some tree) (Some o) = refl

  -- a result, and then options
  result_options : (tree : Option TypeTree) (o : Option (Options Mark))
      → ◌≡◌ {A = Result C Fault} (found bad_type tree (λ (x : TypeTree). found invalid o (λ (y : Options Mark).
      Ok (go (type_part x ∷ options_part y ∷ [])))))
      (after (typed_or tree) (λ (p : Option ReadPart). after (optioned_or o) (λ (q : Option ReadPart).
      Ok (go (both_of p q)))))
  result_options None o = refl
  result_options (Some tree) None = refl
  result_options (Some tree) (Some o) = refl

  -- a part, and then options
  part_options : (p : ReadPart) (o : Option (Options Mark))
      → ◌≡◌ {A = Result C Fault} (found invalid (option_map (λ (x : Options Mark). options_part x ∷ []) o)
      (λ (more : List ReadPart). Ok (go (p ∷ more))))
      (after (optioned_or o) (λ (q : Option ReadPart). Ok (go (both_of (Some p) q))))
  part_options p None = refl
  part_options p (Some o) = refl

module _ (t : TypeTable) (ms : List ModuleRecord) (now : Moment) (k : TrampolineKind) (core : ℕ) where
  -- a builtin of this kind
  abbrev made : First → Second → Builtin
  made f s = record { kind = k; core = core; first = f; second = s }

  -- the row of an item is what the builtin reads
  abbrev Same : First → Second → Item.Item → Type 0
  Same f s i = read_row t ms now i ≡ read_made t (made f s) now

  -- the moment with the builtin
  abbrev adding : CoreFuncSig → List ReadPart → Moment
  adding s ps = add_builtin now k s ps

  plain_row : Same first.Nothing second.Nothing (Item.builtin_item k core [])
  unfolding read_row read_builtin read_made read_first read_second
  plain_row = refl

  flag_row : (b : Bool) → Same first.Nothing (second.Flag b) (Item.builtin_item k core (Item.a_flag b ∷ []))
  unfolding read_row read_builtin read_made read_first read_second
  flag_row b = refl

  memory_row : (n : ℕ) → Same first.Nothing (second.Memory n) (Item.waitable_item k core n)
  unfolding read_row read_waitable read_made read_first read_second
  memory_row n =
      found_same bad_type (signature_at t core) _ _ (λ s.
      after_found invalid (slice_get now.scope.memories n) (λ v. Some (options_part (memory_options now.scope s v)))
      (λ (q : Option ReadPart). Ok (adding s (both_of None q))))

  module _ (h : Handle) (n : ℕ) where
    -- the tree of the type
    abbrev tree : Option TypeTree
    tree = option_and_then (of_handle h) (type_tree t now.scope n)

    handle_row : Same (first.Handle h n) second.Nothing (Item.builtin_item k core (handle_operand h n ∷ []))
    unfolding read_row read_builtin read_made read_first read_second
    handle_row =
        found_same bad_type (signature_at t core) _ _ (λ s.
        rw (handle_read t now.scope s h n) (type_alone (adding s) tree))

    handle_flag_row : (b : Bool)
        → Same (first.Handle h n) (second.Flag b) (Item.builtin_item k core (handle_operand h n ∷ Item.a_flag b ∷ []))
    unfolding read_row read_builtin read_made read_first read_second
    handle_flag_row b =
        found_same bad_type (signature_at t core) _ _ (λ s.
        rw (handle_read t now.scope s h n) (type_then (adding s) tree _))

    handle_options_row : (opts : Bor (List CanonOption))
        → Same (first.Handle h n) (second.Options opts)
        (Item.builtin_item k core (handle_operand h n ∷ Item.the_options opts.now ∷ []))
    unfolding read_row read_builtin read_made read_first read_second
    handle_options_row opts =
        found_same bad_type (signature_at t core) _ _ (λ s.
        rw (handle_read t now.scope s h n) (type_options (adding s) tree (options_of now.scope s opts.now)))

  contexts_row : Same first.ErrorContexts second.Nothing (Item.error_context_item k core None)
  unfolding read_row read_error_context read_made read_first read_second
  contexts_row = refl

  contexts_options_row : (opts : Bor (List CanonOption))
      → Same first.ErrorContexts (second.Options opts) (Item.error_context_item k core (Some opts.now))
  unfolding read_row read_error_context read_made read_first read_second
  contexts_options_row opts =
      found_same bad_type (signature_at t core) _ _ (λ s.
      part_options (adding s) _ (options_of now.scope s opts.now))

  -- the row of an item that a builtin is
  item_row : (f : First) (s : Second) (i : Item.Item) → item_of (made f s) ≡ Some i → Same f s i
  item_row first.Nothing second.Nothing i is = subst (Same first.Nothing second.Nothing) (same_Some _ i is) plain_row
  item_row first.Nothing (second.Flag b) i is =
      subst (Same first.Nothing (second.Flag b)) (same_Some _ i is) (flag_row b)
  item_row first.Nothing (second.Memory n) i is =
      subst (Same first.Nothing (second.Memory n)) (same_Some _ i is) (memory_row n)
  item_row (first.Handle h n) second.Nothing i is =
      subst (Same (first.Handle h n) second.Nothing) (same_Some _ i is) (handle_row h n)
  item_row (first.Handle h n) (second.Flag b) i is =
      subst (Same (first.Handle h n) (second.Flag b)) (same_Some _ i is) (handle_flag_row h n b)
  item_row (first.Handle h n) (second.Options opts) i is =
      subst (Same (first.Handle h n) (second.Options opts)) (same_Some _ i is) (handle_options_row h n opts)
  item_row first.ErrorContexts second.Nothing i is =
      subst (Same first.ErrorContexts second.Nothing) (same_Some _ i is) contexts_row
  item_row first.ErrorContexts (second.Options opts) i is =
      subst (Same first.ErrorContexts (second.Options opts)) (same_Some _ i is) (contexts_options_row opts)
  item_row f s i is = absurd (none-some i is)

module _ (t : TypeTable) (ms : List ModuleRecord) (now : Moment) where
  -- the row of an item that a builtin is
  pub made_row : (b : Builtin) (i : Item.Item) → item_of b ≡ Some i → read_row t ms now i ≡ read_made t b now
  made_row b i is = item_row t ms now b.kind b.core b.first b.second i is

  -- the end of a task
  pub task_return_row : (core : ℕ) (result : Option ValType) (opts : Bor (List CanonOption))
      → read_row t ms now (Item.task_return_item core result opts.now)
      ≡ read_made t (made t ms now kind.TaskReturn core (first.Results result) (second.Options opts)) now
  unfolding read_row read_task_return read_made read_first read_second
  task_return_row core result opts =
      found_same bad_type (signature_at t core) _ _ (λ s.
      result_options (add_builtin now kind.TaskReturn s) (results_tree t now.scope result)
      (options_of now.scope s opts.now))

  -- a new thread
  pub new_thread_row : (core start n : ℕ)
      → read_row t ms now (Item.new_thread_item core start n)
      ≡ read_made t (made t ms now kind.ThreadNewIndirect core (first.Number start) (second.Table n)) now
  unfolding read_row read_new_thread read_made read_first read_second
  new_thread_row core start n =
      found_same bad_type (signature_at t core) _ _ (λ s.
      after_found invalid (slice_get now.scope.tables n) (λ v. Some (value_part (a_value v)))
      (λ (q : Option ReadPart). Ok (add_builtin now kind.ThreadNewIndirect s (both_of (Some (number_part start)) q))))
