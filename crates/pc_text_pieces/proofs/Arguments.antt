-- The arguments of a host module from a place on.
use Rattle.std.proofs.Common.{◌≡◌, ℕ, ◌+◌, Bool, false, List, ◌++◌, map, drop, Some, ap, ◌∙◌, sym, append_assoc}
use Rattle.std.specs.Prelude.{◌&&◌, codes, nat_eq, length, slice_get}
use Rattle.std.specs.List.{flat_map}
use Rattle.pc_spec_plan.specs.PlanView.{NamedDefinition}
use Rattle.pc_spec_plan.specs.Text.{definition, named_definitions, quoted}
use Rattle.pc_info.specs.declared.core_def.CoreDef.{CoreDef}
use Rattle.pc_info.specs.Definitions.{argument_view, arguments_view}
use Rattle.pc_text_pieces.specs.Joined.{joined, separator}
use Rattle.pc_text_pieces.proofs.Entries.{drop_at}
use Rattle.pc_text_pieces.proofs.Joining.{first_behind-named, joined-append, named_definitions-append}

-- the text of an argument
abbrev named_text : NamedDefinition → List ℕ
named_text d = quoted d.module_name ++ codes " " ++ quoted d.name ++ codes " " ++ definition d.definition

-- an argument was appended behind its separator, and those after it are left
pub argument_done : {A : Type 0} (f : A → NamedDefinition) (start before between after : List ℕ) (is_first : Bool)
    (xs : List A) (i : ℕ) (x : A) → slice_get xs i ≡ Some x
    → between ≡ before ++ separator is_first
    → after ≡ between ++ (quoted (f x).module_name ++ codes " " ++ quoted (f x).name ++ codes " "
    ++ definition (f x).definition)
    → before ++ joined is_first (named_definitions (map f (drop i xs))) ≡ start
    → after ++ joined false (named_definitions (map f (drop (i + 1) xs))) ≡ start
argument_done f start before between after is_first xs i x at put then left =
    let rest = joined false (named_definitions (map f (drop (i + 1) xs))) in
    let whole : before ++ (separator is_first ++ named_text (f x) ++ rest) ≡ start = rw (drop_at xs i x at) at left in
    let same : before ++ separator is_first ++ named_text (f x) ++ rest
    ≡ before ++ (separator is_first ++ named_text (f x) ++ rest) = simp append_assoc in
    rw (then, put) (same ∙ whole)

-- the arguments of a module name were appended, and those of the names after it are left
pub group_done : (start before after : List ℕ) (are_first next : Bool) (xs : List (List ℕ × List (List ℕ × CoreDef)))
    (i : ℕ) (x : List ℕ × List (List ℕ × CoreDef)) → slice_get xs i ≡ Some x
    → after ≡ before ++ joined are_first (named_definitions (arguments_view x))
    → before ++ joined are_first (named_definitions (flat_map arguments_view (drop i xs))) ≡ start
    → next ≡ (are_first && nat_eq (length x.1) 0)
    → after ++ joined next (named_definitions (flat_map arguments_view (drop (i + 1) xs))) ≡ start
group_done start before after are_first next xs i x at put left as_told =
    let here = named_definitions (arguments_view x) in
    let more = flat_map arguments_view (drop (i + 1) xs) in
    let rest = named_definitions more in
    let first = are_first && nat_eq (length x.1) 0 in
    let whole : before ++ joined are_first (named_definitions (arguments_view x ++ more)) ≡ start =
    rw (drop_at xs i x at) at left in
    let split : joined are_first (named_definitions (arguments_view x ++ more))
    ≡ joined are_first here ++ joined first rest =
    ap (joined are_first) (named_definitions-append (arguments_view x) more)
    ∙ joined-append are_first here rest
    ∙ ap (λ (b : Bool). joined are_first here ++ joined b rest)
    (first_behind-named (argument_view x.0) are_first x.1) in
    let same : before ++ joined are_first here ++ joined first rest ≡ start =
    append_assoc before (joined are_first here) (joined first rest)
    ∙ ap (λ (l : List ℕ). before ++ l) (sym split) ∙ whole in
    rw (put, as_told) same
