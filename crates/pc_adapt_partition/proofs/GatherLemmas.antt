-- A module while its adapters are gathered.
use Rattle.std.proofs.Common.{Bool, ◌≡◌, ℕ, ◌+◌, ◌*◌, List, [], ◌∷◌, ◌++◌, length, sym, ap, subst, ◌∙◌}
use Rattle.std.proofs.Common.{arith, length-append}
use Rattle.std.specs.Prelude.{Some, slice_get}
use Rattle.pc_dfg.specs.declared.adapter.Adapter.{Adapter}
use Rattle.pc_dfg.specs.declared.dfg.ComponentDfg.{ComponentDfg}
use Rattle.pc_dfg.specs.Ordered.{IsOrdered}
use Rattle.pc_dfg.proofs.GrowLemmas.{grows_refl}
use Rattle.pc_spec_adapt.specs.Asked.{FunctionFacts}
use Rattle.pc_adapt.specs.Imports.{imports_of}
use Rattle.pc_adapt.specs.Places.{record_of}
use Rattle.pc_adapt_define.proofs.AddsLemmas.{adds_more, adds_none, adds_twice}
use Rattle.pc_adapt_define.proofs.FewLemmas.{adds_few}
use Rattle.pc_adapt_define.proofs.OwnLemmas.{imports_held}
use Rattle.pc_adapt_define.proofs.OwnSlotLemmas.{own_from, own_none, own_twice}
use Rattle.pc_adapt_modules.specs.Entities.{entities_for, named_entities}
use Rattle.pc_adapt_partition.specs.declared.group.Group.{Group}
use Rattle.pc_adapt_partition.specs.Gathered.{AreGiven, Gathers, Puts}
use Rattle.pc_adapt_partition.specs.Parts.{Part, total_imports}
use Rattle.pc_adapt_partition.proofs.GivenLemmas.{given_between, given_long, given_more, HeldParts, zip_between}
use Rattle.pc_adapt_partition.proofs.PartLemmas.{entities_more, records_more, signatures_more, total_more}

-- nothing is gathered
pub gathers_none : (g : ComponentDfg) (first : ℕ) (group : Group) → group.parts ≡ record { imports = []; funcs = [] }
    → group.records ≡ [] → group.args ≡ [] → Gathers g g first [] group
gathers_none g first group parts records args = record {
  adds = adds_none g;
  own = own_none g;
  imports = ap (λ p. p.imports) parts;
  funcs = ap (λ p. p.funcs) parts;
  records = records;
  given = args;
  many = ap length args;
  room = omega arith;
}

-- one adapter more
pub gathers_more : (g m n : ComponentDfg) (first : ℕ) (ps : List Part) (x : Adapter) (lift lower : FunctionFacts)
    (clear : Bool)
    (old new : Group) → IsOrdered g → HeldParts g ps → slice_get g.adapters (first + length ps) ≡ Some x
    → Gathers g m first ps old → Puts m n (first + length ps) x (imports_of lift lower clear x) old new
    → Gathers g n first (ps ++ (x, imports_of lift lower clear x) ∷ []) new
gathers_more g m n first ps x lift lower clear old new o held at so_far puts =
    let is = imports_of lift lower clear x in
    let p : Part = (x, is) in
    let k = length ps in
    let s = x.lower_options.core_type in
    let heldm = (so_far.adds.ordered o).held in
    let same = ap (λ (i : ComponentDfg). i.adapters) so_far.adds.rest in
    let one = adds_few m n s x lift lower clear old.args new.args puts.defined in
    let heldn = (one.ordered (so_far.adds.ordered o)).held in
    let longer = length-append ps (p ∷ []) in
    let all = total_more ps p in
    let place : length old.args ≡ 0 + total_imports ps = omega (arith, so_far.many) in
    let own = zip_between g m n n so_far.adds.grows (grows_refl n) heldm heldn s is puts.defined.defs
    (imports_held g (first + k) x lift lower clear o.held at) puts.defined.each in
    let given : AreGiven g n (ps ++ p ∷ []) new.args =
    subst (AreGiven g n (ps ++ p ∷ [])) (sym puts.defined.are)
    (given_more g n ps old.args p puts.defined.defs
    (given_between g g m n (grows_refl g) one.grows o.held heldm ps old.args held so_far.given) own) in
    record {
      adds = adds_more (9 * k + 9) (k + 1) (k + 1) (12 * k + 12) (9 * length (ps ++ p ∷ [])) (length (ps ++ p ∷ []))
          (length (ps ++ p ∷ [])) (12 * length (ps ++ p ∷ [])) g n (omega (arith, longer)) (omega (arith, longer))
          (omega (arith, longer)) (omega (arith, longer))
          (adds_twice (9 * k) k k (12 * k) 9 1 1 12 g m n so_far.adds one);
      own = own_twice g m n same so_far.own
          (own_from m n (first + k) x lift lower clear
          (ap (λ xs. slice_get xs (first + k)) same ∙ at) puts.defined.only);
      imports = ap (λ (q : Group). q.parts.imports) puts.is
          ∙ ap (λ es. es ++ named_entities (first + k) 0 (entities_for x (length is))) so_far.imports
          ∙ sym (entities_more first ps p);
      funcs = ap (λ (q : Group). q.parts.funcs) puts.is
          ∙ ap (λ fs. fs ++ x.lower_options.core_type.0 ∷ []) so_far.funcs
          ∙ sym (signatures_more ps p);
      records = ap (λ (q : Group). q.records) puts.is
          ∙ (λ i. so_far.records i ++ record_of (place i) (first + k) x ∷ [])
          ∙ sym (records_more 0 first ps p);
      given = given;
      many = given_long g n (ps ++ p ∷ []) new.args given;
      room = omega (arith, all, puts.room, so_far.many);
    }
