use Rattle.std.proofs.Common.{◌≡◌, [], All, length, ◌∙◌, ap, sym, subst}
use Rattle.std.specs.List.{AllZip}
use Rattle.pc_dfg.specs.declared.dfg.ComponentDfg.{ComponentDfg}
use Rattle.pc_dfg_finish.specs.Exports.{IsConverted, IsNamed}
use Rattle.pc_dfg_finish.specs.Finishes.{IsItem}
use Rattle.pc_dfg_finish.specs.Taken.{CanConvert, without_exports}
use Rattle.pc_dfg_finish.proofs.FurtherLemmas.{can_export_all}
use Rattle.pc_dfg_finish.proofs.ItemLemmas.{is_item, items_held, zip_weaker}
use Rattle.pc_dfg_finish.proofs.NodeLemmas.{exports_stand}
use Rattle.pc_dfg_finish.proofs.TakenLemmas.{all_can_convert, all_converted}
use Rattle.pc_dfg_finish.proofs.exports.exports.Goals as goal

-- a graph from which names were taken, and then items
both_taken : (g h k : ComponentDfg) → h ≡ record g { exports = [] } → k ≡ record h { export_items = [] }
    → k ≡ without_exports g
both_taken g h k names items = items ∙ ap (λ (x : ComponentDfg). record x { export_items = [] }) names

pub items_of-requires : goal.items_of-requires
items_of-requires c =
    let g = c.args.graph.now in
    let h = c.take_items-exports.new.graph in
    let taken = c.take_items-exports.ensures in
    let types = c.args.types.now in
    let f = c.number_items.new.finish in
    let numbers = c.in_ok-number_items.ensures in
    let made = ap (λ is. length is) numbers.further.continues.instances ∙ c.requires.all_made in
    let rest = both_taken g c.take_names.new.graph h c.take_names.ensures.rest taken.rest in
    let items = taken.items ∙ ap (λ (x : ComponentDfg). x.export_items) c.take_names.ensures.rest in
    let can = all_can_convert g f types made g.export_items (can_export_all g c.requires.ordered c.requires.grouped)
    numbers.here c.requires.typed in
    record {
      can = subst (All (CanConvert h types f)) (sym items)
          (subst (λ x. All (CanConvert x types f) g.export_items) (sym rest) can);
    }

pub returns-clause-exports : goal.returns-clause-exports
returns-clause-exports c =
    let g = c.args.graph.now in
    let types = c.args.types.now in
    let f = c.number_items.new.finish in
    let items = c.in_ok-items.items in
    let h = c.take_items-exports.new.graph in
    let taken = c.take_items-exports.ensures in
    let rest = both_taken g c.take_names.new.graph h c.take_names.ensures.rest taken.rest in
    let es = taken.items ∙ ap (λ (x : ComponentDfg). x.export_items) c.take_names.ensures.rest in
    let zip = all_converted g f types g.export_items items
    (subst (λ x. AllZip (IsConverted x types f) g.export_items items) rest
    (subst (λ xs. AllZip (IsConverted h types f) xs items) es c.in_ok-items.ensures)) in
    let named = subst (λ ns. IsNamed ns c.in_ok-names.names) c.take_names.ensures.names c.in_ok-names.ensures in
    let numbers = c.in_ok-number_items.ensures in
    let made = ap (λ is. length is) numbers.further.continues.instances ∙ c.requires.all_made in
    record {
      converted = zip;
      forms = zip_weaker (IsConverted g types f) IsItem (is_item g types f) g.export_items items zip;
      exportable = numbers.here;
      named = named;
      held = items_held g types f c.requires.ordered items zip c.in_ok-names.names.definitions named.definitions;
      nodes = λ ms s trace p nodes wired reached extends means.
          exports_stand g ms types f s trace p c.requires.ordered wired reached extends made
          (can_export_all g c.requires.ordered c.requires.grouped) numbers.here items zip
          c.in_ok-names.names.definitions named.definitions nodes means;
    }

pub returns-in_err-number_items-clause-full : goal.returns-in_err-number_items-clause-full
returns-in_err-number_items-clause-full c is =
    let too_many = rw is at c.from_residual.ensures.1 in
    c.in_err-number_items.ensures.full (cc too_many)

pub returns-clause-rest : goal.returns-clause-rest
returns-clause-rest c =
    both_taken c.args.graph.now c.take_names.new.graph c.take_items-exports.new.graph c.take_names.ensures.rest
    c.take_items-exports.ensures.rest
