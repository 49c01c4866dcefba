use Rattle.std.proofs.Common.{List, [], ◌∷◌, ◌++◌, sym, ap, ◌∙◌}
use Rattle.pc_local.specs.declared.captured.Captured.{Captured}
use Rattle.pc_local.specs.declared.item.Translation.{Translation}
use Rattle.pc_local.specs.Open.{ends_inner}
use Rattle.pc_local.proofs.RoomLemmas.{all_ok}
use Rattle.pc_local.proofs.open.Open.end.Goals as goal

pub returns-in-Some-Some : goal.returns-in-Some-Some
returns-in-Some-Some c =
    let outer = c.in-Some.around in
    let m = c.in-Some-Some.modules in
    let n = c.in-Some-Some.components in
    all_ok c.close.result
    (λ closes around modules components. ends_inner outer m n
    (c.in-Some.ensures.items ∙ ap (λ (l : List Translation). l ++ outer ∷ []) (sym around))
    (c.in-Some-Some.ensures.items ∙ ap (λ (l : List Captured). l ++ m ∷ []) (sym modules))
    (c.in-Some-Some.ensures'.items ∙ ap (λ (l : List Captured). l ++ n ∷ []) (sym components))
    (record {
      vars = closes.vars;
      gives_modules = closes.gives_modules;
      gives_components = closes.gives_components;
      body = closes.body;
      ended = closes.ended;
      records = closes.records;
    }))
    c.close.ensures.closes c.close.ensures.around c.close.ensures.modules c.close.ensures.components
