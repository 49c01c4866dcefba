use Rattle.std.proofs.Common.{ap, ◌∙◌, refl}
use Rattle.pc_inline_paths.specs.HeldPaths.{HeldPaths}
use Rattle.pc_inline_state.proofs.state.State.new.Goals as goal

pub returns-clause-fresh : goal.returns-clause-fresh
returns-clause-fresh c resources numbers = record {
  graph = c.new.ensures;
  cores = c.new-2.ensures;
  definitions = c.new-3.ensures;
  closures = c.new-4.ensures;
  instances = c.new-5.ensures;
  paths = ap (λ (p : HeldPaths). p.held) c.new-6.ensures;
  path_names = ap (λ (p : HeldPaths). p.names) c.new-6.ensures ∙ c.texts.ensures;
  used = c.new-7.ensures.items;
  runtime_instances = c.new-8.ensures.items;
  places = c.new-9.ensures;
  table = refl;
  resources = resources;
  numbers = numbers;
}
