use borrow.Follows.Closed.{read_of}
use Rattle.std.proofs.Common.{ap, ◌∙◌}
use Rattle.std.proofs.lemmas.Option.{slice_get-map}
use Rattle.std.specs.List.{slice_get}
use Rattle.std.specs.Option.{ghost_name_of, option_map}
use Rattle.pc_names.proofs.PlaceLemmas.{set_value_at-with_value}
use Rattle.pc_names.specs.Definitions.{with_value}
use Rattle.pc_names.proofs.entries.Entries.at_mut.Goals as goal

pub returns : goal.returns
returns g c =
    let held = c.self.inside.entries.entries in
    let name = ghost_name_of c.get_index_mut.result in (
      (λ i. read_of name (λ w. set_value_at-with_value held c.args.place w i) held)
          ∙ (λ i. read_of name (λ w. with_value (c.self.view_is i) c.args.place w) (c.self.view_is i)),
      record {
        writes_back = tt;
        value = c.get_index_mut.ensures.value
            ∙ slice_get-map (λ d. d.1) held c.args.place
            ∙ ap (λ ds. option_map (λ d. d.1) (slice_get ds c.args.place)) c.self.view_is;
      },
    )
