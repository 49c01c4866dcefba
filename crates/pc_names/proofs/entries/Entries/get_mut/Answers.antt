use borrow.Follows.Closed.{read_of}
use Rattle.std.proofs.Common.{refl, sym, ◌∙◌}
use Rattle.std.specs.Option.{ghost_name_of}
use Rattle.pc_names.proofs.PlaceLemmas.{lookup-no_place, value_at_place, with_value-place}
use Rattle.pc_names.proofs.entries.Entries.get_mut.Goals as goal

pub returns-in-Some : goal.returns-in-Some
returns-in-Some g c =
    let place = sym c.in-Some.ensures in
    let test = g.K.PartialEq.eq c.args.key.now in (
      (λ i. read_of (ghost_name_of c.at_mut.result) (λ w. with_value-place test c.args.self.now c.in-Some.place w
          place i) c.args.self.now),
      record {
        writes_back = tt;
        value = c.at_mut.ensures.value
            ∙ value_at_place test c.args.self.now c.in-Some.place place;
      },
    )

pub returns-in-None : goal.returns-in-None
returns-in-None g c = (
  refl,
  record {
    writes_back = tt;
    value = sym (lookup-no_place (g.K.PartialEq.eq c.args.key.now)
        c.args.self.now (sym c.in-None.ensures));
  },
)
