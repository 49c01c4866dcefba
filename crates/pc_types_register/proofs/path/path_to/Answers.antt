use Rattle.std.proofs.Common.{◌∷◌, ◌++◌, ◌∙◌, [], Some, ap, arith, subst, sym}
use Rattle.std.specs.Option.{option_copied}
use Rattle.std.proofs.lemmas.Option.{slice_get-get_or}
use Rattle.pc_types_register.proofs.PathLemmas.{Leads, export_there, leads_end, leads_further, leads_start, names_there}
use Rattle.pc_types_register.proofs.PathLemmas.{parent_before}
use Rattle.pc_types_register.proofs.path.path_to.Goals as goal

pub up-init : goal.up-init
up-init c = record {
  within = c.requires.there;
  leads = λ names named.
      let to = names_there _ _ names named c.args.place c.requires.there in
      subst (Leads names c.args.place c.args.place) (sym c.new-path.ensures.items)
      (leads_start _ _ names named c.args.place to.0 to.1);
}

pub unreachable-requires : goal.unreachable-requires
unreachable-requires c =
    export_there _ _ c.requires.named.0 c.requires.named.1 c.up.at c.up-test.true _
    (slice_get-get_or c.args.places.now _ _ (omega (arith, c.up-test.true, c.up.invariant.within)))
    (sym c.export.ensures ∙ ap option_copied c.in-None.is)

pub up-smaller : goal.up-smaller
up-smaller c =
    parent_before _ _ c.requires.named.0 c.requires.named.1 c.up.at c.up-test.true _
    (slice_get-get_or c.args.places.now _ _ (omega (arith, c.up-test.true, c.up.invariant.within)))

pub up-preserved : goal.up-preserved
up-preserved c =
    let here = slice_get-get_or c.args.places.now _ (record { parent = 0; entry = 0; export = 0 })
    (omega (arith, c.up-test.true, c.up.invariant.within)) in
    let before = parent_before _ _ c.requires.named.0 c.requires.named.1 c.up.at c.up-test.true _ here in
    record {
      within = omega (arith, before, c.up.invariant.within);
      leads = λ names named.
          subst (Leads names c.args.place _)
          (sym (c.in_ok-push-in-Some.ensures.items
          ∙ ap (λ n. c.up.path.items ++ n ∷ []) c.in_ok-try_clone-in-Some.ensures))
          (leads_further _ _ names named c.args.place c.up.at c.up.path.items (c.up.invariant.leads names named)
          c.up-test.true _ here c.in-Some.export.now (sym c.export.ensures ∙ ap option_copied c.in-Some.is));
    }

pub returns : goal.returns
returns c names named =
    leads_end _ _ names named c.args.place c.up.path.items
    (subst (λ n. Leads names c.args.place n c.up.path.items) (omega (arith, c.up-test.false))
    (c.up.invariant.leads names named))
    ∙ ap Some (sym c.reverse.ensures.items)
