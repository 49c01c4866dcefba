use Rattle.std.proofs.Common.{◌≡◌, ◌<◌, ◌+◌, ◌∷◌, List, length, drop, suc, sym, ◌∙◌, subst, add-one, drop-cons, arith}
use Rattle.pc_parsed.specs.declared.payload.AliasItem.{AliasItem}
use Rattle.pc_local.specs.Captured.{AliasesGo, part}
use Rattle.pc_local.proofs.PartLemmas.{drop_all, none_go, one_goes}
use Rattle.pc_local.proofs.capture.push_aliases.Goals as goal

pub loop-alias-preserved : goal.loop-alias-preserved
loop-alias-preserved c =
    let i = c.loop-alias.alias-index in
    let aliases = c.args.aliases.now in
    let a = c.alias-item.result in
    let is_it = c.alias-item.is in
    let within : i < length aliases = omega arith in
    let at : drop i aliases ≡ a ∷ drop (i + 1) aliases = rw add-one
    (drop-cons aliases i a within ∙ (λ j. sym is_it j ∷ drop (suc i) aliases)) in
    let old = part c.loop-alias.items c.loop-alias.modules.items c.loop-alias.components.items in
    let between = part c.push_alias.new.items c.push_alias.new.modules.items c.push_alias.new.components.items in
    λ new rest. c.loop-alias.invariant new
    (subst (λ (l : List AliasItem). AliasesGo l old new) (sym at)
    (one_goes a (drop (i + 1) aliases) old between new c.in_ok-push_alias.ensures rest))

pub returns : goal.returns
returns c =
    let aliases = c.args.aliases.now in
    let i = c.loop-alias.alias-index in
    let all : i ≡ length aliases = omega arith in
    let last = part c.loop-alias.items c.loop-alias.modules.items c.loop-alias.components.items in
    c.loop-alias.invariant last
    (subst (λ (l : List AliasItem). AliasesGo l last last) (sym (drop_all aliases i all)) (none_go last))
