use Rattle.std.proofs.Common.{◌≡◌, subst, sym, ap, None, List}
use Rattle.dn_net.specs.declared.node.NodeDecl.{NodeDecl}
use Rattle.dn_kind.specs.Kind.{Meaning}
use Rattle.dn_kind.specs.Kinded.{kinds_of}
use Rattle.dn_kind.specs.Units.{shape_fault}
use Rattle.dn_tool.specs.Platform.{PlatformState}
use Rattle.netconf_c.proofs.Opened.{few_kinds, opened_from, platform_legal}
use Rattle.netconf_c.proofs.open.open_with.Goals as goal

pub compile-requires-clause-few_kinds : goal.compile-requires-clause-few_kinds
compile-requires-clause-few_kinds g c = few_kinds _ c.args.kinds.now.list.items c.requires.shipped

pub make-requires-clause-legal : goal.make-requires-clause-legal
make-requires-clause-legal g c =
    let kinds : List Meaning = kinds_of (λ k. (goal.UnitKind-dyn g k).meaning k.1) c.args.kinds.now in
    platform_legal kinds c.platform.inside.net c.platform.inside.walks c.requires.shipped c.platform.invariant.walked
    (subst (λ (p : PlatformState). shape_fault kinds p.net ≡ None) (sym c.platform.view_is) c.in_ok-platform.ensures.shaped)

pub returns-in-Ok-clause-opened : goal.returns-in-Ok-clause-opened
returns-in-Ok-clause-opened g c =
    let kinds : List Meaning = kinds_of (λ k. (goal.UnitKind-dyn g k).meaning k.1) c.args.kinds.now in
    opened_from c.args.text.now kinds c.in_ok-platform.platform c.platform.inside.net c.in-Ok.session c.requires.shipped c.in_ok-platform.ensures.answer
    (ap (λ (p : PlatformState). p.net) c.platform.view_is) c.in-Ok.ensures.net c.in-Ok.ensures.none c.in-Ok.ensures.cleared c.in-Ok.ensures.pending
