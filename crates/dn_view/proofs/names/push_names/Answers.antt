-- What its segment comes to, or nothing past the last address.
use Rattle.std.proofs.Common.{rules, ◌≡◌, ◌<◌, ◌↔◌, true, sym, subst}
use Rattle.std.proofs.lemmas.Result.{on_ok_weaker}
use Rattle.dn_interval.specs.declared.span.TheConstants.{TOP}
use Rattle.dn_interval.specs.Strands.{segs_give}
use Rattle.dn_walk.specs.Ends.{end_of}
use Rattle.dn_view.specs.Named.{ComesTo, IsAtName}
use Rattle.dn_view.specs.Passes.{part_gives}
use Rattle.dn_view.proofs.Single.{at_first, more_had, none_more, part_given, past_part}
use Rattle.dn_view.proofs.names.push_names.Goals as goal

pub returns-in_default : goal.returns-in_default
returns-in_default c =
    let past : TOP < c.args.name.addr = search rules in
    none_more (ComesTo c.args.net.now c.args.part c.args.name) c.args.found.now.items (λ z r. past_part c.args.net.now c.args.part c.args.name z past r)

pub returns : goal.returns
returns c =
    let net = c.args.net.now in
    let x = c.args.name in
    let s = c.in-Some.seg in
    let alone : IsAtName x s = search rules in
    let first = at_first c.new-segs.result.items c.push_sent.new.out.items s (part_gives c.args.part c.args.flats.now s.node) c.new-segs.ensures.items c.in_ok-push_sent.ensures in
    on_ok_weaker c.push_given.result (λ e. more_had (ComesTo net c.args.part x) c.args.found.now.items c.push_given.new.found.items (λ z. segs_give c.deref.result.now x.addr (end_of z)) e (λ z. subst (λ l. (segs_give l x.addr (end_of z) ≡ true) ↔ ComesTo net c.args.part x z) (sym c.deref.ensures.value) (part_given net c.args.flats.now c.requires.flats c.args.part x c.requires.there s alone c.push_sent.new.out.items first z))) c.push_given.ensures
