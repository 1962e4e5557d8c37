-- The names that the segments give are the list, which has none past the last address.
use Rattle.std.proofs.Common.{rules, ◌≡◌, ◌<◌, ◌∙◌, ◌||◌, length, sym, subst, List}
use Rattle.dn_interval.specs.declared.span.TheConstants.{TOP}
use Rattle.dn_interval.specs.Strands.{segs_give}
use Rattle.dn_net.specs.declared.node.Name.{Name}
use Rattle.dn_kind.specs.Kind.{Meaning}
use Rattle.dn_kind.specs.Kinded.{kinds_of}
use Rattle.dn_kind.specs.Tables.{Held, allowing, resolved_names_under}
use Rattle.dn_kind.proofs.Stages.{set_is_ends}
use Rattle.dn_tables.specs.Set.{record_kept}
use Rattle.dn_walk.specs.Ends.{end_of}
use Rattle.dn_view.specs.Named.{IsAtName, has_name}
use Rattle.dn_view.proofs.Single.{given_names, past_under, names_are}
use Rattle.dn_view.proofs.resolve.resolve.Goals as goal

pub returns-in_default : goal.returns-in_default
returns-in_default g c =
    let kinds : List Meaning = kinds_of (λ k. (goal.UnitKind-dyn g k).meaning k.1) c.args.system.on.kinds.now in
    let h : Held = allowing c.args.access (record_kept kinds c.args.tables.now) in
    let past : TOP < c.args.name.addr = search rules in
    record { names = c.new.ensures ∙ past_under c.args.system.on.net.now h c.args.name past }

pub shown_at-requires-clause-there : goal.shown_at-requires-clause-there
shown_at-requires-clause-there g c =
    let alone : IsAtName c.args.name c.in-Some.seg = search rules in
    subst (λ n. n < length c.args.system.on.net.now) (sym alone.node) c.requires.there

pub returns : goal.returns
returns g c =
    let kinds : List Meaning = kinds_of (λ k. (goal.UnitKind-dyn g k).meaning k.1) c.args.system.on.kinds.now in
    let net = c.args.system.on.net.now in
    let x : Name = c.args.name in
    let h : Held = allowing c.args.access (record_kept kinds c.args.tables.now) in
    let alone : IsAtName x c.in-Some.seg = search rules in
    let is = given_names net h x c.in-Some.seg alone c.in_ok-shown.shown.items c.new-found.result.items c.push_given.new.found.items c.new-found.ensures.items (subst (λ l. (z : Name) → has_name c.push_given.new.found.items z ≡ (has_name c.new-found.result.items z || segs_give l x.addr (end_of z))) c.as_slice.ensures.value c.in_ok-push_given.ensures) c.in_ok-shown.ensures in
    record { names = set_is_ends c.push_given.new.found.items (resolved_names_under net h x) c.set_of.result (names_are net h x c.push_given.new.found.items is) c.set_of.ensures }
