use Rattle.std.proofs.Common.{ℕ, ◌<◌, List, subst, sym}
use Rattle.dn_interval.specs.declared.row.Row.{Row}
use Rattle.dn_flat.specs.Levels.{levels_give}
use Rattle.dn_place.specs.declared.hops.Hops.{Hops}
use Rattle.dn_place.specs.Hops.{hops_view}
use Rattle.dn_place.specs.Rows.{GivesNone, IsClear}
use Rattle.dn_place.proofs.Toward.{clear_from, clear_to}
use Rattle.dn_place.proofs.rows.is_clear.Goals as goal

pub returns-in-Zero-clause-yes : goal.returns-in-Zero-clause-yes
returns-in-Zero-clause-yes g c = λ yes.
    subst (λ (h : Hops). IsClear c.args.system.on.net.now c.args.node (hops_view h) c.args.a c.args.size) (sym c.in-Zero.is)
    (clear_from c.args.system.on.net.now c.args.node c.args.a c.args.size c.of.result.now (c.requires.system.flat.each c.args.node c.of.result.now c.of.ensures) c.requires.fits
    (subst (λ (ls : List (List Row)). GivesNone (levels_give ls) c.args.a c.args.size) c.as_slice.ensures (c.are_levels_past.ensures.yes yes)))

pub returns-in-Zero-clause-no : goal.returns-in-Zero-clause-no
returns-in-Zero-clause-no g c = λ no clear.
    c.are_levels_past.ensures.no no (subst (λ (ls : List (List Row)). GivesNone (levels_give ls) c.args.a c.args.size) (sym c.as_slice.ensures)
    (clear_to c.args.system.on.net.now c.args.node c.args.a c.args.size c.of.result.now (c.requires.system.flat.each c.args.node c.of.result.now c.of.ensures) c.requires.fits
    (subst (λ (h : Hops). IsClear c.args.system.on.net.now c.args.node (hops_view h) c.args.a c.args.size) c.in-Zero.is clear)))

pub of-requires : goal.of-requires
of-requires g c = subst (λ (n : ℕ). c.args.node < n) (sym c.requires.system.flat.every) c.requires.there
