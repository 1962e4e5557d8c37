-- The entry at the place, whose block is that of the place.
use Rattle.std.proofs.Common.{rules, ◌≡◌, ◌++◌, OnOk, IsTrue, sym, subst, map, ap, ◌∙◌}
use Rattle.std.specs.List.{list_all}
use Rattle.dn_base.proofs.Booleans.{and_parts}
use Rattle.dn_base.proofs.Lists.{list_all-at}
use Rattle.dn_net.specs.Rules.{block_in_range, dest_in_range, entry_in_range}
use Rattle.dn_walk.specs.Legs.{dest_leg, leg_view}
use Rattle.dn_walk.proofs.Merged.{entry_legs, entry_there, entry_within}
use Rattle.dn_walk.proofs.leg.push_entry.Goals as goal

pub offset_bounds-entries-place : goal.offset_bounds-entries-place
offset_bounds-entries-place c = let within = entry_within c.args.entries.now c.args.place c.requires.there in search rules

pub bounds-entries-place : goal.bounds-entries-place
bounds-entries-place c = entry_within c.args.entries.now c.args.place c.requires.there

pub push_dests-requires-clause-block : goal.push_dests-requires-clause-block
push_dests-requires-clause-block c =
    let e = c.index-entries-place.result in
    let t = entry_there c.args.entries.now c.args.place e c.requires.there c.index-entries-place.is in
    subst (λ b. IsTrue (block_in_range b)) (sym t.1) (and_parts (block_in_range e.block) (list_all (dest_in_range e.block) e.dests) (list_all-at entry_in_range c.args.entries.now c.args.place.entry e c.requires.entries t.0)).0

pub push_dests-requires-clause-dests : goal.push_dests-requires-clause-dests
push_dests-requires-clause-dests c =
    let e = c.index-entries-place.result in
    let t = entry_there c.args.entries.now c.args.place e c.requires.there c.index-entries-place.is in
    let all = (and_parts (block_in_range e.block) (list_all (dest_in_range e.block) e.dests) (list_all-at entry_in_range c.args.entries.now c.args.place.entry e c.requires.entries t.0)).1 in
    subst (λ ds. IsTrue (list_all (dest_in_range c.args.place.block) ds)) (sym c.as_slice.ensures) (subst (λ b. IsTrue (list_all (dest_in_range b) e.dests)) (sym t.1) all)

pub returns : goal.returns
returns c =
    let e = c.index-entries-place.result in
    let t = entry_there c.args.entries.now c.args.place e c.requires.there c.index-entries-place.is in
    let same = ap (map (dest_leg c.args.place.block)) c.as_slice.ensures ∙ sym (entry_legs c.args.entries.now c.args.place e t.0) in
    subst (λ l. OnOk c.push_dests.result (map leg_view c.push_dests.new.legs.items ≡ map leg_view c.args.legs.now.items ++ l)) same c.push_dests.ensures
