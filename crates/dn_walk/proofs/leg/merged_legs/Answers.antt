-- One entry more, with the legs of the gaps before it.
use Rattle.std.proofs.Common.{◌∙◌, ◌+◌, ◌++◌, ap, map, get_or, drop, filter, nat_lt}
use Rattle.std.proofs.lemmas.List.{map-append}
use Rattle.std.proofs.lemmas.List.Elements.{Contains-get_or}
use Rattle.std.proofs.lemmas.List.Sorted.{Contains-permutation, IsPermutation-sym}
use Rattle.dn_interval.specs.declared.row.Seg.{Seg}
use Rattle.dn_net.specs.declared.entries.Place.{Place}
use Rattle.dn_net.specs.Order.{places_from}
use Rattle.dn_walk.specs.Legs.{leg_view, place_legs}
use Rattle.dn_walk.proofs.Merged.{merged, merged_more, merged_all, merged_is}
use Rattle.dn_walk.proofs.leg.merged_legs.Goals as goal

pub push_entry-requires-clause-there : goal.push_entry-requires-clause-there
push_entry-requires-clause-there c =
    let order = c.args.order.now in
    let entries = c.args.entries.now in
    let z : Place = record { block = record { lo = 0; hi = 0 }; entry = 0 } in
    let place : Place = get_or order c.loop-place.place-index z in
    Contains-permutation order (places_from 0 entries) place (IsPermutation-sym (places_from 0 entries) order c.requires.every) (Contains-get_or order c.loop-place.place-index z c.loop-place-test.true)

pub loop-place-preserved : goal.loop-place-preserved
loop-place-preserved c =
    let entries = c.args.entries.now in
    let order = c.args.order.now in
    let z : Place = record { block = record { lo = 0; hi = 0 }; entry = 0 } in
    let place : Place = get_or order c.loop-place.place-index z in
    let next = drop (c.loop-place.place-index + 1) order in
    let legs = c.loop-place.legs.items in
    let rest = c.loop-place.rest.now in
    record {
      same =
          ap (λ l. l ++ merged entries next c.split_below.result.1.now) (c.in_ok-push_entry.ensures ∙ ap (λ l. l ++ place_legs entries place) (ap (map leg_view) (c.in_ok-extend_from_slice.ensures.items ∙ ap (λ l. legs ++ l) c.split_below.ensures.below) ∙ map-append leg_view legs (filter (λ (s : Seg). nat_lt s.span.lo place.block.lo) rest)))
          ∙ ap (λ r. ((map leg_view legs ++ map leg_view (filter (λ (s : Seg). nat_lt s.span.lo place.block.lo) rest)) ++ place_legs entries place) ++ merged entries next r) c.split_below.ensures.others
          ∙ merged_more entries (map leg_view legs) (merged entries order c.args.gaps.now) order c.loop-place.place-index z rest c.loop-place-test.true c.loop-place.invariant.same;
      sorted = c.split_below.ensures.sorted;
    }

pub returns : goal.returns
returns c =
    let entries = c.args.entries.now in
    let order = c.args.order.now in
    let gaps = c.args.gaps.now in
    ap (map leg_view) c.in_ok-extend_from_slice-2.ensures.items
    ∙ map-append leg_view c.loop-place.legs.items c.loop-place.rest.now
    ∙ merged_all entries (map leg_view c.loop-place.legs.items) (merged entries order gaps) order c.loop-place.place-index c.loop-place.rest.now c.loop-place-test.false c.loop-place.invariant.same
    ∙ merged_is entries order gaps c.requires.stable c.requires.order c.requires.gaps
