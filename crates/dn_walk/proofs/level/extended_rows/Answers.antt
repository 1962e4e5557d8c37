-- Each row goes on by the legs that it meets, of its end node.
use Rattle.std.proofs.Common.{refl, ◌≡◌, ◌∙◌, ◌+◌, ◌++◌, sym, ap, map, List, length, take, vec_len, arith, rules, subst}
use Rattle.std.specs.List.{filter, flat_map}
use Rattle.std.proofs.lemmas.List.{length-append}
use Rattle.dn_interval.specs.declared.row.Seg.{Seg}
use Rattle.dn_net.proofs.Places.{length-map}
use Rattle.dn_walk.specs.Legs.{BareLeg, AreLegs, leg_view}
use Rattle.dn_walk.specs.Rows.{row_view}
use Rattle.dn_walk.specs.Levels.{IsRowOf, bare_meets, bare_onto, bare_extensions}
use Rattle.dn_walk.proofs.BareWalks.{legs_there, legs_same, met_meet, met_on, rise_back, extended_more, extended_least}
use Rattle.dn_walk.proofs.level.extended_rows.Goals.{After-of}
use Rattle.dn_walk.proofs.level.extended_rows.Goals as goal

-- the row is one of 64 steps at most
is_row : (c : After-of) → IsRowOf (length c.args.legs.now) 64 (row_view c.row-item.result)
is_row c = subst (λ r. IsRowOf (length c.args.legs.now) 64 (row_view r)) (sym c.row-item.is) (c.requires.rows c.loop-row.row-index c.row-item.result c.loop-row-test.true)

-- the legs of the node in which it ends
are_legs : (c : After-of) → AreLegs (length c.args.legs.now) (map leg_view c.of.result.now)
are_legs c = legs_there c.args.legs.now c.requires.legs c.row-item.result.end (map leg_view c.of.result.now) (is_row c).end c.of.ensures

-- the row goes on by those that it meets
goes_on : (c : After-of) (met : List Seg) → met ≡ filter (λ s. bare_meets (row_view c.row-item.result) (leg_view s)) c.of.result.now → map (bare_onto (row_view c.row-item.result)) (map leg_view met) ≡ bare_extensions c.args.legs.now (row_view c.row-item.result)
goes_on c met e =
    let row = row_view c.row-item.result in
    met_on row c.of.result.now met e
    ∙ ap (λ ls. map (bare_onto row) (filter (bare_meets row) ls)) (sym (legs_same c.args.legs.now c.row-item.result.end (map leg_view c.of.result.now) (is_row c).end c.of.ensures))

-- as many
as_many : (c : After-of) (met : List Seg) → met ≡ filter (λ s. bare_meets (row_view c.row-item.result) (leg_view s)) c.of.result.now → length (bare_extensions c.args.legs.now (row_view c.row-item.result)) ≡ length met
as_many c met e =
    let row = row_view c.row-item.result in
    ap length (sym (goes_on c met e)) ∙ length-map (bare_onto row) (map leg_view met) ∙ length-map leg_view met

pub met_by-met-requires-clause-firsts : goal.met_by-met-requires-clause-firsts
met_by-met-requires-clause-firsts c = rise_back leg_view (λ (l : BareLeg). l.lo) c.of.result.now (are_legs (goal.at.met_by-met-requires-clause-firsts c).After-of).firsts

pub met_by-met-requires-clause-lasts : goal.met_by-met-requires-clause-lasts
met_by-met-requires-clause-lasts c = rise_back leg_view (λ (l : BareLeg). l.hi) c.of.result.now (are_legs (goal.at.met_by-met-requires-clause-lasts c).After-of).lasts

pub returns-then-room-len-clause-wide : goal.returns-then-room-len-clause-wide
returns-then-room-len-clause-wide c =
    let legs = c.args.legs.now in
    let row = c.row-item.result in
    let met = c.met_by-met.result.now in
    let count : length (bare_extensions legs (row_view row)) ≡ length met = as_many (goal.at.returns-then-room-len-clause-wide c).After-of met c.met_by-met.ensures in
    let have : length c.loop-row.out.items ≡ length (flat_map (bare_extensions legs) (map row_view (take c.loop-row.row-index c.args.rows.now))) = sym (length-map row_view c.loop-row.out.items) ∙ ap length c.loop-row.invariant.made in
    let least = extended_least legs c.args.rows.now c.loop-row.row-index row c.loop-row-test.true c.row-item.is in
    let size : vec_len c.loop-row.out ≡ length c.loop-row.out.items = search rules in
    (refl, omega (arith, c.len.ensures, c.if-room-len.true, c.loop-row.invariant.fits))

pub extend_row-requires-clause-meet : goal.extend_row-requires-clause-meet
extend_row-requires-clause-meet c =
    met_meet (row_view c.row-item.result) c.of.result.now c.met_by-met.result.now c.met_by-met.ensures

pub loop-row-preserved : goal.loop-row-preserved
loop-row-preserved c =
    let legs = c.args.legs.now in
    let row = c.row-item.result in
    let met = c.met_by-met.result.now in
    let on = goes_on (goal.at.loop-row-preserved c).After-of met c.met_by-met.ensures in
    let count : length (bare_extensions legs (row_view row)) ≡ length met = as_many (goal.at.loop-row-preserved c).After-of met c.met_by-met.ensures in
    let made = c.in_ok-extend_row.ensures ∙ ap (λ x. map row_view c.loop-row.out.items ++ x) on in
    let size : vec_len c.loop-row.out ≡ length c.loop-row.out.items = search rules in
    let size' : vec_len c.extend_row.new.out ≡ length c.extend_row.new.out.items = search rules in
    let more : length c.extend_row.new.out.items ≡ length c.loop-row.out.items + length met = sym (length-map row_view c.extend_row.new.out.items) ∙ ap length made ∙ length-append (map row_view c.loop-row.out.items) (bare_extensions legs (row_view row)) ∙ omega (arith, length-map row_view c.loop-row.out.items, count) in
    record {
      made = made ∙ ap (λ x. x ++ bare_extensions legs (row_view row)) c.loop-row.invariant.made ∙ sym (extended_more legs c.args.rows.now c.loop-row.row-index row c.loop-row-test.true c.row-item.is);
      fits = omega (arith, c.len.ensures, c.if-room-len.false, c.loop-row.invariant.fits);
    }
