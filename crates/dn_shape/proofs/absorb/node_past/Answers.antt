-- The node as it is, or led past the other, by its parts with these rows.
use Rattle.std.proofs.Common.{rules, ◌≡◌, ◌∙◌, ◌+◌, ◌≤◌, Some, None, true, false, ap, sym, length, map, option_map, slice_get, arith}
use Rattle.std.proofs.lemmas.Result.{IfOk-weaker}
use Rattle.dn_interval.specs.Listed.{seen_view}
use Rattle.dn_net.specs.Parts.{parts_of_node}
use Rattle.dn_net.proofs.Faults.{part_is}
use Rattle.dn_shape.specs.Absorb.{is_rewritten, node_led_past, with_rows}
use Rattle.dn_shape.specs.Limits.{node_of_few_parts}
use Rattle.dn_shape.proofs.Limited.{led_parts, node_in_room, node_past_room, past_kept, past_led}
use Rattle.dn_shape.proofs.Read.{Rest, rest_at}
use Rattle.dn_shape.proofs.absorb.node_past.Goals as goal
use Rattle.dn_shape.proofs.absorb.node_past.Goals.{After-parts_with_rows}

pub returns-then-not-is_rewritten : goal.returns-then-not-is_rewritten
returns-then-not-is_rewritten c =
    let net = c.args.checked.net.now in
    let i = c.args.checked.node in
    let kept : option_map (is_rewritten c.args.past i) (slice_get net i) ≡ Some false = c.is_rewritten.ensures ∙ ap Some c.if-not-is_rewritten.true in
    IfOk-weaker c.node_kept.result _ _ (λ found h. past_kept net c.args.past i c.args.room (slice_get net i) found kept h) c.node_kept.ensures

-- it is led past the other, with as many parts as were counted
rewritten : (c : After-parts_with_rows) → option_map (is_rewritten c.args.past c.args.checked.node) (slice_get c.args.checked.net.now c.args.checked.node) ≡ Some true
rewritten c = c.is_rewritten.ensures ∙ ap Some c.if-not-is_rewritten.false

counted : (c : After-parts_with_rows) (r : Rest c.args.checked.net.now c.args.checked.node) → parts_of_node (node_led_past c.args.checked.net.now c.args.past c.args.checked.node r.node) ≡ c.parts_with_rows.result
counted c r =
    let rows = c.in_ok-rows.rows in
    led_parts c.args.checked.net.now c.args.past c.args.checked.node r.node rows c.in_ok-rows.ensures
    ∙ part_is (λ n. length n.accepts + length rows) _ r.node c.parts_with_rows.result r.at c.parts_with_rows.ensures

pub returns-then-room-parts_with_rows : goal.returns-then-room-parts_with_rows
returns-then-room-parts_with_rows c =
    let net = c.args.checked.net.now in
    let m = c.args.past in
    let i = c.args.checked.node in
    let r = rest_at net i c.args.checked.there in
    let counting = (goal.at.returns-then-room-parts_with_rows c).After-parts_with_rows in
    let parts : parts_of_node (node_led_past net m i r.node) ≡ c.parts_with_rows.result = counted counting r in
    past_led net m i c.args.room (slice_get net i) None (rewritten counting)
    (ap (option_map (λ n. node_of_few_parts c.args.room (node_led_past net m i n))) r.at ∙ ap Some (node_past_room c.args.room (node_led_past net m i r.node) (omega (arith, parts, c.if-room-parts_with_rows.true))))

pub returns : goal.returns
returns c =
    let net = c.args.checked.net.now in
    let m = c.args.past in
    let i = c.args.checked.node in
    let n = c.in_ok-with_rows.field-0 in
    let r = rest_at net i c.args.checked.there in
    let counting = (goal.at.returns c).After-parts_with_rows in
    let parts : parts_of_node (node_led_past net m i r.node) ≡ c.parts_with_rows.result = counted counting r in
    let few : parts_of_node (node_led_past net m i r.node) ≤ c.args.room = omega (arith, parts, c.if-room-parts_with_rows.false) in
    let is : node_led_past net m i r.node ≡ n = ap (λ l. with_rows l r.node) (sym c.in_ok-rows.ensures) ∙ part_is (with_rows (map seen_view c.in_ok-rows.rows)) _ r.node n r.at c.in_ok-with_rows.ensures in
    past_led net m i c.args.room (slice_get net i) (Some n) (rewritten counting)
    (ap (option_map (λ d. node_of_few_parts c.args.room (node_led_past net m i d))) r.at ∙ ap Some (node_in_room c.args.room (node_led_past net m i r.node) few ∙ ap Some is))
