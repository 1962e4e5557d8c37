-- By what is known of each of its parts.
use Rattle.std.proofs.Common.{rules, ◌≡◌, ◌∙◌, ◌+◌, true, false, if◌then◌else◌, Some, ap, length, option_map, slice_get, arith}
use Rattle.std.specs.Option.{is_some}
use Rattle.dn_net.specs.Parts.{parts_of_node}
use Rattle.dn_net.proofs.Faults.{part_is}
use Rattle.dn_shape.specs.Split.{is_divided, maximal_spans, parts_when_split, ways_of}
use Rattle.dn_shape.proofs.Read.{rest_at}
use Rattle.dn_shape.proofs.split.parts_when_split.Goals as goal

pub returns-then-not-is_divided : goal.returns-then-not-is_divided
returns-then-not-is_divided c =
    let net = c.args.checked.net.now in
    let r = rest_at net c.args.checked.node c.args.checked.there in
    let whole : is_divided r.node ≡ false = part_is is_divided _ r.node c.is_divided.result r.at c.is_divided.ensures ∙ c.if-not-is_divided.true in
    let parts : parts_of_node r.node ≡ c.parts_of_node.result = part_is parts_of_node _ r.node c.parts_of_node.result r.at c.parts_of_node.ensures in
    let s = length (maximal_spans r.node.accepts) in
    ap (option_map parts_when_split) r.at ∙ ap (λ b. Some (if b then s + (s + ways_of r.node) else parts_of_node r.node)) whole ∙ ap Some parts

pub returns : goal.returns
returns c =
    let net = c.args.checked.net.now in
    let r = rest_at net c.args.checked.node c.args.checked.there in
    let divided : is_divided r.node ≡ true = part_is is_divided _ r.node c.is_divided.result r.at c.is_divided.ensures ∙ c.if-not-is_divided.false in
    let spans : maximal_spans r.node.accepts ≡ c.in_ok-maximal_accepts.field-0.items = part_is (λ d. maximal_spans d.accepts) _ r.node _ r.at c.in_ok-maximal_accepts.ensures in
    let s = length (maximal_spans r.node.accepts) in
    let many : s ≡ c.len-spans.result = search rules in
    let entries : length r.node.entries ≡ length c.entries.result.now = ap length (part_is (λ d. d.entries) _ r.node c.entries.result.now r.at c.entries.ensures) in
    let over : r.node.over ≡ c.over.result = part_is (λ d. d.over) _ r.node c.over.result r.at c.over.ensures in
    let one : (if is_some c.over.result then 1 else 0) ≡ c.from.result = search rules in
    let more : (if is_some r.node.over then 1 else 0) ≡ c.from.result = ap (λ o. if is_some o then 1 else 0) over ∙ one in
    ap (option_map parts_when_split) r.at ∙ ap (λ b. Some (if b then s + (s + ways_of r.node) else parts_of_node r.node)) divided ∙ ap Some (omega (arith, many, entries, more))
