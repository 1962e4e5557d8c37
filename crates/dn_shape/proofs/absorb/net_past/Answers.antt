-- The limits, one after the other.
use Rattle.std.proofs.Common.{rules, ◌≡◌, ◌∙◌, ◌≤◌, Some, None, Ok, ap, sym, true, false, length}
use Rattle.std.specs.List.{list_any}
use Rattle.dn_net.specs.Legal.{node_limit}
use Rattle.dn_shape.specs.Absorb.{net_past, net_within}
use Rattle.dn_shape.specs.Limits.{has_long_entry, net_of_few_parts}
use Rattle.dn_shape.proofs.Led.{few_past}
use Rattle.dn_shape.proofs.Limited.{many_parts, parts_none, parts_some, long_passed, none_passed}
use Rattle.dn_shape.proofs.absorb.net_past.Goals as goal

pub returns-in_default-clause-made : goal.returns-in_default-clause-made
returns-in_default-clause-made c =
    let net = net_past c.args.net.now c.args.past in
    let none : net_of_few_parts net ≡ None = search rules in
    ap (net_within net) (many_parts net (few_past c.args.net.now c.requires.legal c.args.past) (parts_none net none))

pub returns-then-has_long_entry-clause-made : goal.returns-then-has_long_entry-clause-made
returns-then-has_long_entry-clause-made c =
    let net = net_past c.args.net.now c.args.past in
    let some : net_of_few_parts net ≡ Some c.in-Some.made = search rules in
    let long : list_any has_long_entry c.in-Some.made ≡ true = search rules in
    ap (net_within net) (long_passed net c.in-Some.made (few_past c.args.net.now c.requires.legal c.args.past) some long)

pub returns-clause-made : goal.returns-clause-made
returns-clause-made c =
    let net = net_past c.args.net.now c.args.past in
    let some : net_of_few_parts net ≡ Some c.in-Some.made = search rules in
    let short : list_any has_long_entry c.in-Some.made ≡ false = search rules in
    ap (net_within net) (none_passed net c.in-Some.made (few_past c.args.net.now c.requires.legal c.args.past) some short) ∙ ap Ok (sym (parts_some net c.in-Some.made some).0)

pub returns-clause-is : goal.returns-clause-is
returns-clause-is c =
    let net = net_past c.args.net.now c.args.past in
    let some : net_of_few_parts net ≡ Some c.in-Some.made = search rules in
    (parts_some net c.in-Some.made some).0
