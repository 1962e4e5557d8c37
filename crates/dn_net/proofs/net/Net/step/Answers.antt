use Rattle.std.proofs.Common.{ap, sym, ◌∙◌, true≢false, length, slice_get}
use Rattle.dn_net.specs.Decode.{is_formed, refers_within, sent_names}
use Rattle.dn_net.proofs.Steps.{unit_is_bare, node_at, entries_in_range, entries_closed, over_closed}
use Rattle.dn_net.proofs.Kept.{kept_at, entries_apart}
use Rattle.dn_net.proofs.net.Net.step.Goals as goal

pub returns-then-is_unit-clause-accepted : goal.returns-then-is_unit-clause-accepted
returns-then-is_unit-clause-accepted c =
    let bare = unit_is_bare (slice_get c.args.self.now c.args.name.node) c.args.name.addr (node_at is_formed c.args.self.now c.args.name.node c.if-is_unit.ensures.formed) (sym c.if-is_unit.ensures.unit) in
    (λ e. cc, λ h. absurd (true≢false (sym h ∙ bare.0)))

pub returns-then-is_unit-clause-sent : goal.returns-then-is_unit-clause-sent
returns-then-is_unit-clause-sent c =
    sym (unit_is_bare (slice_get c.args.self.now c.args.name.node) c.args.name.addr (node_at is_formed c.args.self.now c.args.name.node c.if-is_unit.ensures.formed) (sym c.if-is_unit.ensures.unit)).1

pub returns-then-is_unit-clause-steps : goal.returns-then-is_unit-clause-steps
returns-then-is_unit-clause-steps c = ap sent_names (returns-then-is_unit-clause-sent c)

pub lead-requires-clause-in_range : goal.lead-requires-clause-in_range
lead-requires-clause-in_range c = entries_in_range (slice_get c.args.self.now c.args.name.node) _ (λ n at. (kept_at c.args.self.now c.args.name.node c.requires.rules n at).in_range) c.entry_list.ensures

pub lead-requires-clause-apart : goal.lead-requires-clause-apart
lead-requires-clause-apart c = entries_apart (slice_get c.args.self.now c.args.name.node) _ (kept_at c.args.self.now c.args.name.node c.requires.rules) c.entry_list.ensures

pub returns-clause-closed : goal.returns-clause-closed
returns-clause-closed c closed =
    let each = node_at (refers_within (length c.args.self.now)) c.args.self.now c.args.name.node closed in
    c.lead.ensures.closed (length c.args.self.now) (entries_closed _ (slice_get c.args.self.now c.args.name.node) _ each c.entry_list.ensures) (over_closed _ (slice_get c.args.self.now c.args.name.node) _ each c.over_dests-over.ensures)
