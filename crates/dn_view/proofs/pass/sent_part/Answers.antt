-- The slot begins and ends beside names of the segment, and what is cut out is what stands in it.
use Rattle.std.proofs.Common.{◌≡◌, ◌∙◌, ◌+◌, ◌-◌, ◌*◌, ◌%◌, ◌^◌, ◌≤◌, ap, sym, subst, arith, slice_get, Some}
use Rattle.dn_interval.specs.declared.span.TheConstants.{TOP}
use Rattle.dn_view.proofs.Cuts.{sent_name, slot_size, slot_begins, slot_ends, slot_within, slot_fits, cut_node, cut_has, cut_goes}
use Rattle.dn_view.proofs.pass.sent_part.Goals as goal
use Rattle.dn_view.proofs.pass.sent_part.Goals.{After-output_name-name}

-- the name of the slot's first address
name : (c : After-output_name-name) → (slice_get c.args.unit.now.ports c.args.record.port ≡ Some c.output_name-name.result.node) × (c.output_name-name.result.addr ≡ c.args.record.page * 2 ^ c.args.unit.now.page + (c.args.slot * (1 * 2 ^ c.args.unit.now.page % 18446744073709551616)) % 2 ^ c.args.unit.now.page)
name c = sent_name (slice_get c.args.unit.now.ports c.args.record.port) (c.args.record.page * 2 ^ c.args.unit.now.page + (c.args.slot * (1 * 2 ^ c.args.unit.now.page % 18446744073709551616)) % 2 ^ c.args.unit.now.page) c.output_name-name.result c.output_name-name.ensures

pub invariant_of-cut : goal.invariant_of-cut
invariant_of-cut c = record { ordered = omega arith; within = subst (λ n. c.args.slot * n + (n - 1) ≤ TOP) (sym (slot_size c.args.unit.now c.requires.plain)) (slot_within c.args.unit.now c.args.record c.args.seg c.args.slot c.requires.plain c.requires.within c.requires.begins c.requires.ends) }

pub cut-requires-clause-begins : goal.cut-requires-clause-begins
cut-requires-clause-begins c = subst (λ n. c.args.slot * n ≤ c.args.seg.base + (c.args.seg.span.hi - c.args.seg.span.lo)) (sym (slot_size c.args.unit.now c.requires.plain)) (slot_begins c.args.unit.now c.args.record c.args.seg c.args.slot c.requires.plain c.requires.within c.requires.begins c.requires.ends)

pub cut-requires-clause-ends : goal.cut-requires-clause-ends
cut-requires-clause-ends c = subst (λ n. c.args.seg.base ≤ c.args.slot * n + (n - 1)) (sym (slot_size c.args.unit.now c.requires.plain)) (slot_ends c.args.unit.now c.args.record c.args.seg c.args.slot c.requires.plain c.requires.within c.requires.begins c.requires.ends)

pub cut-requires-clause-fits : goal.cut-requires-clause-fits
cut-requires-clause-fits c =
    let e = (name (goal.at.cut-requires-clause-fits c).After-output_name-name).1 in
    subst (λ n. n + ((c.args.slot * (1 * 2 ^ c.args.unit.now.page % 18446744073709551616) + ((1 * 2 ^ c.args.unit.now.page % 18446744073709551616) - 1)) - (c.args.slot * (1 * 2 ^ c.args.unit.now.page % 18446744073709551616))) ≤ TOP) (sym e) (subst (λ n. (c.args.record.page * 2 ^ c.args.unit.now.page + c.args.slot * n % 2 ^ c.args.unit.now.page) + ((c.args.slot * n + (n - 1)) - c.args.slot * n) ≤ TOP) (sym (slot_size c.args.unit.now c.requires.plain)) (slot_fits c.args.unit.now c.args.record c.args.seg c.args.slot c.requires.plain c.requires.within c.requires.begins c.requires.ends))

pub returns-clause-node : goal.returns-clause-node
returns-clause-node c =
    let at = (goal.at.returns-clause-node c).After-output_name-name in
    (name at).0 ∙ ap (λ n. Some n) (sym (cut_node c.args.unit.now c.args.record c.args.seg c.args.slot c.requires.plain c.requires.within c.requires.begins c.requires.ends c.cut.result (c.args.slot * (1 * 2 ^ c.args.unit.now.page % 18446744073709551616)) (c.args.slot * (1 * 2 ^ c.args.unit.now.page % 18446744073709551616) + ((1 * 2 ^ c.args.unit.now.page % 18446744073709551616) - 1)) c.output_name-name.result.node c.output_name-name.result.addr (ap (λ n. c.args.slot * n) (slot_size c.args.unit.now c.requires.plain)) (ap (λ n. c.args.slot * n + (n - 1)) (slot_size c.args.unit.now c.requires.plain)) (name at).1 c.cut.ensures))

pub returns-clause-span : goal.returns-clause-span
returns-clause-span c a =
    let at = (goal.at.returns-clause-span c).After-output_name-name in
    cut_has c.args.unit.now c.args.record c.args.seg c.args.slot c.requires.plain c.requires.within c.requires.begins c.requires.ends c.cut.result (c.args.slot * (1 * 2 ^ c.args.unit.now.page % 18446744073709551616)) (c.args.slot * (1 * 2 ^ c.args.unit.now.page % 18446744073709551616) + ((1 * 2 ^ c.args.unit.now.page % 18446744073709551616) - 1)) c.output_name-name.result.node c.output_name-name.result.addr (ap (λ n. c.args.slot * n) (slot_size c.args.unit.now c.requires.plain)) (ap (λ n. c.args.slot * n + (n - 1)) (slot_size c.args.unit.now c.requires.plain)) (name at).1 c.cut.ensures a

pub returns-clause-names : goal.returns-clause-names
returns-clause-names c a t =
    let at = (goal.at.returns-clause-names c).After-output_name-name in
    cut_goes c.args.unit.now c.args.record c.args.seg c.args.slot c.requires.plain c.requires.within c.requires.begins c.requires.ends c.cut.result (c.args.slot * (1 * 2 ^ c.args.unit.now.page % 18446744073709551616)) (c.args.slot * (1 * 2 ^ c.args.unit.now.page % 18446744073709551616) + ((1 * 2 ^ c.args.unit.now.page % 18446744073709551616) - 1)) c.output_name-name.result.node c.output_name-name.result.addr (ap (λ n. c.args.slot * n) (slot_size c.args.unit.now c.requires.plain)) (ap (λ n. c.args.slot * n + (n - 1)) (slot_size c.args.unit.now c.requires.plain)) (name at).1 c.cut.ensures a t
