-- The span that is found is one of those that are listed.
use Rattle.std.proofs.Common.{◌≡◌, ◌+◌, ℕ, sym, ◌∙◌, subst, arith}
use Rattle.std.specs.List.{Contains}
use Rattle.std.proofs.lemmas.List.Elements.{Contains-get_or}
use Rattle.dn_flat.specs.declared.crowds.UnitSpan.{UnitSpan}
use Rattle.dn_flat.proofs.Crowded.{not_past}
use Rattle.dn_flat.proofs.crowds.span_among.Goals as goal

pub returns : goal.returns
returns c =
    let h = c.in-Some.ensures.lookup in
    let names : UnitSpan = c.in-Some.names.now in
    let same : names.unit ≡ c.args.unit = (let e = c.if-names-unit.false in omega arith) in
    let there : Contains c.args.spans.now names = subst (Contains c.args.spans.now) (sym h.1) (Contains-get_or c.args.spans.now c.partition_point-place.result names h.3.0) in
    record {
      listed = subst (λ (n : ℕ). Contains c.args.spans.now (record { unit = n; span = names.span })) same there;
      from = omega (arith, c.if-names-first.false);
      to = not_past (c.args.first + c.args.size) names.span.lo (sym c.begins_past.ensures ∙ c.if-begins_past.false);
    }
