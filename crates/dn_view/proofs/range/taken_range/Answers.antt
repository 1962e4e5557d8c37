use Rattle.std.proofs.Common.{◌≡◌, ◌∙◌, inl, inr, None, ap, sym, subst, rules, arith}
use Rattle.dn_placement.specs.Records.{or_record, placed_records}
use Rattle.dn_view.specs.declared.records.Records.{Records}
use Rattle.dn_view.specs.declared.records.Records.TheVariants.{Kept, Joined}
use Rattle.dn_view.specs.Records.{records_taken}
use Rattle.dn_view.proofs.range.taken_range.Goals as goal

pub returns-in-Kept : goal.returns-in-Kept
returns-in-Kept c =
    let is : c.args.records ≡ Kept = search rules in
    record {
      there = c.requires.end;
      rest = λ h slot below out. subst (λ (r : Records). records_taken c.args.checked.net.now h r c.args.node slot ≡ None) (sym is) (elim out [ inl l ↦ absurd (omega arith) | inr l ↦ below slot l ]);
    }

pub returns-in-Joined : goal.returns-in-Joined
returns-in-Joined c =
    let is : c.args.records ≡ Joined c.in-Joined.request c.in-Joined.placement = search rules in
    let placed = placed_records c.args.checked.net.now c.in-Joined.request.now c.in-Joined.placement.now c.args.node in
    record {
      there = (let t = c.placed_range-placed.ensures.there in let e = c.requires.end in omega arith);
      rest = λ h slot below out. subst (λ (r : Records). records_taken c.args.checked.net.now h r c.args.node slot ≡ None) (sym is)
          (elim out [
            | inl l ↦ absurd (omega arith)
            | inr l ↦ ap (λ o. or_record o (placed slot)) (below slot (omega arith)) ∙ c.placed_range-placed.ensures.rest slot (inr (omega arith))
          ]);
    }
