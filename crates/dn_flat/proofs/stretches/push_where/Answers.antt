-- One segment more, or none.
use Rattle.std.proofs.Common.{◌≡◌, ◌⊎◌, ◌↔◌, true, List, sym, subst}
use Rattle.dn_interval.specs.declared.row.Seg.{Seg}
use Rattle.dn_interval.specs.Rows.{Member}
use Rattle.dn_flat.proofs.Stretched.{kept, not_kept}
use Rattle.dn_flat.proofs.stretches.push_where.Goals as goal

pub returns-in_ok-push : goal.returns-in_ok-push
returns-in_ok-push c = λ s. subst (λ (xs : List Seg). Member s xs ↔ (Member s c.args.segs.now.items ⊎ ((c.args.seg ≡ s) × (c.args.test ≡ true)))) (sym c.in_ok-push.ensures.items) (kept c.args.segs.now.items c.args.seg c.args.test c.if-test.true s)

pub returns-else-test : goal.returns-else-test
returns-else-test c = λ s. not_kept c.args.segs.now.items c.args.seg c.args.test c.if-test.false s
