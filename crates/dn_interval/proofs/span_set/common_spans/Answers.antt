-- The span that ends first goes, after the part that both have was taken.
use Rattle.std.proofs.Common.{◌≡◌, ◌∙◌, ◌+◌, inl, inr, true, is_ok, ap, arith, rules}
use Rattle.dn_interval.proofs.Passes.{Met, rest_stands, first_met, second_met}
use Rattle.dn_interval.proofs.span_set.common_spans.Goals.{Joined-lo-hi, then-lo-hi+in_ok-push, else-lo-hi}
use Rattle.dn_interval.proofs.span_set.common_spans.Goals as goal

-- what the two spans have in common was put behind the spans made, or they have nothing in common
met : (c : Joined-lo-hi) → Met c.index-ours-i.result c.index-theirs-j.result c.pairs.met.items c.if-lo-hi.met.items
met c = elim c.if-lo-hi.branch [
  | then-lo-hi+in_ok-push w ↦
      let ok : is_ok w.push.result ≡ true = search rules in
      let e = rw ok at w.push.ensures.items in
      inl (_, c.max-lo.ensures, c.min-hi.ensures, ap (λ v. v.items) w.met-is ∙ e)
  | else-lo-hi w ↦ inr (omega (arith, w.if-lo-hi.false), ap (λ v. v.items) w.met-is)
]

pub pairs-preserved-then-our-their : goal.pairs-preserved-then-our-their
pairs-preserved-then-our-their c =
    let inv = c.pairs.invariant in
    record {
      i_within = omega arith;
      j_within = omega arith;
      ours = rest_stands c.args.ours.now c.pairs.i c.index-ours-i.result (omega arith) c.index-ours-i.is inv.ours;
      theirs = inv.theirs;
      pass = first_met c.args.ours.now c.args.theirs.now c.pairs.i c.pairs.j c.index-ours-i.result c.index-theirs-j.result c.pairs.met.items _ (omega arith) c.index-ours-i.is (omega arith) c.index-theirs-j.is inv.ours inv.theirs inv.pass c.if-lo-hi.met.items (met (goal.at.pairs-preserved-then-our-their c).Joined-lo-hi) c.if-our-their.true;
    }

pub pairs-preserved : goal.pairs-preserved
pairs-preserved c =
    let inv = c.pairs.invariant in
    record {
      i_within = omega arith;
      j_within = omega arith;
      ours = inv.ours;
      theirs = rest_stands c.args.theirs.now c.pairs.j c.index-theirs-j.result (omega arith) c.index-theirs-j.is inv.theirs;
      pass = second_met c.args.ours.now c.args.theirs.now c.pairs.i c.pairs.j c.index-ours-i.result c.index-theirs-j.result c.pairs.met.items _ (omega arith) c.index-ours-i.is (omega arith) c.index-theirs-j.is inv.ours inv.theirs inv.pass c.if-lo-hi.met.items (met (goal.at.pairs-preserved c).Joined-lo-hi) c.if-our-their.false;
    }
