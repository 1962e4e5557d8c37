-- One segment more.
use Rattle.std.proofs.Common.{◌≡◌, ◌∙◌, inl, inr, ℕ, List, Some, true, slice_get, sym, ap, subst, arith}
use Rattle.std.proofs.lemmas.Bool.{cases_lt}
use Rattle.std.proofs.lemmas.Option.{slice_get_within}
use Rattle.dn_base.proofs.Lists.{slice_get-at}
use Rattle.dn_interval.specs.declared.row.Seg.{Seg}
use Rattle.dn_flat.specs.Levels.{is_among}
use Rattle.dn_flat.proofs.Among.{given_among}
use Rattle.dn_flat.proofs.units.nodes_of.Goals as goal

pub loop-seg-init : goal.loop-seg-init
loop-seg-init c = λ k s l e. absurd (omega (arith, l))

pub loop-seg-preserved : goal.loop-seg-preserved
loop-seg-preserved c = λ k s l e. elim (cases_lt k c.loop-seg.seg-index) [
  | inl m ↦ c.in_ok-add_node.ensures.grown s.node (c.loop-seg.invariant k s m e)
  | inr m ↦ subst (λ (n : ℕ). is_among n c.add_node.new.nodes.items ≡ true) (ap (λ (x : Seg). x.node) (same s (here k s e (omega (arith, l, m))))) c.in_ok-add_node.ensures.there
]
  where
    here : (k : ℕ) (s : Seg) → slice_get c.args.segs.now k ≡ Some s → k ≡ c.loop-seg.seg-index → Some c.seg-item.result ≡ Some s
    here k s e q = slice_get-at c.args.segs.now c.loop-seg.seg-index c.seg-item.result c.loop-seg-test.true c.seg-item.is ∙ ap (slice_get c.args.segs.now) (sym q) ∙ e

    same : (s : Seg) → Some c.seg-item.result ≡ Some s → c.seg-item.result ≡ s
    same s p = cc

pub returns : goal.returns
returns c = λ a y e.
    subst (λ (ns : List ℕ). is_among y.node ns ≡ true) (sym c.from_vec.ensures)
    (given_among c.loop-seg.nodes.items c.args.segs.now a y (λ k s q. c.loop-seg.invariant k s (omega (arith, slice_get_within c.args.segs.now k s q, c.loop-seg-test.false)) q) e)
