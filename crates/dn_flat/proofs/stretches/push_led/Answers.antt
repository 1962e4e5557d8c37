-- The strand leads elsewhere, or too short a way, or the stretch is one more.
use Rattle.std.proofs.Common.{◌≡◌, ◌+◌, ◌-◌, ◌∙◌, ℕ, List, arith, rules, ap, sym, subst}
use Rattle.std.specs.List.{All}
use Rattle.std.proofs.lemmas.List.Elements.{All-push}
use Rattle.dn_interval.specs.declared.row.Seg.{Seg}
use Rattle.dn_interval.specs.declared.span.TheConstants.{TOP}
use Rattle.dn_interval.specs.declared.strand.Strand.{Strand}
use Rattle.dn_flat.specs.Stretches.{IsStretch, begins, is_led}
use Rattle.dn_flat.proofs.Stretched.{not_more, off_high, off_low, off_node, one_led}
use Rattle.dn_flat.proofs.stretches.push_led.Goals as goal

pub returns-then-strand-first-clause-led : goal.returns-then-strand-first-clause-led
returns-then-strand-first-clause-led c = λ v. not_more c.args.buffer.first c.args.buffer.size (begins c.args.segs.now.items v) (is_led c.args.buffer.first c.args.buffer.size c.args.strand.now v) (off_node c.args.buffer.first c.args.buffer.size c.args.strand.now v c.if-strand-first.true)

pub returns-then-first-strand-clause-led : goal.returns-then-first-strand-clause-led
returns-then-first-strand-clause-led c = λ v. not_more c.args.buffer.first c.args.buffer.size (begins c.args.segs.now.items v) (is_led c.args.buffer.first c.args.buffer.size c.args.strand.now v) (off_low c.args.buffer.first c.args.buffer.size c.args.strand.now v c.if-first-strand.true)

pub returns-then-strand-lo-clause-led : goal.returns-then-strand-lo-clause-led
returns-then-strand-lo-clause-led c =
    let s : Strand = c.args.strand.now in
    let first = c.args.buffer.first in
    let lo : ℕ = first.base + TOP - s.slide in
    let at : s.slide + lo ≡ first.base + TOP = omega (arith, c.if-first-strand.false) in
    λ v. not_more first c.args.buffer.size (begins c.args.segs.now.items v) (is_led first c.args.buffer.size s v) (off_high first c.args.buffer.size s v lo c.args.buffer.some at c.if-strand-lo.true)

pub returns-clause-each : goal.returns-clause-each
returns-clause-each c = λ all. subst (λ (xs : List Seg). All (IsStretch c.args.buffer.first c.args.buffer.size) xs) (sym c.in_ok-push.ensures.items) (All-push (IsStretch c.args.buffer.first c.args.buffer.size) c.args.segs.now.items c.stretch.result all c.stretch.ensures.is)

pub returns-clause-led : goal.returns-clause-led
returns-clause-led c =
    let s : Strand = c.args.strand.now in
    let first = c.args.buffer.first in
    let lo : ℕ = first.base + TOP - s.slide in
    let at : s.slide + lo ≡ first.base + TOP = omega (arith, c.if-first-strand.false) in
    let node : s.node ≡ first.node = search rules in
    λ v. ap (λ (xs : List Seg). begins xs v) c.in_ok-push.ensures.items ∙ one_led first c.args.buffer.size s lo node at (omega (arith, c.if-first-strand.false)) (omega (arith, c.if-strand-lo.false)) c.args.segs.now.items c.stretch.result c.stretch.ensures.lo v
