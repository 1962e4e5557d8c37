-- One segment more.
use Rattle.std.proofs.Common.{◌≡◌, ◌∙◌, ℕ, ◌+◌, Bool, List, ◌∷◌, drop, sym, ap, subst}
use Rattle.std.proofs.lemmas.List.{drop_more}
use Rattle.std.proofs.Math.ListN.{drop_of_length-le}
use Rattle.dn_interval.specs.declared.row.Seg.{Seg}
use Rattle.dn_net.specs.Decode.{unit_at}
use Rattle.dn_view.specs.Untouched.{comes_on}
use Rattle.dn_view.proofs.Onwards.{AreKept, all_given, all_met, none_kept, one_kept}
use Rattle.dn_view.proofs.onward.onward_segs.Goals as goal

pub loop-seg-init : goal.loop-seg-init
loop-seg-init g c =
    let p : ℕ → Bool = λ n. comes_on c.args.trial.system.on.net.now c.args.trial.system.flats.now c.args.trial.placement.now.hops (unit_at c.args.trial.system.on.net.now n) in
    subst (λ (l : List Seg). AreKept p c.args.segs.now l c.args.segs.now) (sym c.new-rest.ensures.items) (none_kept p c.args.segs.now)

pub loop-seg-preserved : goal.loop-seg-preserved
loop-seg-preserved g c =
    let p : ℕ → Bool = λ n. comes_on c.args.trial.system.on.net.now c.args.trial.system.flats.now c.args.trial.placement.now.hops (unit_at c.args.trial.system.on.net.now n) in
    let at : drop c.loop-seg.seg-index c.args.segs.now ≡ c.seg-item.result ∷ drop (c.loop-seg.seg-index + 1) c.args.segs.now = drop_more c.args.segs.now c.loop-seg.seg-index c.seg-item.result c.loop-seg-test.true ∙ ap (λ (s : Seg). s ∷ drop (c.loop-seg.seg-index + 1) c.args.segs.now) (sym c.seg-item.is) in
    one_kept p c.args.segs.now c.loop-seg.rest.items c.push_if.new.segs.items (drop (c.loop-seg.seg-index + 1) c.args.segs.now) c.seg-item.result c.may_come_on-is_kept.result c.in_ok-push_if.ensures c.may_come_on-is_kept.ensures (subst (λ (l : List Seg). AreKept p c.args.segs.now c.loop-seg.rest.items l) at c.loop-seg.invariant)

pub returns-clause-given : goal.returns-clause-given
returns-clause-given g c a s e =
    let p : ℕ → Bool = λ n. comes_on c.args.trial.system.on.net.now c.args.trial.system.flats.now c.args.trial.placement.now.hops (unit_at c.args.trial.system.on.net.now n) in
    all_given p c.args.segs.now c.loop-seg.rest.items (drop c.loop-seg.seg-index c.args.segs.now) (drop_of_length-le c.args.segs.now c.loop-seg-test.false) c.loop-seg.invariant a s e

pub returns-clause-met : goal.returns-clause-met
returns-clause-met g c a s e f =
    let p : ℕ → Bool = λ n. comes_on c.args.trial.system.on.net.now c.args.trial.system.flats.now c.args.trial.placement.now.hops (unit_at c.args.trial.system.on.net.now n) in
    all_met p c.args.segs.now c.loop-seg.rest.items (drop c.loop-seg.seg-index c.args.segs.now) (drop_of_length-le c.args.segs.now c.loop-seg-test.false) c.loop-seg.invariant a s e f
