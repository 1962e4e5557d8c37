-- The next segment goes on with the current one, or takes its place.
use Rattle.std.proofs.Common.{◌≡◌, ◌∙◌, ◌<◌, ◌+◌, ◌-◌, true, ◌∷◌, [], ◌++◌, take, drop, length, is_ok, sym, ap, subst, arith, rules}
use Rattle.std.proofs.lemmas.Bool.Decides.{nat_tests}
use Rattle.dn_base.proofs.Lists.{drop_at, drop_all}
use Rattle.dn_interval.specs.Rows.{Apart}
use Rattle.dn_interval.specs.Strands.{rows_give}
use Rattle.dn_interval.proofs.Pieces.{first_and_rest}
use Rattle.dn_interval.proofs.Turns.{Turning, turn_begun, turn_longer, turn_apart, turn_ended}
use Rattle.dn_interval.proofs.runs.rows_in_turn.Goals.{then-goes_on, else-goes_on+in_ok-push}
use Rattle.dn_interval.proofs.runs.rows_in_turn.Goals as goal

pub loop-seg-init : goal.loop-seg-init
loop-seg-init c =
    let xs = c.args.segs.now in
    let s = c.index-segs-0.result in
    let rest = take (length xs - 1) (drop 1 xs) in
    let some : 0 < length xs = grind (arith, nat_tests) in
    let e : xs ≡ s ∷ rest = first_and_rest xs s some c.index-segs-0.is in
    subst (λ l. Turning l s rest xs) (sym c.new-rows.ensures.items) (turn_begun s rest xs e c.requires)

pub loop-seg-preserved : goal.loop-seg-preserved
loop-seg-preserved c =
    let xs = c.args.segs.now in
    let rest = take (length xs - 1) (drop 1 xs) in
    let i = c.loop-seg.seg-index in
    let s = c.loop-seg.current in
    let t = c.seg-item.result in
    let rows = c.loop-seg.rows.items in
    let later = drop (i + 1) rest in
    let e : drop i rest ≡ t ∷ later = drop_at rest i t c.loop-seg-test.true c.seg-item.is in
    let state : Turning rows s (t ∷ later) xs = subst (λ l. Turning rows s l xs) e c.loop-seg.invariant in
    elim c.if-goes_on.branch [
      | then-goes_on w ↦
          let on = sym c.goes_on.ensures ∙ w.if-goes_on.true in
          let u = w.longer_seg-current.ensures in
          subst (λ v. Turning c.if-goes_on.rows.items v later xs) (sym w.current-is)
          (subst (λ o. Turning o.items w.longer_seg-current.result later xs) (sym w.rows-is)
          (turn_longer rows s t later xs state w.longer_seg-current.result u.lo u.hi u.node u.base u.gives))
      | else-goes_on+in_ok-push w ↦
          let off = sym c.goes_on.ensures ∙ w.if-goes_on.false in
          let ok : is_ok w.push.result ≡ true = search rules in
          let items = rw ok at w.push.ensures.items in
          subst (λ v. Turning c.if-goes_on.rows.items v later xs) (sym w.current-is)
          (subst (λ o. Turning o.items t later xs) (sym w.rows-is)
          (subst (λ l. Turning l t later xs) (sym (items ∙ ap (λ r. rows ++ r ∷ []) w.row_of_seg.ensures))
          (turn_apart rows s t later xs state off)))
    ]

pub returns-clause-same : goal.returns-clause-same
returns-clause-same c =
    let xs = c.args.segs.now in
    let rest = take (length xs - 1) (drop 1 xs) in
    let rows = c.loop-seg.rows.items in
    let s = c.loop-seg.current in
    let state = subst (λ l. Turning rows s l xs) (drop_all c.loop-seg.seg-index rest c.loop-seg-test.false) c.loop-seg.invariant in
    λ a y. ap (λ l. rows_give l a y) (c.in_ok-push-2.ensures.items ∙ ap (λ r. rows ++ r ∷ []) c.row_of_seg-2.ensures) ∙ turn_ended rows s xs state a y

pub returns-clause-apart : goal.returns-clause-apart
returns-clause-apart c =
    let rows = c.loop-seg.rows.items in
    subst (Apart 0) (sym (c.in_ok-push-2.ensures.items ∙ ap (λ r. rows ++ r ∷ []) c.row_of_seg-2.ensures)) c.loop-seg.invariant.apart
