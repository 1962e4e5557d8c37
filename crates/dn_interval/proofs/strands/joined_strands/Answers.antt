-- The next strand goes on with the current one, or takes its place.
use Rattle.std.proofs.Common.{◌≡◌, ◌∙◌, ◌<◌, ◌+◌, ◌-◌, true, ◌∷◌, take, drop, length, is_ok, sym, ap, subst, arith, rules}
use Rattle.std.specs.List.{All}
use Rattle.std.specs.List.Sorted.{IsSorted}
use Rattle.std.proofs.lemmas.Bool.Decides.{nat_tests}
use Rattle.dn_base.proofs.Lists.{drop_at, drop_all}
use Rattle.dn_interval.specs.Strands.{strands_give, strand_cmp, IsMaximal}
use Rattle.dn_interval.proofs.Pieces.{first_and_rest}
use Rattle.dn_interval.proofs.Following.{Joining, in_order, goes_with, goes_apart, joined_maximal, is_on, not_on, starts_first}
use Rattle.dn_interval.proofs.strands.joined_strands.Goals.{then-goes_on, else-goes_on+in_ok-push}
use Rattle.dn_interval.proofs.strands.joined_strands.Goals as goal

pub loop-strand-init : goal.loop-strand-init
loop-strand-init c =
    let xs = c.args.strands.now in
    let s = c.index-strands-0.result in
    let rest = take (length xs - 1) (drop 1 xs) in
    let some : 0 < length xs = grind (arith, nat_tests) in
    let e : xs ≡ s ∷ rest = first_and_rest xs s some c.index-strands-0.is in
    subst (λ l. Joining l s rest (strands_give xs)) (sym c.new-out.ensures.items) (record {
      sorted = in_order s rest (subst (IsSorted strand_cmp) e c.requires);
      ordered = tt;
      precede = tt;
      same = λ a y. ap (λ t. strands_give t a y) (sym e);
    })

pub loop-strand-preserved : goal.loop-strand-preserved
loop-strand-preserved c =
    let xs = c.args.strands.now in
    let rest = take (length xs - 1) (drop 1 xs) in
    let i = c.loop-strand.strand-index in
    let s = c.loop-strand.current in
    let t = c.strand-item.result in
    let out = c.loop-strand.out.items in
    let later = drop (i + 1) rest in
    let e : drop i rest ≡ t ∷ later = drop_at rest i t c.loop-strand-test.true c.strand-item.is in
    let state : Joining out s (t ∷ later) (strands_give xs) = subst (λ l. Joining out s l (strands_give xs)) e c.loop-strand.invariant in
    elim c.if-goes_on.branch [
      | then-goes_on w ↦
          let on = is_on s t (sym c.goes_on.ensures ∙ w.if-goes_on.true) in
          subst (λ v. Joining c.if-goes_on.out.items v later (strands_give xs)) (sym w.current-is)
          (subst (λ o. Joining o.items w.join-current.result later (strands_give xs)) (sym w.out-is)
          (goes_with out s t w.join-current.result later (strands_give xs) state w.join-current.ensures.node_stays w.join-current.ensures.slide_stays w.join-current.ensures.lo_stays on.0 on.1 (starts_first s t state.sorted.0 on.0 on.1) w.join-current.ensures.gives))
      | else-goes_on+in_ok-push w ↦
          let on = sym c.goes_on.ensures ∙ w.if-goes_on.false in
          let ok : is_ok w.push.result ≡ true = search rules in
          let items = rw ok at w.push.ensures.items in
          subst (λ v. Joining c.if-goes_on.out.items v later (strands_give xs)) (sym w.current-is)
          (subst (λ o. Joining o.items t later (strands_give xs)) (sym w.out-is)
          (subst (λ l. Joining l t later (strands_give xs)) (sym items)
          (goes_apart out s t later (strands_give xs) state (not_on s t on))))
    ]

pub returns-clause-maximal : goal.returns-clause-maximal
returns-clause-maximal c =
    let xs = c.args.strands.now in
    let rest = take (length xs - 1) (drop 1 xs) in
    let out = c.loop-strand.out.items in
    let s = c.loop-strand.current in
    let state = subst (λ l. Joining out s l (strands_give xs)) (drop_all c.loop-strand.strand-index rest c.loop-strand-test.false) c.loop-strand.invariant in
    subst (λ l. All (IsMaximal (strands_give l)) l) (sym c.in_ok-push-2.ensures.items) (joined_maximal out s (strands_give xs) state)
