-- A row of parts: the first one, and then one more as long as one stands there.
use Rattle.std.proofs.Common.{◌∙◌, ap, sym, refl, map, Ok, arith}
use Rattle.std.proofs.lemmas.Result.{err_from_is_err_and}
use Rattle.dn_token.specs.Cursor.{cursor_view}
use Rattle.dn_parse.specs.Descent.{after_comma}
use Rattle.dn_parse.proofs.Members.{behind_read, behind_stops, first_found, none_behind, pushed_found}
use Rattle.dn_parse.proofs.Series.{first_stops, found_all, found_stop, halted}
use Rattle.dn_parse.proofs.listed.members.Goals as goal

pub returns-in_err-first-clause-gives : goal.returns-in_err-first-clause-gives
returns-in_err-first-clause-gives g c =
    let p = err_from_is_err_and c.from_residual.result c.from_residual.ensures.1 in
    rw (p.1, p.2) (halted _ _ _ c.in_err-first.ensures.gives (first_stops g.M.Member.read_at (after_comma g.M.Member.read_at) (cursor_view c.args.tokens.now)))

pub list-init : goal.list-init
list-init g c = record {
  shorter = c.in_ok-first.ensures.shorter;
  before = first_found g.M.Member.view g.M.Member.read_at (after_comma g.M.Member.read_at) _ _ c.in_ok-first.first _ _ c.in_ok-first.ensures.gives c.new-members.ensures c.in_ok-push.ensures.ok;
}

pub list-preserved : goal.list-preserved
list-preserved g c =
    let is = behind_read _ g.M.Member.read_at _ _ _ c.list-test.ensures.gives c.in_ok-member.ensures.gives in
    let less = c.list-test.ensures.shorter refl in
    record {
      shorter = omega (arith, c.in_ok-member.ensures.shorter, less, c.list.invariant.shorter);
      before = pushed_found g.M.Member.view _ _ (cursor_view c.list.tokens) _ _ c.list.invariant.before is (omega (arith, c.in_ok-member.ensures.shorter, less)) c.in_ok-push-2.ensures.ok;
    }

pub returns-in_err-member-clause-gives : goal.returns-in_err-member-clause-gives
returns-in_err-member-clause-gives g c =
    let p = err_from_is_err_and c.from_residual-in_err-member.result c.from_residual-in_err-member.ensures.1 in
    rw (p.1, p.2) (halted _ _ _ c.in_err-member.ensures.gives (λ s e. found_stop c.list.invariant.before s (behind_stops _ g.M.Member.read_at _ s c.list-test.ensures.gives e)))

pub returns-clause-gives : goal.returns-clause-gives
returns-clause-gives g c =
    let none = none_behind _ g.M.Member.read_at c.list-test.ensures.gives.0 in
    found_all c.list.invariant.before none ∙ ap (λ ts. Ok (map g.M.Member.view c.list.members, ts)) (sym c.list-test.ensures.gives.1)
