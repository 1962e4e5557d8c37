-- A row of at most eight parts: the first one, and then one more as long as one stands there and may follow.
use Rattle.std.proofs.Common.{◌≡◌, ◌∙◌, ap, sym, subst, refl, [], ◌<◌, ◌-◌, map, Ok, arith}
use Rattle.std.proofs.lemmas.List.{map-append}
use Rattle.std.proofs.lemmas.Result.{err_from_is_err_and}
use Rattle.dn_token.specs.Cursor.{cursor_view}
use Rattle.dn_parse.specs.Descent.{with_front, row, first_and_most}
use Rattle.dn_parse.specs.Rows.{one_behind}
use Rattle.dn_parse.proofs.Members.{behind_read, behind_stops, none_behind, one_pushed}
use Rattle.dn_parse.proofs.Series.{halted, most_more, most_none, most_read, most_stop, most_stops}
use Rattle.dn_parse.proofs.listed.eight_members.Goals as goal

pub returns-in_err-first-clause-gives : goal.returns-in_err-first-clause-gives
returns-in_err-first-clause-gives g c =
    let p = err_from_is_err_and c.from_residual.result c.from_residual.ensures.1 in
    rw (p.1, p.2) (halted _ _ _ c.in_err-first.ensures.gives (most_stops 7 g.M.Member.read_at (one_behind c.args.by g.M.Member.read_at) (cursor_view c.args.tokens.now)))

pub list-init : goal.list-init
list-init g c =
    let view = g.M.Member.view in
    let one = one_pushed view c.in_ok-first.first [] _ refl c.in_ok-members.ensures in
    record {
      shorter = c.in_ok-first.ensures.shorter;
      before = subst (λ l. first_and_most 7 g.M.Member.read_at (one_behind c.args.by g.M.Member.read_at) (cursor_view c.args.tokens.now) ≡ with_front l (row (one_behind c.args.by g.M.Member.read_at) 7 (cursor_view c.read.new.tokens))) one (most_read 7 g.M.Member.read_at (one_behind c.args.by g.M.Member.read_at) (cursor_view c.args.tokens.now) _ _ c.in_ok-first.ensures.gives);
    }

pub list-preserved : goal.list-preserved
list-preserved g c =
    let view = g.M.Member.view in
    let next = one_behind c.args.by g.M.Member.read_at in
    let more = sym (ap (map view) c.in_ok-push.ensures.ok ∙ map-append view _ _) in
    let less = c.if-not-after_separator.ensures.shorter refl in
    let is = behind_read _ g.M.Member.read_at _ _ _ c.if-not-after_separator.ensures.gives c.in_ok-member.ensures.gives in
    let some : 0 < c.list.left = omega arith in
    record {
      shorter = omega (arith, c.in_ok-member.ensures.shorter, less, c.list.invariant.shorter);
      before = subst (λ l. first_and_most 7 g.M.Member.read_at next (cursor_view c.args.tokens.now) ≡ with_front l (row next (c.list.left - 1) (cursor_view c.read-in-list.new.tokens))) more (most_more next c.list.left some _ _ _ _ _ c.list.invariant.before is);
    }

pub returns-in_err-member-clause-gives : goal.returns-in_err-member-clause-gives
returns-in_err-member-clause-gives g c =
    let some : 0 < c.list.left = omega arith in
    let p = err_from_is_err_and c.from_residual-in_err-member.result c.from_residual-in_err-member.ensures.1 in
    rw (p.1, p.2) (halted _ _ _ c.in_err-member.ensures.gives (λ s e. most_stop (one_behind c.args.by g.M.Member.read_at) c.list.left some _ _ (cursor_view c.list.tokens) s c.list.invariant.before (behind_stops _ g.M.Member.read_at _ s c.if-not-after_separator.ensures.gives e)))

pub returns-then-not-after_separator-clause-gives : goal.returns-then-not-after_separator-clause-gives
returns-then-not-after_separator-clause-gives g c =
    let some : 0 < c.list.left = omega arith in
    let none = none_behind _ g.M.Member.read_at c.if-not-after_separator.ensures.gives.0 in
    most_none (one_behind c.args.by g.M.Member.read_at) c.list.left some _ _ _ c.list.invariant.before none
    ∙ ap (λ ts. Ok (map g.M.Member.view c.list.members, ts)) (sym c.if-not-after_separator.ensures.gives.1)
