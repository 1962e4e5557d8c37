use Rattle.std.proofs.Common.{rules, ◌≡◌, ◌∙◌, ap, sym, subst, ◌<◌, List, [], ◌∷◌, length, map, Ok, arith}
use Rattle.dn_token.specs.Cursor.{cursor_view}
use Rattle.std.proofs.lemmas.Result.{err_from_is_err_and}
use Rattle.dn_token.specs.declared.token.Sign.TheVariants.{OpenParenthesis}
use Rattle.dn_token.specs.Token.{Token, sign}
use Rattle.dn_token.specs.Lexing.{lexeme_view, token_view}
use Rattle.dn_base.specs.Answers.{Answers}
use Rattle.dn_parse.specs.Tree.{Expression}
use Rattle.dn_parse.specs.Faults.{halt_view}
use Rattle.dn_parse.specs.Views.{expr_view}
use Rattle.dn_parse.specs.Rows.{as_one}
use Rattle.dn_parse.proofs.Members.{member_shortens, member_found, none_read, none_stays}
use Rattle.dn_parse.proofs.Series.{halted}
use Rattle.dn_parse.proofs.Nested.{factor_nested, members_begun, one_member, row_ends, row_halts, row_stops}
use Rattle.dn_parse.proofs.expressions.+expressions.Goals as goal

pub row_expr-returns-in_err-first-clause-gives : goal.row_expr-returns-in_err-first-clause-gives
row_expr-returns-in_err-first-clause-gives t c =
    let p = err_from_is_err_and c.from_residual.result c.from_residual.ensures.1 in
    rw (p.1, p.2) (halted _ _ _ c.in_err-first.ensures.gives (row_stops c.args.row c.args.depth (cursor_view c.args.tokens.now)))

pub row_expr-more-init : goal.row_expr-more-init
row_expr-more-init t c =
    let less = member_shortens _ _ _ _ c.in-Some.is c.in_ok-next.ensures.shorter in
    let several = ap length c.in_ok-members.ensures in
    record {
      several = omega (arith, several);
      shorter = omega (arith, less, c.in_ok-first.ensures.shorter);
      before = member_found expr_view (_ ∷ []) _ _ _ _ _ (members_begun c.args.row c.args.depth _ _ _ c.in_ok-first.ensures.gives) c.in_ok-next.ensures.gives c.in-Some.is c.in_ok-next.ensures.shorter c.in_ok-members.ensures;
    }

pub row_expr-more-preserved : goal.row_expr-more-preserved
row_expr-more-preserved t c =
    let less = member_shortens _ _ _ _ c.in-Some-2.is c.in_ok-member.ensures.shorter in
    let several = ap length c.in_ok-push.ensures.items in
    record {
      several = search rules;
      shorter = omega (arith, less, c.more.invariant.shorter);
      before = member_found expr_view _ _ _ _ _ _ c.more.invariant.before c.in_ok-member.ensures.gives c.in-Some-2.is c.in_ok-member.ensures.shorter c.in_ok-push.ensures.items;
    }

pub row_expr-returns-in_err-next-clause-gives : goal.row_expr-returns-in_err-next-clause-gives
row_expr-returns-in_err-next-clause-gives t c =
    let p = err_from_is_err_and c.from_residual-in_err-next.result c.from_residual-in_err-next.ensures.1 in
    rw (p.1, p.2) (halted _ _ _ c.in_err-next.ensures.gives (row_halts c.args.row c.args.depth (cursor_view c.args.tokens.now) _ _ (members_begun c.args.row c.args.depth _ _ _ c.in_ok-first.ensures.gives)))

pub row_expr-returns-in_err-member-clause-gives : goal.row_expr-returns-in_err-member-clause-gives
row_expr-returns-in_err-member-clause-gives t c =
    let p = err_from_is_err_and c.from_residual-in_err-member.result c.from_residual-in_err-member.ensures.1 in
    rw (p.1, p.2) (halted _ _ _ c.in_err-member.ensures.gives (row_halts c.args.row c.args.depth (cursor_view c.args.tokens.now) _ _ c.more.invariant.before))

pub row_expr-returns-in_default-clause-gives : goal.row_expr-returns-in_default-clause-gives
row_expr-returns-in_default-clause-gives t c =
    let none = none_read expr_view _ _ _ c.in_ok-next.ensures.gives c.in_default.is in
    let stays = none_stays _ _ _ c.in_default.is c.in_ok-next.ensures.shorter in
    one_member c.args.row c.args.depth (cursor_view c.args.tokens.now) _ _ c.in_ok-first.ensures.gives none
    ∙ ap (λ (l : List Token). Ok (expr_view c.in_ok-first.first, l)) (sym stays)

pub row_expr-returns-clause-gives : goal.row_expr-returns-clause-gives
row_expr-returns-clause-gives t c =
    let none = none_read expr_view _ _ _ c.in_ok-member.ensures.gives c.in_default-2.is in
    let stays = none_stays _ _ _ c.in_default-2.is c.in_ok-member.ensures.shorter in
    row_ends c.args.row c.args.depth (cursor_view c.args.tokens.now) _ _ c.more.invariant.before none
    ∙ ap (λ (l : List Token). Ok (as_one c.args.row (map expr_view c.more.members.items), l)) (sym stays)
    ∙ ap (λ (e : Expression). Ok (e, cursor_view c.next_member-in-more.new.tokens)) (sym c.as_one.ensures)

pub factor-returns-else-depth-eq0-clause-gives : goal.factor-returns-else-depth-eq0-clause-gives
factor-returns-else-depth-eq0-clause-gives t c =
    let d = c.args.depth in
    let some : 0 < d = omega arith in
    let opens : cursor_view c.args.tokens.now ≡ token_view c.in-Some.token ∷ cursor_view c.step-in-Sign-OpenParenthesis.new.self = search rules in
    let opened : lexeme_view c.in-Some.token.lexeme ≡ sign OpenParenthesis = search rules in
    subst (Answers (λ x. (expr_view x, cursor_view c.after_open.new.tokens)) halt_view c.after_open.result) (sym (factor_nested d (cursor_view c.args.tokens.now) (token_view c.in-Some.token) (cursor_view c.step-in-Sign-OpenParenthesis.new.self) opens opened some)) c.after_open.ensures.gives
