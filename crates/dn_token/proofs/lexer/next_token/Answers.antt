use Rattle.std.proofs.Common.{◌≡◌, ◌∙◌, ap, sym, rules, tests, true, false}
use Rattle.dn_token.specs.Token.{is_line_feed}
use Rattle.dn_token.specs.Lexing.{begins_comment, front_of}
use Rattle.dn_token.proofs.Skipped.{at_same, at_start, at_line, at_blank, at_comment, at_token, at_bad, at_end}
use Rattle.dn_token.proofs.lexer.next_token.Goals as goal

pub text-init : goal.text-init
text-init c = at_start c.args.line c.args.text.now

pub text-preserved-then-byte-eq10 : goal.text-preserved-then-byte-eq10
text-preserved-then-byte-eq10 c =
    let line : is_line_feed c.in-Some.byte ≡ true = search (rules, tests) in
    at_line (at_same c.text.invariant c.in-Some.ensures) line

pub text-preserved-then-is_blank : goal.text-preserved-then-is_blank
text-preserved-then-is_blank c =
    let no_line : is_line_feed c.in-Some.byte ≡ false = search (rules, tests) in
    at_blank (at_same c.text.invariant c.in-Some.ensures) no_line (sym c.if-is_blank.ensures)

pub text-preserved : goal.text-preserved
text-preserved c =
    let no_line : is_line_feed c.in-Some.byte ≡ false = search (rules, tests) in
    let comment = ap begins_comment (sym c.in-Some.ensures) ∙ sym c.if-is_comment.ensures in
    at_same (at_comment (at_same c.text.invariant c.in-Some.ensures) no_line (sym c.if-is_blank.ensures) comment) (sym c.after_comment-rest.ensures)

pub returns-in_default-front-clause-gives : goal.returns-in_default-front-clause-gives
returns-in_default-front-clause-gives c =
    let no_line : is_line_feed c.in-Some.byte ≡ false = search (rules, tests) in
    let no_comment = ap begins_comment (sym c.in-Some.ensures) ∙ sym c.if-is_comment.ensures in
    at_bad (at_same c.text.invariant c.in-Some.ensures) no_line (sym c.if-is_blank.ensures) no_comment (ap front_of (sym c.in-Some.ensures) ∙ c.in_default-front.ensures.seen)

pub returns-else-is_comment-clause-gives : goal.returns-else-is_comment-clause-gives
returns-else-is_comment-clause-gives c =
    let no_line : is_line_feed c.in-Some.byte ≡ false = search (rules, tests) in
    let no_comment = ap begins_comment (sym c.in-Some.ensures) ∙ sym c.if-is_comment.ensures in
    at_token (at_same c.text.invariant c.in-Some.ensures) no_line (sym c.if-is_blank.ensures) no_comment (ap front_of (sym c.in-Some.ensures) ∙ c.in-Some-front.ensures.seen)

pub returns-clause-gives : goal.returns-clause-gives
returns-clause-gives c = at_end (at_same c.text.invariant c.in_default.ensures)
