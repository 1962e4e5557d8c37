use Rattle.std.proofs.Common.{◌≡◌, ◌∙◌, ap, sym, subst, true, List, ℕ, Ok, Result}
use Rattle.dn_token.specs.Token.{Token}
use Rattle.dn_token.specs.Lexing.{token_view}
use Rattle.dn_token.specs.Going.{tokens_of}
use Rattle.dn_token.specs.Ahead.{first_and_rest, good_tokens, is_good}
use Rattle.dn_token.specs.Cursor.{cursor_view}
use Rattle.dn_token.proofs.Counting.{good_first}
use Rattle.dn_token.proofs.cursor.Cursor.at.Goals as goal

pub returns-in_default-next : goal.returns-in_default-next
unfolding cursor_view
returns-in_default-next c = sym (ap good_tokens (c.in-Ok.ensures.gives ∙ ap (λ o. first_and_rest (Ok o)) c.in_default-next.is))

pub returns : goal.returns
unfolding cursor_view
returns c =
    let gives = c.in-Ok.ensures.gives ∙ ap (λ o. first_and_rest (Ok o)) c.in-Some.is in
    let good = subst (λ (r : Result (List Token) ℕ). is_good r ≡ true) gives c.requires.good in
    sym (ap good_tokens gives ∙ good_first (token_view c.in-Some.token) (tokens_of c.in-Some.token.line c.in-Some.rest.now) good)
