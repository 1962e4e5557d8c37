-- Expressions: what their parts come to.
use Rattle.std.proofs.Common.{◌≡◌, ◌∙◌, ◌<◌, ◌-◌, ap, refl, ℕ, zero, suc, List, [], ◌∷◌, None, Ok, Err, arith}
use Rattle.dn_token.specs.declared.token.Sign.TheVariants.{OpenParenthesis}
use Rattle.dn_token.specs.Token.{Lexeme, Token, sign}
use Rattle.dn_parse.specs.Tree.{Expression}
use Rattle.dn_parse.specs.declared.expressions.Operation.{Operation}
use Rattle.dn_parse.specs.declared.expressions.Operation.TheVariants.{Product, Sum}
use Rattle.dn_parse.specs.Machine.{Stop}
use Rattle.dn_parse.specs.Descent.{and_then, Read, factor_of, nested_at, factor_at, next_factor_at, factors_at, term_at, next_term_at, terms_at, expr_at, after_open_at}
use Rattle.dn_parse.specs.Rows.{as_one, member_at, next_member_at, members_at, joined_at}
use Rattle.dn_parse.proofs.Series.{Found, found_first, found_all, found_stop, first_stops, first_read}

-- the members of a product or of a sum, one after another
pub members_begun : (row : Operation) (d : ℕ) (ts : List Token) (x : Expression) (rest : List Token) → member_at row d ts ≡ Ok (x, rest) → Found (next_member_at row d) (members_at row d ts) (x ∷ []) rest
unfolding members_at
members_begun row d ts x rest e = found_first (members_at row d ts) x rest (first_read (member_at row d) (next_member_at row d) ts x rest e)

pub joined_by : (row : Operation) (d : ℕ) (ts : List Token) (r : Read (List Expression)) → members_at row d ts ≡ r → joined_at row d ts ≡ and_then r (λ members. Ok (as_one row members.0, members.1))
unfolding joined_at
joined_by row d ts r e = ap (λ (q : Read (List Expression)). and_then q (λ members. Ok (as_one row members.0, members.1))) e

pub row_stops : (row : Operation) (d : ℕ) (ts : List Token) (s : Stop) → member_at row d ts ≡ Err s → joined_at row d ts ≡ Err s
unfolding members_at
row_stops row d ts s e = joined_by row d ts (Err s) (first_stops (member_at row d) (next_member_at row d) ts s e)

pub row_halts : (row : Operation) (d : ℕ) (ts : List Token) (found : List Expression) (rest : List Token) → Found (next_member_at row d) (members_at row d ts) found rest → (s : Stop) → next_member_at row d rest ≡ Err s → joined_at row d ts ≡ Err s
row_halts row d ts found rest before s e = joined_by row d ts (Err s) (found_stop before s e)

pub row_ends : (row : Operation) (d : ℕ) (ts : List Token) (found : List Expression) (rest : List Token) → Found (next_member_at row d) (members_at row d ts) found rest → next_member_at row d rest ≡ Ok None → joined_at row d ts ≡ Ok (as_one row found, rest)
row_ends row d ts found rest before e = joined_by row d ts (Ok (found, rest)) (found_all before e)

-- one member alone
one_joined : (row : Operation) (x : Expression) → as_one row (x ∷ []) ≡ x
one_joined Product x = refl
one_joined Sum x = refl

pub one_member : (row : Operation) (d : ℕ) (ts : List Token) (x : Expression) (rest : List Token) → member_at row d ts ≡ Ok (x, rest) → next_member_at row d rest ≡ Ok None → joined_at row d ts ≡ Ok (x, rest)
one_member row d ts x rest first e =
    row_ends row d ts (x ∷ []) rest (members_begun row d ts x rest first) e ∙ ap (λ (y : Expression). Ok (y, rest)) (one_joined row x)

-- one parenthesis more is open
pub one_less : (d : ℕ) (ts rest : List Token) → nested_at (suc d) ts rest ≡ after_open_at d rest
unfolding factor_at next_factor_at factors_at term_at next_term_at terms_at expr_at after_open_at
one_less d ts rest = refl

pub nested_less : (d : ℕ) (ts rest : List Token) → 0 < d → nested_at d ts rest ≡ after_open_at (d - 1) rest
nested_less zero ts rest h = absurd (omega arith)
nested_less (suc d) ts rest h = let e : suc d - 1 ≡ d = omega arith in rw e (one_less d ts rest)

pub factor_nested : (d : ℕ) (ts : List Token) (t : Token) (rest : List Token) → ts ≡ t ∷ rest → t.lexeme ≡ sign OpenParenthesis → 0 < d → factor_at d ts ≡ after_open_at (d - 1) rest
unfolding factor_at
factor_nested d ts t rest e o h =
    ap (factor_at d) e ∙ ap (λ (l : Lexeme). factor_of l rest (t ∷ rest) (nested_at d (t ∷ rest) rest)) o ∙ nested_less d (t ∷ rest) rest h
