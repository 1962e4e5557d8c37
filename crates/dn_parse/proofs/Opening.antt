-- What a statement is, by its first tokens.
use Rattle.std.proofs.Common.{◌≡◌, refl, Bool, true, false, cond, not, List, [], ◌∷◌}
use Rattle.dn_token.specs.Token.{Lexeme, Token, word, keyword, number, sign}
use Rattle.dn_parse.specs.Tree.{plain_role}
use Rattle.dn_parse.specs.Descent.{as_declared, begins_node, begins_order, is_node_start, node_at, statement_at, statement_by, word_statement_at}

-- the second where a test fails
second_where : {A : Type 0} (b : Bool) (x y : A) → not b ≡ true → cond b x y ≡ y
second_where true x y h = cc
second_where false x y h = refl

by_lexeme : (l : Lexeme) (whole rest : List Token) → is_node_start l rest ≡ true → statement_by l whole rest ≡ as_declared (node_at plain_role whole)
unfolding word_statement_at
by_lexeme (word w) whole rest h = second_where (begins_order w rest) _ _ h
by_lexeme (keyword k) whole rest h = cc
by_lexeme (number n) whole rest h = cc
by_lexeme (sign s) whole rest h = cc

-- the declaration of a node is where one begins
pub node_begins : (ts : List Token) → begins_node ts ≡ true → statement_at ts ≡ as_declared (node_at plain_role ts)
unfolding statement_at
node_begins [] h = cc
node_begins (t ∷ ts) h = by_lexeme t.lexeme (t ∷ ts) ts h
