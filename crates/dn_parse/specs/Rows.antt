-- Rows of parts that are read alike: products and sums, which are one expression, and lists with a separator between two parts.
use Rattle.std.specs.Prelude.{ℕ, List, [], Option, None, Ok}
use Rattle.dn_token.specs.declared.token.Sign.{Sign}
use Rattle.dn_token.specs.declared.token.Sign.TheVariants.{CloseParenthesis, Comma as CommaSign, Plus, Times}
use Rattle.dn_token.specs.declared.token.Keyword.{Keyword}
use Rattle.dn_token.specs.declared.token.Keyword.TheVariants.{And as AndWord}
use Rattle.dn_token.specs.Token.{Token}
use Rattle.dn_parse.specs.declared.expressions.Operation.{Operation}
use Rattle.dn_parse.specs.declared.expressions.Operation.TheVariants.{Product, Sum}
use Rattle.dn_parse.specs.declared.listed.Separator.{Separator}
use Rattle.dn_parse.specs.declared.listed.Separator.TheVariants.{Comma, And}
use Rattle.dn_parse.specs.Tree.{Expression}
use Rattle.dn_parse.specs.Actions.{sum_of_members, product_of_members}
use Rattle.dn_parse.specs.Descent.{◌>>=◌, Next, Reader, if_there, after_sign, after_keyword, sign_at, one_more, after_comma, first_and, in_brackets, next_by, factor_at, term_at}

-- the members as one expression, where a product is itself a member of a sum
abbrev pub as_one : Operation → List Expression → Expression
as_one Product = product_of_members
as_one Sum = sum_of_members

-- the sign between two members
abbrev pub row_sign : Operation → Sign
row_sign Product = Times
row_sign Sum = Plus

-- a member: of a product a factor, of a sum a term
abbrev pub member_at : Operation → ℕ → Reader Expression
member_at Product = factor_at
member_at Sum = term_at

-- [ "*" factor ], or [ "+" term ]
unfoldable pub next_member_at : Operation → ℕ → List Token → Next Expression
next_member_at row d ts = next_by (row_sign row) (member_at row d) ts

-- factor { "*" factor }, or term { "+" term }, member by member
unfoldable pub members_at : Operation → ℕ → Reader (List Expression)
members_at row d ts = first_and (member_at row d) (next_member_at row d) ts

-- factor { "*" factor }, or term { "+" term }, as one expression
unfoldable pub joined_at : Operation → ℕ → Reader Expression
joined_at row d ts = members_at row d ts >>= λ members. Ok (as_one row members.0, members.1)

-- what follows this separator of a list, if it is the first token
abbrev pub after_separator : Separator → List Token → Option (List Token)
after_separator Comma ts = after_sign CommaSign ts
after_separator And ts = after_keyword AndWord ts

-- a part behind this separator, or none
abbrev pub one_behind : {X : Type 0} → Separator → Reader X → List Token → Next X
one_behind s reader ts = if_there (after_separator s ts) (λ rest. one_more (reader rest)) (Ok None)

-- part { "," part }
abbrev pub by_commas : {X : Type 0} → Reader X → Reader (List X)
by_commas reader ts = first_and reader (after_comma reader) ts

-- [ word "[" part { "," part } "]" ], for this reserved word
abbrev pub bracketed_at : {X : Type 0} → Keyword → Reader X → Reader (List X)
bracketed_at k reader ts = if_there (after_keyword k ts) (in_brackets (by_commas reader)) (Ok ([], ts))

-- [ part { "," part } ] ")"
abbrev pub closed_at : {X : Type 0} → Reader X → Reader (List X)
closed_at reader ts = if_there (after_sign CloseParenthesis ts) (λ rest. Ok ([], rest)) (by_commas reader ts >>= λ xs. sign_at CloseParenthesis xs.1 >>= λ rest. Ok (xs.0, rest))
