-- What is read from proper tokens is well formed.
use Rattle.std.proofs.Common.{inl, ℕ, zero, suc, ◌≤◌, Bool, true, false, cond, List, [], ◌∷◌, length, codes, Option, Some, None, Result, Ok, Err, arith}
use Rattle.std.specs.Str.{bytes_eq}
use Rattle.dn_base.proofs.Lists.{Each}
use Rattle.dn_token.specs.declared.token.Keyword.{Keyword}
use Rattle.dn_token.specs.declared.token.Keyword.TheVariants.{Agent, Vectors, Unit as UnitWord, Module, Use, For, In, End, Begin, Is, Accept, Map, To, And, At, Over, Kind, Page, Slots, Reach, As, Num, Node, Resolve, Lookup, View, Grant, Route, Revoke, Dump, Split, Absorb}
use Rattle.dn_token.specs.declared.token.Sign.{Sign}
use Rattle.dn_token.specs.declared.token.Sign.TheVariants.{Semicolon, Comma, OpenBracket, CloseBracket, OpenParenthesis, CloseParenthesis, Minus, Plus, Times, Dot, Dots}
use Rattle.dn_token.specs.Token.{Lexeme, Token, word, keyword, number, sign}
use Rattle.dn_parse.specs.Tree.{Expression, expressions, Role, plain_role, agent_role, vectors_role, Declaration, Order}
use Rattle.dn_parse.specs.Actions.{sum_of_members, product_of_members}
use Rattle.dn_parse.specs.Forms.{is_sign, is_the_word}
use Rattle.dn_parse.specs.Machine.{Stop}
use Rattle.dn_parse.specs.Descent.{and_then, word_of, any_of, Read, Next, Reader, if_there, after, after_sign, after_keyword, after_word, or_refused, sign_at, keyword_at, the_word_at, word_at, any_word_at, value_or_refused, value_at, with_front, row, row_from, row_at, one_more, after_comma, first_and, next_by, term_with, expr_with, after_open_with, at_sign, factor_of, factor_with, nested_at, factor_at, next_factor_at, factors_at, term_at, next_term_at, terms_at, expr_at, first_and_most, expr_after, in_brackets, index_at, part_at, next_part_at, name_at, upper_at, block_at, next_block_at, blocks_at, addr_at, dest_at, next_dest_at, dests_at, entry_at, next_entry_at, entries_at, accept_at, map_at, over_at, spec_at, param_at, next_param_at, params_at, closed_params_at, arg_at, next_arg_at, args_at, closed_args_at, next_port_at, ports_at, node_at, measure_at, unit_declaration_at, module_at, use_at, loop_at, mode_at, access_at, resolve_at, lookup_at, view_at, grant_at, route_at, radix_at, piece_at, next_piece_at, pieces_at, gather_at, word_order_at, order_at, as_declared, as_ordered, keyword_statement_at, begins_order, word_statement_at, statement_by, statement_at, whole_statement_at}
use Rattle.dn_print.proofs.Titles.{Title}
use Rattle.dn_print.proofs.Words.{IsWord, title_word, keyword_word}
use Rattle.dn_print.proofs.Formed.{Maybe}
use Rattle.dn_print.proofs.Proper.{ProperLexeme, Proper}
use Rattle.dn_print.proofs.Trees.{Small, AllSmall, GoodPart, Some1, GoodName, SmallBlock, NamedDest, NamedEntry, GoodSpec, GoodDeclaration, GoodArg, GoodStatement, some_each}

-- what is read is so, and the tokens behind it are proper
abbrev pub ReadsBy : {X : Type 0} → (X → Type 0) → Read X → Type 0
ReadsBy P (Ok p) = P p.0 × Proper p.1
ReadsBy P (Err s) = Unit {0}

pub record Reads {X : Type 0} (P : X → Type 0) (r : Read X) : Type 0 where
  pub it : ReadsBy P r

abbrev FoundBy : {X : Type 0} → (X → Type 0) → Option (X × List Token) → Type 0
FoundBy P None = Unit {0}
FoundBy P (Some p) = P p.0 × Proper p.1

abbrev NextBy : {X : Type 0} → (X → Type 0) → Next X → Type 0
NextBy P (Ok o) = FoundBy P o
NextBy P (Err s) = Unit {0}

record Nexts {X : Type 0} (P : X → Type 0) (r : Next X) : Type 0 where
  it : NextBy P r

abbrev LeavesBy : Result (List Token) Stop → Type 0
LeavesBy (Ok ts) = Proper ts
LeavesBy (Err s) = Unit {0}

record Leaves (r : Result (List Token) Stop) : Type 0 where
  it : LeavesBy r

record Left (o : Option (List Token)) : Type 0 where
  it : Maybe Proper o

-- anything at all
abbrev Any : {X : Type 0} → X → Type 0
Any x = Unit {0}

given : {X : Type 0} {P : X → Type 0} {x : X} {ts : List Token} → P x → Proper ts → Reads P (Ok (x, ts))
given h p = record { it = (h, p) }

bind : {A B : Type 0} {P : A → Type 0} {Q : B → Type 0} (r : Read A) (f : A × List Token → Read B) → Reads P r → ((a : A) (rest : List Token) → P a → Proper rest → Reads Q (f (a, rest))) → Reads Q (and_then r f)
bind (Ok p) f h more = more p.0 p.1 h.it.0 h.it.1
bind (Err s) f h more = record { it = tt }

pass : {B : Type 0} {Q : B → Type 0} (r : Result (List Token) Stop) (f : List Token → Read B) → Leaves r → ((rest : List Token) → Proper rest → Reads Q (f rest)) → Reads Q (and_then r f)
pass (Ok ts) f h more = more ts h.it
pass (Err s) f h more = record { it = tt }

either_way : {B : Type 0} {Q : B → Type 0} (o : Option (List Token)) (f : List Token → Read B) (b : Read B) → Left o → ((rest : List Token) → Proper rest → Reads Q (f rest)) → Reads Q b → Reads Q (if_there o f b)
either_way None f b h more other = other
either_way (Some ts) f b h more other = more ts h.it

-- one token
after_left : (test : Lexeme → Bool) (ts : List Token) → Proper ts → Left (after test ts)
after_left test [] h = record { it = tt }
after_left test (t ∷ ts) h = go (test t.lexeme)
  where
    go : (b : Bool) → Left (cond b (Some ts) None)
    go true = record { it = h.1 }
    go false = record { it = tt }

sign_left : (s : Sign) (ts : List Token) → Proper ts → Left (after_sign s ts)
unfolding after_sign
sign_left s ts h = after_left (is_sign s) ts h

keyword_left : (k : Keyword) (ts : List Token) → Proper ts → Left (after_keyword k ts)
unfolding after_keyword
keyword_left k ts h = after_left _ ts h

the_word_left : (w : List ℕ) (ts : List Token) → Proper ts → Left (after_word w ts)
unfolding after_word
the_word_left w ts h = after_left (is_the_word w) ts h

or_leaves : (o : Option (List Token)) (ts : List Token) → Left o → Leaves (or_refused o ts)
or_leaves None ts h = record { it = tt }
or_leaves (Some rest) ts h = record { it = h.it }

sign_leaves : (s : Sign) (ts : List Token) → Proper ts → Leaves (sign_at s ts)
unfolding sign_at
sign_leaves s ts h = or_leaves (after_sign s ts) ts (sign_left s ts h)

keyword_leaves : (k : Keyword) (ts : List Token) → Proper ts → Leaves (keyword_at k ts)
unfolding keyword_at
keyword_leaves k ts h = or_leaves (after_keyword k ts) ts (keyword_left k ts h)

the_word_leaves : (w : List ℕ) (ts : List Token) → Proper ts → Leaves (the_word_at w ts)
unfolding the_word_at
the_word_leaves w ts h = or_leaves (after_word w ts) ts (the_word_left w ts h)

or_value : {X : Type 0} {P : X → Type 0} (o : Option X) (ts all : List Token) → Maybe P o → Proper ts → Reads P (value_or_refused o ts all)
or_value None ts all h p = record { it = tt }
or_value (Some x) ts all h p = given h p

value_reads : {X : Type 0} {P : X → Type 0} (value : Lexeme → Option X) → ((l : Lexeme) → ProperLexeme l → Maybe P (value l)) → (ts : List Token) → Proper ts → Reads P (value_at value ts)
value_reads value good [] h = record { it = tt }
value_reads value good (t ∷ ts) h = or_value (value t.lexeme) ts (t ∷ ts) (good t.lexeme h.0) h.1

word_title : (l : Lexeme) → ProperLexeme l → Maybe Title (word_of l)
word_title (word w) h = h
word_title (keyword k) h = tt
word_title (number n) h = tt
word_title (sign s) h = tt

word_reads : (ts : List Token) → Proper ts → Reads Title (word_at ts)
unfolding word_at
word_reads ts h = value_reads word_of word_title ts h

any_title : (l : Lexeme) → ProperLexeme l → Maybe IsWord (any_of l)
any_title (word w) h = title_word w h
any_title (keyword k) h = keyword_word k
any_title (number n) h = tt
any_title (sign s) h = tt

any_reads : (ts : List Token) → Proper ts → Reads IsWord (any_word_at ts)
unfolding any_word_at
any_reads ts h = value_reads any_of any_title ts h

-- rows
more_next : {X : Type 0} {P : X → Type 0} (r : Read X) → Reads P r → Nexts P (one_more r)
more_next (Ok p) h = record { it = h.it }
more_next (Err s) h = record { it = tt }

optional_next : {X : Type 0} {P : X → Type 0} (o : Option (List Token)) (f : List Token → Next X) → Left o → ((rest : List Token) → Proper rest → Nexts P (f rest)) → Nexts P (if_there o f (Ok None))
optional_next None f h more = record { it = tt }
optional_next (Some ts) f h more = more ts h.it

abbrev AtMost : {X : Type 0} → (X → Type 0) → ℕ → List X → Type 0
AtMost P n xs = Each P xs × (length xs ≤ n)

with_reads : {X : Type 0} {P : X → Type 0} (n : ℕ) (x : X) (r : Read (List X)) → P x → Reads (AtMost P n) r → Reads (AtMost P (suc n)) (with_front (x ∷ []) r)
with_reads n x (Ok p) h g = record { it = (((h, g.it.0.0), (let l = g.it.0.1 in omega (arith, l))), g.it.1) }
with_reads n x (Err s) h g = record { it = tt }

row_reads : {X : Type 0} {P : X → Type 0} (next : List Token → Next X) → ((ts : List Token) → Proper ts → Nexts P (next ts)) → (n : ℕ) (ts : List Token) → Proper ts → Reads (AtMost P n) (row next n ts)
row_reads next good zero ts h = record { it = ((tt, omega arith), h) }
row_reads {X} {P} next good (suc n) ts h = go (next ts) (good ts h) (λ us p. row_reads next good n us p)
  where
    go : (r : Next X) → Nexts P r → ((us : List Token) → Proper us → Reads (AtMost P n) (row next n us)) → Reads (AtMost P (suc n)) (and_then r (λ found. row_from ts found (row next n)))
    go (Err s) g more = record { it = tt }
    go (Ok None) g more = record { it = ((tt, omega arith), h) }
    go (Ok (Some x)) g more = with_reads n x.0 (row next n x.1) g.it.0 (more x.1 g.it.1)

some_with : {X : Type 0} {P : X → Type 0} (n : ℕ) (x : X) (r : Read (List X)) → P x → Reads (AtMost P n) r → Reads (λ xs. Some1 P xs × (1 ≤ length xs) × (length xs ≤ suc n)) (with_front (x ∷ []) r)
some_with n x (Ok p) h g = record { it = (((h, g.it.0.0), omega arith, (let l = g.it.0.1 in omega (arith, l))), g.it.1) }
some_with n x (Err s) h g = record { it = tt }

only : {X : Type 0} {P Q : X → Type 0} (r : Read X) → ((x : X) → P x → Q x) → Reads P r → Reads Q r
only (Ok p) f h = record { it = (f p.0 h.it.0, h.it.1) }
only (Err s) f h = record { it = tt }

first_reads : {X : Type 0} {P : X → Type 0} (reader : Reader X) (next : List Token → Next X) → ((ts : List Token) → Proper ts → Reads P (reader ts)) → ((ts : List Token) → Proper ts → Nexts P (next ts)) → (ts : List Token) → Proper ts → Reads (Some1 P) (first_and reader next ts)
unfolding row_at
first_reads reader next good more ts h = bind (reader ts) _ (good ts h) (λ x rest p q. only _ (λ xs g. g.0) (some_with (suc (length rest)) x (row next (suc (length rest)) rest) p (row_reads next more (suc (length rest)) rest q)))

most_reads : {X : Type 0} {P : X → Type 0} (n : ℕ) (reader : Reader X) (next : List Token → Next X) → ((ts : List Token) → Proper ts → Reads P (reader ts)) → ((ts : List Token) → Proper ts → Nexts P (next ts)) → (ts : List Token) → Proper ts → Reads (λ xs. Some1 P xs × (1 ≤ length xs) × (length xs ≤ suc n)) (first_and_most n reader next ts)
most_reads n reader next good more ts h = bind (reader ts) _ (good ts h) (λ x rest p q. some_with n x (row next n rest) p (row_reads next more n rest q))

-- expressions
all_small : (es : List Expression) → Each Small es → AllSmall (expressions es)
all_small [] h = tt
all_small (e ∷ es) h = (h.0, all_small es h.1)

multiplied_small : (es : List Expression) → Some1 Small es → Small (product_of_members es)
multiplied_small [] h = absurd h
multiplied_small (e ∷ []) h = h.0
multiplied_small (e ∷ f ∷ es) h = (h.0, (h.1.0, all_small es h.1.1))

summed_small : (es : List Expression) → Some1 Small es → Small (sum_of_members es)
summed_small [] h = absurd h
summed_small (e ∷ []) h = h.0
summed_small (e ∷ f ∷ es) h = (h.0, (h.1.0, all_small es h.1.1))

abbrev Smalls : Reader Expression → Type 0
Smalls reader = (ts : List Token) → Proper ts → Reads Small (reader ts)

next_by_nexts : (s : Sign) (reader : Reader Expression) → Smalls reader → (ts : List Token) → Proper ts → Nexts Small (next_by s reader ts)
next_by_nexts s reader good ts h = optional_next (after_sign s ts) _ (sign_left s ts h) (λ rest p. more_next (reader rest) (good rest p))

term_reads : (reader : Reader Expression) → Smalls reader → Smalls (term_with reader)
term_reads reader good ts h = bind (first_and reader (next_by Times reader) ts) _ (first_reads reader (next_by Times reader) good (next_by_nexts Times reader good) ts h) (λ es rest p q. given (multiplied_small es p) q)

sum_reads : (reader : Reader Expression) → Smalls reader → Smalls (expr_with reader)
sum_reads reader good ts h = bind (first_and reader (next_by Plus reader) ts) _ (first_reads reader (next_by Plus reader) good (next_by_nexts Plus reader good) ts h) (λ es rest p q. given (summed_small es p) q)

open_reads : (reader : Reader Expression) → Smalls reader → Smalls (after_open_with reader)
open_reads reader good ts h = bind (reader ts) _ (good ts h) (λ e rest p q. either_way (after_sign Minus rest) _ _ (sign_left Minus rest q)
    (λ r g. bind (reader r) _ (good r g) (λ f r' g' h'. pass (sign_at CloseParenthesis r') _ (sign_leaves CloseParenthesis r' h') (λ r'' h''. given (p, g') h'')))
    (pass (sign_at CloseParenthesis rest) _ (sign_leaves CloseParenthesis rest q) (λ r g. given p g)))

sign_reads : (b : Bool) (ts : List Token) (inner : Read Expression) → Reads Small inner → Reads Small (at_sign b ts inner)
sign_reads true ts inner h = h
sign_reads false ts inner h = record { it = tt }

factor_by : (l : Lexeme) (rest ts : List Token) (inner : Read Expression) → ProperLexeme l → Proper rest → Reads Small inner → Reads Small (factor_of l rest ts inner)
factor_by (number n) rest ts inner h p g = given h p
factor_by (word w) rest ts inner h p g = given tt p
factor_by (keyword k) rest ts inner h p g = record { it = tt }
factor_by (sign s) rest ts inner h p g = sign_reads (is_sign OpenParenthesis (sign s)) ts inner g

factor_reads : (inner : List Token → List Token → Read Expression) → ((ts rest : List Token) → Proper rest → Reads Small (inner ts rest)) → Smalls (factor_with inner)
factor_reads inner good [] h = record { it = tt }
factor_reads inner good (t ∷ ts) h = factor_by t.lexeme ts (t ∷ ts) (inner (t ∷ ts) ts) h.0 h.1 (good (t ∷ ts) ts h.1)

nested_reads : (d : ℕ) (ts rest : List Token) → Proper rest → Reads Small (nested_at d ts rest)
nested_reads zero ts rest h = record { it = tt }
nested_reads (suc d) ts rest h = open_reads (expr_with (term_with (factor_with (nested_at d)))) (sum_reads (term_with (factor_with (nested_at d))) (term_reads (factor_with (nested_at d)) (factor_reads (nested_at d) (λ us r g. nested_reads d us r g)))) rest h

expr_reads : (d : ℕ) → Smalls (expr_at d)
unfolding factor_at next_factor_at factors_at term_at next_term_at terms_at expr_at
expr_reads d ts h = sum_reads (term_with (factor_with (nested_at d))) (term_reads (factor_with (nested_at d)) (factor_reads (nested_at d) (nested_reads d))) ts h

maybe_reads : (reader : Reader Expression) → Smalls reader → (o : Option (List Token)) (ts : List Token) → Left o → Proper ts → Reads (Maybe Small) (expr_after reader o ts)
maybe_reads reader good o ts h p = either_way o _ _ h (λ rest g. bind (reader rest) _ (good rest g) (λ e r q s. given q s)) (given tt p)

-- names
index_reads : (d : ℕ) (ts : List Token) → Proper ts → Reads (Maybe Small) (index_at d ts)
unfolding index_at
index_reads d ts h = either_way (after_sign OpenBracket ts) _ _ (sign_left OpenBracket ts h) (λ rest g. bind (expr_at d rest) _ (expr_reads d rest g) (λ e r q s. pass (sign_at CloseBracket r) _ (sign_leaves CloseBracket r s) (λ r' s'. given q s'))) (given tt h)

part_reads : (d : ℕ) (ts : List Token) → Proper ts → Reads GoodPart (part_at d ts)
unfolding part_at
part_reads d ts h = bind (word_at ts) _ (word_reads ts h) (λ w r p q. bind (index_at d r) _ (index_reads d r q) (λ i r' p' q'. given (inl (p, p')) q'))

next_part_reads : (d : ℕ) (ts : List Token) → Proper ts → Nexts GoodPart (next_part_at d ts)
unfolding next_part_at
next_part_reads d ts h = optional_next (after_sign Dot ts) _ (sign_left Dot ts h) (λ rest p. more_next (part_at d rest) (part_reads d rest p))

name_reads : (d : ℕ) (ts : List Token) → Proper ts → Reads GoodName (name_at d ts)
unfolding name_at
name_reads d ts h = first_reads (part_at d) (next_part_at d) (part_reads d) (next_part_reads d) ts h

-- the parts of a node
block_reads : (ts : List Token) → Proper ts → Reads SmallBlock (block_at ts)
unfolding block_at upper_at
block_reads ts h = bind (expr_at 32 ts) _ (expr_reads 32 ts h) (λ e r p q. bind (upper_at r) _ (maybe_reads (expr_at 32) (expr_reads 32) (after_sign Minus r) r (sign_left Minus r q) q) (λ f r' p' q'. given (p, p') q'))

comma_nexts : {X : Type 0} {P : X → Type 0} (reader : Reader X) → ((ts : List Token) → Proper ts → Reads P (reader ts)) → (ts : List Token) → Proper ts → Nexts P (after_comma reader ts)
comma_nexts reader good ts h = optional_next (after_sign Comma ts) _ (sign_left Comma ts h) (λ rest p. more_next (reader rest) (good rest p))

blocks_reads : (ts : List Token) → Proper ts → Reads (Some1 SmallBlock) (blocks_at ts)
unfolding blocks_at next_block_at
blocks_reads ts h = first_reads block_at next_block_at block_reads (comma_nexts block_at block_reads) ts h

dest_reads : (ts : List Token) → Proper ts → Reads NamedDest (dest_at ts)
unfolding dest_at addr_at
dest_reads ts h = bind (name_at 32 ts) _ (name_reads 32 ts h) (λ n r p q. bind (addr_at r) _ (maybe_reads (expr_at 32) (expr_reads 32) (after_keyword At r) r (keyword_left At r q) q) (λ a r' p' q'. given (p, p') q'))

and_nexts : {X : Type 0} {P : X → Type 0} (reader : Reader X) → ((ts : List Token) → Proper ts → Reads P (reader ts)) → (ts : List Token) → Proper ts → Nexts P (if_there (after_keyword And ts) (λ rest. one_more (reader rest)) (Ok None))
and_nexts reader good ts h = optional_next (after_keyword And ts) _ (keyword_left And ts h) (λ rest p. more_next (reader rest) (good rest p))

dests_reads : (ts : List Token) → Proper ts → Reads (λ ds. Some1 NamedDest ds × (1 ≤ length ds) × (length ds ≤ 8)) (dests_at ts)
unfolding dests_at next_dest_at
dests_reads ts h = most_reads 7 dest_at next_dest_at dest_reads (and_nexts dest_at dest_reads) ts h

entry_reads : (ts : List Token) → Proper ts → Reads NamedEntry (entry_at ts)
unfolding entry_at
entry_reads ts h = bind (block_at ts) _ (block_reads ts h) (λ b r p q. pass (keyword_at To r) _ (keyword_leaves To r q) (λ r' q'. bind (dests_at r') _ (dests_reads r' q') (λ ds r'' p'' q''. given (p, some_each NamedDest ds p''.0, p''.1, p''.2) q'')))

entries_reads : (ts : List Token) → Proper ts → Reads (Some1 NamedEntry) (entries_at ts)
unfolding entries_at next_entry_at
entries_reads ts h = first_reads entry_at next_entry_at entry_reads (comma_nexts entry_at entry_reads) ts h

bracketed : {X : Type 0} {P : X → Type 0} (reader : Reader X) → ((ts : List Token) → Proper ts → Reads P (reader ts)) → (ts : List Token) → Proper ts → Reads P (in_brackets reader ts)
bracketed reader good ts h = pass (sign_at OpenBracket ts) _ (sign_leaves OpenBracket ts h) (λ r p. bind (reader r) _ (good r p) (λ x r' q q'. pass (sign_at CloseBracket r') _ (sign_leaves CloseBracket r' q') (λ r'' q''. given q q'')))

accept_reads : (ts : List Token) → Proper ts → Reads (Each SmallBlock) (accept_at ts)
unfolding accept_at
accept_reads ts h = either_way (after_keyword Accept ts) _ _ (keyword_left Accept ts h) (λ r p. only _ (some_each SmallBlock) (bracketed blocks_at blocks_reads r p)) (given tt h)

map_reads : (ts : List Token) → Proper ts → Reads (Each NamedEntry) (map_at ts)
unfolding map_at
map_reads ts h = either_way (after_keyword Map ts) _ _ (keyword_left Map ts h) (λ r p. only _ (some_each NamedEntry) (bracketed entries_at entries_reads r p)) (given tt h)

over_reads : (ts : List Token) → Proper ts → Reads (Maybe GoodName) (over_at ts)
unfolding over_at
over_reads ts h = either_way (after_keyword Over ts) _ _ (keyword_left Over ts h) (λ r p. bind (name_at 32 r) _ (name_reads 32 r p) (λ n r' q q'. given q q')) (given tt h)

spec_reads : (ts : List Token) → Proper ts → Reads GoodSpec (spec_at ts)
unfolding spec_at
spec_reads ts h = bind (accept_at ts) _ (accept_reads ts h) (λ a r p q. bind (map_at r) _ (map_reads r q) (λ m r' p' q'. bind (over_at r') _ (over_reads r' q') (λ o r'' p'' q''. given (p, p', p'') q'')))

node_reads : (role : Role) (ts : List Token) → Proper ts → Reads GoodDeclaration (node_at role ts)
unfolding node_at
node_reads role ts h = bind (name_at 32 ts) _ (name_reads 32 ts h) (λ n r p q. pass (keyword_at Is r) _ (keyword_leaves Is r q) (λ r' q'. bind (spec_at r') _ (spec_reads r' q') (λ s r'' p'' q''. given (p, p'') q'')))

-- units, modules, uses and loops
measure_reads : (k : Keyword) → Smalls (measure_at k)
unfolding measure_at
measure_reads k ts h = pass (keyword_at k ts) _ (keyword_leaves k ts h) (λ r p. expr_reads 32 r p)

ports_reads : (ts : List Token) → Proper ts → Reads (λ ps. Some1 GoodName ps × (1 ≤ length ps) × (length ps ≤ 8)) (ports_at ts)
unfolding ports_at next_port_at
ports_reads ts h = most_reads 7 (name_at 32) next_port_at (name_reads 32) (comma_nexts (name_at 32) (name_reads 32)) ts h

unit_reads : (ts : List Token) → Proper ts → Reads GoodDeclaration (unit_declaration_at ts)
unfolding unit_declaration_at
unit_reads ts h = bind (name_at 32 ts) _ (name_reads 32 ts h) (λ n r p q. pass (keyword_at Kind r) _ (keyword_leaves Kind r q) (λ r0 q0. bind (any_word_at r0) _ (any_reads r0 q0) (λ k r1 p1 q1. bind (measure_at Page r1) _ (measure_reads Page r1 q1) (λ e r2 p2 q2. bind (measure_at Slots r2) _ (measure_reads Slots r2 q2) (λ f r3 p3 q3. bind (measure_at Reach r3) _ (measure_reads Reach r3 q3) (λ g r4 p4 q4. pass (keyword_at To r4) _ (keyword_leaves To r4 q4) (λ r5 q5. bind (ports_at r5) _ (ports_reads r5 q5) (λ ps r6 p6 q6. given (p, p1, some_each GoodName ps p6.0, p6.1, p6.2) q6))))))))

param_reads : (ts : List Token) → Proper ts → Reads Any (param_at ts)
unfolding param_at
param_reads ts h = either_way (after_keyword Num ts) _ _ (keyword_left Num ts h) (λ r p. bind (word_at r) _ (word_reads r p) (λ w r' q q'. given tt q')) (pass (keyword_at Node ts) _ (keyword_leaves Node ts h) (λ r p. bind (word_at r) _ (word_reads r p) (λ w r' q q'. given tt q')))

params_reads : (ts : List Token) → Proper ts → Reads Any (params_at ts)
unfolding params_at next_param_at
params_reads ts h = only _ (λ xs p. tt) (first_reads param_at next_param_at param_reads (comma_nexts param_at param_reads) ts h)

closed_params_reads : (ts : List Token) → Proper ts → Reads Any (closed_params_at ts)
unfolding closed_params_at
closed_params_reads ts h = either_way (after_sign CloseParenthesis ts) _ _ (sign_left CloseParenthesis ts h) (λ r p. given tt p) (bind (params_at ts) _ (params_reads ts h) (λ ps r p q. pass (sign_at CloseParenthesis r) _ (sign_leaves CloseParenthesis r q) (λ r' q'. given tt q')))

arg_reads : (ts : List Token) → Proper ts → Reads GoodArg (arg_at ts)
unfolding arg_at
arg_reads ts h = either_way (after_keyword Node ts) _ _ (keyword_left Node ts h) (λ r p. bind (name_at 31 r) _ (name_reads 31 r p) (λ n r' q q'. given q q')) (bind (expr_at 31 ts) _ (expr_reads 31 ts h) (λ e r p q. given p q))

args_reads : (ts : List Token) → Proper ts → Reads (Each GoodArg) (args_at ts)
unfolding args_at next_arg_at
args_reads ts h = only _ (some_each GoodArg) (first_reads arg_at next_arg_at arg_reads (comma_nexts arg_at arg_reads) ts h)

closed_args_reads : (ts : List Token) → Proper ts → Reads (Each GoodArg) (closed_args_at ts)
unfolding closed_args_at
closed_args_reads ts h = either_way (after_sign CloseParenthesis ts) _ _ (sign_left CloseParenthesis ts h) (λ r p. given tt p) (bind (args_at ts) _ (args_reads ts h) (λ xs r p q. pass (sign_at CloseParenthesis r) _ (sign_leaves CloseParenthesis r q) (λ r' q'. given p q')))

module_reads : (ts : List Token) → Proper ts → Reads GoodStatement (module_at ts)
unfolding module_at
module_reads ts h = bind (word_at ts) _ (word_reads ts h) (λ w r p q. pass (sign_at OpenParenthesis r) _ (sign_leaves OpenParenthesis r q) (λ r' q'. bind (closed_params_at r') _ (closed_params_reads r' q') (λ ps r'' p'' q''. given tt q'')))

use_reads : (ts : List Token) → Proper ts → Reads GoodStatement (use_at ts)
unfolding use_at
use_reads ts h = bind (word_at ts) _ (word_reads ts h) (λ w r p q. pass (sign_at OpenParenthesis r) _ (sign_leaves OpenParenthesis r q) (λ r1 q1. bind (closed_args_at r1) _ (closed_args_reads r1 q1) (λ xs r2 p2 q2. pass (keyword_at As r2) _ (keyword_leaves As r2 q2) (λ r3 q3. bind (name_at 32 r3) _ (name_reads 32 r3 q3) (λ n r4 p4 q4. given (p2, p4) q4)))))

loop_reads : (ts : List Token) → Proper ts → Reads GoodStatement (loop_at ts)
unfolding loop_at
loop_reads ts h = bind (word_at ts) _ (word_reads ts h) (λ w r p q. bind (measure_at In r) _ (measure_reads In r q) (λ e r1 p1 q1. pass (sign_at Dots r1) _ (sign_leaves Dots r1 q1) (λ r2 q2. bind (expr_at 32 r2) _ (expr_reads 32 r2 q2) (λ f r3 p3 q3. given (p1, p3) q3))))

-- commands
mode_reads : (ts : List Token) → Proper ts → Reads Any (mode_at ts)
unfolding mode_at
mode_reads ts h = either_way (after_word (codes "read") ts) _ _ (the_word_left (codes "read") ts h) (λ r q. given tt q) (pass (the_word_at (codes "write") ts) _ (the_word_leaves (codes "write") ts h) (λ r q. given tt q))

access_reads : (ts : List Token) → Proper ts → Reads Any (access_at ts)
unfolding access_at
access_reads ts h = either_way (after_keyword For ts) _ _ (keyword_left For ts h) mode_reads (given tt h)

resolve_reads : (ts : List Token) → Proper ts → Reads Any (resolve_at ts)
unfolding resolve_at
resolve_reads ts h = bind (name_at 32 ts) _ (name_reads 32 ts h) (λ n r p q. bind (expr_at 32 r) _ (expr_reads 32 r q) (λ e r1 p1 q1. bind (access_at r1) _ (access_reads r1 q1) (λ m r2 p2 q2. given tt q2)))

lookup_reads : (ts : List Token) → Proper ts → Reads Any (lookup_at ts)
unfolding lookup_at
lookup_reads ts h = bind (name_at 32 ts) _ (name_reads 32 ts h) (λ n r p q. bind (expr_at 32 r) _ (expr_reads 32 r q) (λ e r1 p1 q1. bind (access_at r1) _ (access_reads r1 q1) (λ m r2 p2 q2. given tt q2)))

view_reads : (ts : List Token) → Proper ts → Reads Any (view_at ts)
unfolding view_at
view_reads ts h = bind (name_at 32 ts) _ (name_reads 32 ts h) (λ n r p q. bind (access_at r) _ (access_reads r q) (λ m r1 p1 q1. given tt q1))

grant_reads : (ts : List Token) → Proper ts → Reads Any (grant_at ts)
unfolding grant_at
grant_reads ts h = bind (word_at ts) _ (word_reads ts h) (λ w r p q. bind (name_at 32 r) _ (name_reads 32 r q) (λ a r1 p1 q1. bind (name_at 32 r1) _ (name_reads 32 r1 q1) (λ n r2 p2 q2. bind (expr_at 32 r2) _ (expr_reads 32 r2 q2) (λ e r3 p3 q3. bind (expr_at 32 r3) _ (expr_reads 32 r3 q3) (λ f r4 p4 q4. bind (access_at r4) _ (access_reads r4 q4) (λ m r5 p5 q5. given tt q5))))))

route_reads : (ts : List Token) → Proper ts → Reads Any (route_at ts)
unfolding route_at
route_reads ts h = bind (word_at ts) _ (word_reads ts h) (λ w r p q. bind (name_at 32 r) _ (name_reads 32 r q) (λ a r1 p1 q1. bind (expr_at 32 r1) _ (expr_reads 32 r1 q1) (λ e r2 p2 q2. bind (name_at 32 r2) _ (name_reads 32 r2 q2) (λ n r3 p3 q3. given tt q3))))

radix_reads : (ts : List Token) → Proper ts → Reads Any (radix_at ts)
unfolding radix_at
radix_reads ts h = bind (name_at 32 ts) _ (name_reads 32 ts h) (λ n r p q. bind (expr_at 32 r) _ (expr_reads 32 r q) (λ e r1 p1 q1. given tt q1))

piece_reads : (ts : List Token) → Proper ts → Reads Any (piece_at ts)
unfolding piece_at
piece_reads ts h = bind (word_at ts) _ (word_reads ts h) (λ w r p q. bind (name_at 32 r) _ (name_reads 32 r q) (λ n r1 p1 q1. bind (expr_at 32 r1) _ (expr_reads 32 r1 q1) (λ e r2 p2 q2. bind (expr_at 32 r2) _ (expr_reads 32 r2 q2) (λ f r3 p3 q3. given tt q3))))

pieces_reads : (ts : List Token) → Proper ts → Reads Any (pieces_at ts)
unfolding pieces_at next_piece_at
pieces_reads ts h = only _ (λ ps p. tt) (most_reads 7 piece_at next_piece_at piece_reads (and_nexts piece_at piece_reads) ts h)

gather_reads : (ts : List Token) → Proper ts → Reads Any (gather_at ts)
unfolding gather_at
gather_reads ts h = bind (name_at 32 ts) _ (name_reads 32 ts h) (λ n r p q. bind (pieces_at r) _ (pieces_reads r q) (λ ps r1 p1 q1. bind (access_at r1) _ (access_reads r1 q1) (λ m r2 p2 q2. given tt q2)))

word_order_reads : (w : List ℕ) (ts : List Token) → Proper ts → Reads Any (word_order_at w ts)
unfolding word_order_at
word_order_reads w ts h = by (bytes_eq w (codes "radix"))
  where
    by : (b : Bool) → Reads Any (cond b (radix_at ts) (gather_at ts))
    by true = radix_reads ts h
    by false = gather_reads ts h

order_reads : (k : Keyword) (ts rest : List Token) → Proper rest → Reads Any (order_at k ts rest)
unfolding order_at
order_reads Resolve ts rest h = resolve_reads rest h
order_reads Lookup ts rest h = lookup_reads rest h
order_reads View ts rest h = view_reads rest h
order_reads Grant ts rest h = grant_reads rest h
order_reads Route ts rest h = route_reads rest h
order_reads Revoke ts rest h = bind (word_at rest) _ (word_reads rest h) (λ x r p q. given tt q)
order_reads Dump ts rest h = given tt h
order_reads Split ts rest h = given tt h
order_reads Absorb ts rest h = bind (name_at 32 rest) _ (name_reads 32 rest h) (λ x r p q. given tt q)
order_reads _ ts rest h = record { it = tt }

declared_reads : (r : Read Declaration) → Reads GoodDeclaration r → Reads GoodStatement (as_declared r)
declared_reads r h = bind r _ h (λ d rest p q. given p q)

ordered_reads : (r : Read Order) → Reads Any r → Reads GoodStatement (as_ordered r)
ordered_reads r h = bind r _ h (λ o rest p q. given tt q)

-- a statement
keyword_reads : (k : Keyword) (ts rest : List Token) → Proper rest → Reads GoodStatement (keyword_statement_at k ts rest)
unfolding keyword_statement_at
keyword_reads Agent ts rest h = declared_reads (node_at agent_role rest) (node_reads agent_role rest h)
keyword_reads Vectors ts rest h = declared_reads (node_at vectors_role rest) (node_reads vectors_role rest h)
keyword_reads UnitWord ts rest h = declared_reads (unit_declaration_at rest) (unit_reads rest h)
keyword_reads Module ts rest h = module_reads rest h
keyword_reads Use ts rest h = use_reads rest h
keyword_reads For ts rest h = loop_reads rest h
keyword_reads End ts rest h = given tt h
keyword_reads Begin ts rest h = given tt h
keyword_reads k ts rest h = ordered_reads (order_at k ts rest) (order_reads k ts rest h)

word_reads_by : (w : List ℕ) (b : Bool) (ts rest : List Token) → Proper ts → Proper rest → Reads GoodStatement (cond b (as_ordered (word_order_at w rest)) (as_declared (node_at plain_role ts)))
word_reads_by w true ts rest h p = ordered_reads (word_order_at w rest) (word_order_reads w rest p)
word_reads_by w false ts rest h p = declared_reads (node_at plain_role ts) (node_reads plain_role ts h)

statement_by_reads : (l : Lexeme) (ts rest : List Token) → Proper ts → Proper rest → Reads GoodStatement (statement_by l ts rest)
unfolding word_statement_at
statement_by_reads (word w) ts rest h p = word_reads_by w (begins_order w rest) ts rest h p
statement_by_reads (keyword k) ts rest h p = keyword_reads k ts rest p
statement_by_reads (number n) ts rest h p = record { it = tt }
statement_by_reads (sign s) ts rest h p = record { it = tt }

statement_reads : (ts : List Token) → Proper ts → Reads GoodStatement (statement_at ts)
unfolding statement_at
statement_reads [] h = record { it = tt }
statement_reads (t ∷ ts) h = statement_by_reads t.lexeme (t ∷ ts) ts h h.1

pub whole_statement_reads : (ts : List Token) → Proper ts → Reads GoodStatement (whole_statement_at ts)
unfolding whole_statement_at
whole_statement_reads ts h = bind (statement_at ts) _ (statement_reads ts h) (λ s r p q. pass (sign_at Semicolon r) _ (sign_leaves Semicolon r q) (λ r' q'. given p q'))
