-- What is read of each part is what the machine does with its form.
use Rattle.std.proofs.Common.{◌≡◌, ◌∙◌, eq-eqb, eqb-true, ap, sym, refl, subst, ℕ, zero, suc, ◌+◌, ◌-◌, ◌==◌, Bool, true, false, List, [], ◌∷◌, ◌++◌, length, Option, Some, None, Result, Ok, Err, arith}
use Rattle.dn_token.specs.declared.token.Keyword.{Keyword}
use Rattle.dn_token.specs.declared.token.Sign.{Sign}
use Rattle.dn_token.specs.declared.token.Keyword.TheVariants.{Accept, Map, To, And, At, Over}
use Rattle.dn_token.specs.declared.token.Sign.TheVariants.{Semicolon, Comma, OpenBracket, CloseBracket, OpenParenthesis, CloseParenthesis, Minus, Plus, Times, Dot, Dots}
use Rattle.dn_token.specs.Token.{Lexeme, Token, word, keyword, number, sign}
use Rattle.dn_parse.specs.Tree.{Expression, minus, Block, Dest, Entry}
use Rattle.dn_parse.specs.Actions.{sum_of_members, product_of_members, Value, Action, perform, text, expression, members, perhaps, part, name, perhaps_name, block, blocks, dest, dests, entry, entries, spec, make_variable, first_item, next_item, make_sum, make_product, make_difference, no_expression, some_expression, make_part, no_name, some_name, make_block, no_blocks, make_dest, make_entry, no_entries, make_spec, keep}
use Rattle.dn_parse.specs.Forms.{Form, does, either, many, the_keyword, the_sign, is_keyword, is_sign}
use Rattle.dn_parse.specs.Forms.{and_then as both}
use Rattle.dn_parse.specs.Syntax.{mark, factor, more_factors, term, more_terms, expr, minus_expr, after_open, index, part_form, more_parts, name_form, upper_bound, block_form, at_addr, dest_form, more_dests, entry_form, more_blocks, accept, more_entries, map_form, over, spec_form}
use Rattle.dn_parse.specs.Machine.{Stop, inside, run, go, go_in, feed, is_deep, parentheses}
use Rattle.dn_parse.specs.Descent.{and_then, if_there, after, one_more, first_and, in_brackets, less_with, word_at, keyword_at, Read, Next, Reader, sign_at, row_at, row, with_front, after_sign, after_keyword, factor_of, nested_at, factor_at, next_factor_at, factors_at, term_at, next_term_at, terms_at, expr_at, after_open_at, index_at, part_at, next_part_at, name_at, upper_at, block_at, next_block_at, blocks_at, addr_at, dest_at, next_dest_at, dests_at, entry_at, next_entry_at, entries_at, accept_at, map_at, over_at, spec_at}
use Rattle.dn_parse.proofs.Does.{Does, Row, does_by, seq, pass, last, act, keyword_counts, sign_counts, keyword_after, sign_after, word_does, if_keyword, if_sign, seq_on, pass_last, does_same, assoc, row_does, most_row_does}
use Rattle.dn_parse.proofs.Nested.{one_less}
use Rattle.dn_parse.proofs.Turns.{run_does}

-- so many are open, and so many may still be opened
abbrev pub Left : ℕ → ℕ → Type 0
Left n d = n + d ≡ 32

abbrev pub IsRead : ℕ → Form → Reader Expression → Type 0
IsRead n f reader = (ts : List Token) → Does f n n ts [] expression (reader ts)

-- equations of readers
pub bind_same : {A B : Type 0} (r : Result A Stop) (f g : A → Result B Stop) → ((a : A) → f a ≡ g a) → and_then r f ≡ and_then r g
bind_same (Ok a) f g e = e a
bind_same (Err z) f g e = refl

-- one part more
pub step_does : {X : Type 0} (f : Form) (n : ℕ) (valX : X → Value) (acc : List X → Value) (reader : Reader X) → ((ts : List Token) → Does f n n ts [] valX (reader ts)) → ((es : List X) (x : X) (vs : List Value) → perform next_item (valX x ∷ acc es ∷ vs) ≡ acc (es ++ x ∷ []) ∷ vs) → (es : List X) (rest : List Token) → Does (both f (does next_item)) n n rest (acc es ∷ []) (λ x. acc (es ++ x ∷ [])) (reader rest)
step_does f n valX acc reader h e es rest = does_same _ _ (bind_ok (reader rest)) (seq (reader rest) (λ p. Ok (p.0, p.1)) (h rest) (λ x r. last x next_item (e es x)))
  where
    bind_ok : {A : Type 0} (r : Result A Stop) → and_then r (λ p. Ok p) ≡ r
    bind_ok (Ok a) = refl
    bind_ok (Err z) = refl

-- a row of parts, one behind another by a sign
pub sign_row : {X : Type 0} (s : Sign) (f : Form) (n : ℕ) (valX : X → Value) (acc : List X → Value) (reader : Reader X) (next : List Token → Next X) → parentheses n (sign s) ≡ n → is_deep n (sign s) ≡ false → ((ts : List Token) → next ts ≡ if_there (after (is_sign s) ts) (λ rest. one_more (reader rest)) (Ok None)) → ((ts : List Token) → Does f n n ts [] valX (reader ts)) → ((es : List X) (x : X) (vs : List Value) → perform next_item (valX x ∷ acc es ∷ vs) ≡ acc (es ++ x ∷ []) ∷ vs) → Row (the_sign s) (both f (does next_item)) n acc reader next
sign_row s f n valX acc reader next p d nexts h e = record {
  counts = sign_counts s n n p d;
  keeps = λ l vs. refl;
  nexts = nexts;
  steps = step_does f n valX acc reader h e;
}

-- the same by a reserved word, with no parenthesis open
pub keyword_row : {X : Type 0} (j : Keyword) (f : Form) (valX : X → Value) (acc : List X → Value) (reader : Reader X) (next : List Token → Next X) → ((ts : List Token) → next ts ≡ if_there (after (is_keyword j) ts) (λ rest. one_more (reader rest)) (Ok None)) → ((ts : List Token) → Does f 0 0 ts [] valX (reader ts)) → ((es : List X) (x : X) (vs : List Value) → perform next_item (valX x ∷ acc es ∷ vs) ≡ acc (es ++ x ∷ []) ∷ vs) → Row (the_keyword j) (both f (does next_item)) 0 acc reader next
keyword_row j f valX acc reader next nexts h e = record {
  counts = keyword_counts j 0;
  keeps = λ l vs. refl;
  nexts = nexts;
  steps = step_does f 0 valX acc reader h e;
}

-- the first part, and then the row
pub row_read : {X : Type 0} (s : Sign) (f : Form) (n : ℕ) (valX : X → Value) (acc : List X → Value) (reader : Reader X) (next : List Token → Next X) → parentheses n (sign s) ≡ n → is_deep n (sign s) ≡ false → ((ts : List Token) → next ts ≡ if_there (after (is_sign s) ts) (λ rest. one_more (reader rest)) (Ok None)) → ((ts : List Token) → Does f n n ts [] valX (reader ts)) → ((x : X) (vs : List Value) → perform first_item (valX x ∷ vs) ≡ acc (x ∷ []) ∷ vs) → ((es : List X) (x : X) (vs : List Value) → perform next_item (valX x ∷ acc es ∷ vs) ≡ acc (es ++ x ∷ []) ∷ vs) → (ts : List Token) → Does (both f (both (does first_item) (many (both (mark s) (both f (does next_item)))))) n n ts [] acc (first_and reader next ts)
row_read s f n valX acc reader next p d nexts h begun added ts = seq (reader ts) _ (h ts) (λ x rest. act (acc (x ∷ []) ∷ []) first_item _ (λ vs. begun x vs) (row_does (the_sign s) _ n acc reader next (sign_row s f n valX acc reader next p d nexts h added) rest (x ∷ [])))

-- factors and terms, from what is read of a member
members_read : (s : Sign) (f : Form) (n : ℕ) (reader : Reader Expression) (next : List Token → Next Expression) (a : Action) (joined : List Expression → Expression) → parentheses n (sign s) ≡ n → is_deep n (sign s) ≡ false → ((ts : List Token) → next ts ≡ if_there (after (is_sign s) ts) (λ rest. one_more (reader rest)) (Ok None)) → ((es : List Expression) (vs : List Value) → perform a (members es ∷ vs) ≡ expression (joined es) ∷ vs) → IsRead n f reader → IsRead n (both f (both (does first_item) (both (many (both (mark s) (both f (does next_item)))) (does a)))) (λ ts. and_then (first_and reader next ts) (λ ms. Ok (joined ms.0, ms.1)))
members_read s f n reader next a joined p d nexts made h ts = does_same _ _ (assoc (reader ts) _ _) (seq (reader ts) _ (h ts) (λ e rest. act (members (e ∷ []) ∷ []) first_item _ (λ vs. refl) (seq_on (with_front (e ∷ []) (row_at next rest)) _ (row_does (the_sign s) _ n members reader next (sign_row s f n expression members reader next p d nexts h (λ es x vs. refl)) rest (e ∷ [])) (λ es more. last _ a (λ vs. made es vs)))))

term_read : (n d : ℕ) → IsRead n factor (factor_at d) → IsRead n term (term_at d)
unfolding term term_at factors_at more_factors next_factor_at after_sign
term_read n d h = members_read Times factor n (factor_at d) (next_factor_at d) make_product product_of_members refl refl (λ ts. refl) (λ es vs. refl) h

expr_by : (n d : ℕ) → IsRead n term (term_at d) → IsRead n expr (expr_at d)
unfolding expr expr_at terms_at more_terms next_term_at after_sign
expr_by n d h = members_read Plus term n (term_at d) (next_term_at d) make_sum sum_of_members refl refl (λ ts. refl) (λ es vs. refl) h

-- what follows a parenthesis
abbrev pub closing : Expression × List Token → Read Expression
closing p = and_then (sign_at CloseParenthesis p.1) (λ rest. Ok (p.0, rest))

abbrev pub maybe_less : ℕ → Expression → Option (List Token) → List Token → Read Expression
maybe_less d first o ts = if_there o (λ rest. and_then (expr_at d rest) (λ second. Ok (minus first second.0, second.1))) (Ok (first, ts))

closing_same : (d : ℕ) (first : Expression × List Token) (o : Option (List Token)) → and_then (maybe_less d first.0 o first.1) closing ≡ if_there o (less_with (expr_at d) first.0) (closing first)
closing_same d first None = refl
closing_same d first (Some rest) = sym (assoc (expr_at d rest) (λ second. Ok (minus first.0 second.0, second.1)) closing)

after_open_same : (d : ℕ) (ts : List Token) → and_then (expr_at d ts) (λ first. and_then (maybe_less d first.0 (after_sign Minus first.1) first.1) closing) ≡ after_open_at d ts
unfolding after_open_at
after_open_same d ts = bind_same (expr_at d ts) _ _ (λ first. closing_same d first (after_sign Minus first.1))

less_read : (n d : ℕ) → IsRead n expr (expr_at d) → (first : Expression) (ts : List Token) → Does (either minus_expr (does keep)) n n ts (expression first ∷ []) expression (maybe_less d first (after_sign Minus ts) ts)
unfolding minus_expr
less_read n d h first ts = if_sign _ _ Minus ts refl refl (λ rest. seq (expr_at d rest) _ (h rest) (λ second r. last _ make_difference (λ vs. refl))) (last _ keep (λ vs. refl))

after_open_read : (n d : ℕ) → IsRead (n + 1) expr (expr_at d) → (ts : List Token) → Does after_open (n + 1) n ts [] expression (after_open_at d ts)
unfolding after_open
after_open_read n d h ts =
    let one : n + 1 - 1 ≡ n = omega arith in
    does_same _ _ (after_open_same d ts) (seq (expr_at d ts) _ (h ts) (λ first rest. seq_on (maybe_less d first (after_sign Minus rest) rest) _ (less_read (n + 1) d h first rest) (λ e r. pass_last expression e (sign_at CloseParenthesis r) (sign_after CloseParenthesis (n + 1) n r one refl))))

-- a factor
abbrev Factor : ℕ → ℕ → Lexeme → Token → List Token → Type 0
Factor n d l t ts = Does factor n n (t ∷ ts) [] expression (factor_of l ts (t ∷ ts) (nested_at d (t ∷ ts) ts))

factor_number : (n d x : ℕ) (t : Token) (ts : List Token) → t.lexeme ≡ number x → Factor n d (number x) t ts
unfolding factor
factor_number n d x t ts e = record { it = record { runs = λ line k vs. ap (λ l. go (feed (factor ∷ k) vs l) line n l (suc (length ts)) (λ p. run p ts)) e; no_longer = omega arith } }

factor_word : (n d : ℕ) (w : List ℕ) (t : Token) (ts : List Token) → t.lexeme ≡ word w → Factor n d (word w) t ts
unfolding factor
factor_word n d w t ts e = record { it = record { runs = λ line k vs. ap (λ l. go (feed (factor ∷ k) vs l) line n l (suc (length ts)) (λ p. run p ts)) e ∙ run_does line n make_variable k (text w ∷ vs) ts; no_longer = omega arith } }

factor_keyword : (n d : ℕ) (j : Keyword) (t : Token) (ts : List Token) → t.lexeme ≡ keyword j → Factor n d (keyword j) t ts
unfolding factor
factor_keyword n d j t ts e = record { it = λ line k vs. ap (λ l. go (feed (factor ∷ k) vs l) line n l (suc (length ts)) (λ p. run p ts)) e }

not_all : (n d : ℕ) → Left n (suc d) → (n == 32) ≡ false
not_all n d e = go (n == 32) refl
  where
    go : (b : Bool) → (n == 32) ≡ b → b ≡ false
    go true f = let same = eqb-true n 32 f in absurd (omega arith)
    go false f = refl

factor_open : (n d : ℕ) → Left n d → ((d' : ℕ) → d ≡ suc d' → IsRead (n + 1) expr (expr_at d')) → (t : Token) (ts : List Token) → t.lexeme ≡ sign OpenParenthesis → Factor n d (sign OpenParenthesis) t ts
unfolding factor
factor_open n zero left h t ts e =
    let all : n ≡ 32 = omega arith in
    record { it = λ line k vs. ap (λ l. go (feed (factor ∷ k) vs l) line n l (suc (length ts)) (λ p. run p ts)) e ∙ ap (λ b. go_in b (inside line (n + 1) (after_open ∷ k) vs) (suc (length ts)) (λ p. run p ts)) (eq-eqb n 32 all) }
factor_open n (suc d) left h t ts e =
    does_same _ _ (sym (one_less d (t ∷ ts) ts)) (does_by factor after_open n (n + 1) n (t ∷ ts) ts [] [] expression (after_open_at d ts) (λ line k vs. ap (λ l. go (feed (factor ∷ k) vs l) line n l (suc (length ts)) (λ p. run p ts)) e ∙ ap (λ b. go_in b (inside line (n + 1) (after_open ∷ k) vs) (suc (length ts)) (λ p. run p ts)) (not_all n d left)) (omega arith) (after_open_read n d (h d refl) ts))

factor_token : (n d : ℕ) → Left n d → ((d' : ℕ) → d ≡ suc d' → IsRead (n + 1) expr (expr_at d')) → (l : Lexeme) (t : Token) (ts : List Token) → t.lexeme ≡ l → Factor n d l t ts
unfolding factor
factor_token n d left h (number x) t ts e = factor_number n d x t ts e
factor_token n d left h (word w) t ts e = factor_word n d w t ts e
factor_token n d left h (keyword j) t ts e = factor_keyword n d j t ts e
factor_token n d left h (sign OpenParenthesis) t ts e = factor_open n d left h t ts e
factor_token n d left h (sign Semicolon) t ts e = record { it = λ line k vs. ap (λ l. go (feed (factor ∷ k) vs l) line n l (suc (length ts)) (λ p. run p ts)) e }
factor_token n d left h (sign Comma) t ts e = record { it = λ line k vs. ap (λ l. go (feed (factor ∷ k) vs l) line n l (suc (length ts)) (λ p. run p ts)) e }
factor_token n d left h (sign OpenBracket) t ts e = record { it = λ line k vs. ap (λ l. go (feed (factor ∷ k) vs l) line n l (suc (length ts)) (λ p. run p ts)) e }
factor_token n d left h (sign CloseBracket) t ts e = record { it = λ line k vs. ap (λ l. go (feed (factor ∷ k) vs l) line n l (suc (length ts)) (λ p. run p ts)) e }
factor_token n d left h (sign CloseParenthesis) t ts e = record { it = λ line k vs. ap (λ l. go (feed (factor ∷ k) vs l) line n l (suc (length ts)) (λ p. run p ts)) e }
factor_token n d left h (sign Minus) t ts e = record { it = λ line k vs. ap (λ l. go (feed (factor ∷ k) vs l) line n l (suc (length ts)) (λ p. run p ts)) e }
factor_token n d left h (sign Plus) t ts e = record { it = λ line k vs. ap (λ l. go (feed (factor ∷ k) vs l) line n l (suc (length ts)) (λ p. run p ts)) e }
factor_token n d left h (sign Times) t ts e = record { it = λ line k vs. ap (λ l. go (feed (factor ∷ k) vs l) line n l (suc (length ts)) (λ p. run p ts)) e }
factor_token n d left h (sign Dot) t ts e = record { it = λ line k vs. ap (λ l. go (feed (factor ∷ k) vs l) line n l (suc (length ts)) (λ p. run p ts)) e }
factor_token n d left h (sign Dots) t ts e = record { it = λ line k vs. ap (λ l. go (feed (factor ∷ k) vs l) line n l (suc (length ts)) (λ p. run p ts)) e }

factor_by : (n d : ℕ) → Left n d → ((d' : ℕ) → d ≡ suc d' → IsRead (n + 1) expr (expr_at d')) → IsRead n factor (factor_at d)
unfolding factor_at
factor_by n d left h [] = record { it = λ line k vs. refl }
factor_by n d left h (t ∷ ts) = factor_token n d left h t.lexeme t ts refl

pub expr_read : (d n : ℕ) → Left n d → IsRead n expr (expr_at d)
expr_read zero n left = expr_by n zero (term_read n zero (factor_by n zero left (λ d' e. cc)))
expr_read (suc d) n left = expr_by n (suc d) (term_read n (suc d) (factor_by n (suc d) left (λ d' e. let same : d ≡ d' = cc in subst (λ j. IsRead (n + 1) expr (expr_at j)) same (expr_read d (n + 1) (let l : n + suc d ≡ 32 = left in omega arith)))))

pub expr_does : (ts : List Token) → Does expr 0 0 ts [] expression (expr_at 32 ts)
expr_does ts = expr_read 32 0 refl ts

-- names
index_does : (n d : ℕ) → Left n d → (ts : List Token) → Does index n n ts [] perhaps (index_at d ts)
unfolding index index_at
index_does n d left ts = if_sign _ _ OpenBracket ts refl refl (λ rest. seq (expr_at d rest) _ (expr_read d n left rest) (λ e r. act (perhaps (Some e) ∷ []) some_expression _ (λ vs. refl) (pass_last perhaps (Some e) (sign_at CloseBracket r) (sign_after CloseBracket n n r refl refl)))) (last _ no_expression (λ vs. refl))

part_does : (n d : ℕ) → Left n d → (ts : List Token) → Does part_form n n ts [] part (part_at d ts)
unfolding part_form part_at
part_does n d left ts = seq (word_at ts) _ (word_does n ts) (λ w rest. seq (index_at d rest) _ (index_does n d left rest) (λ i r. last _ make_part (λ vs. refl)))

pub name_read : (n d : ℕ) → Left n d → (ts : List Token) → Does name_form n n ts [] name (name_at d ts)
unfolding name_form name_at more_parts next_part_at after_sign
name_read n d left ts = row_read Dot part_form n part name (part_at d) (next_part_at d) refl refl (λ ts. refl) (part_does n d left) (λ x vs. refl) (λ es x vs. refl) ts

pub name_does : (ts : List Token) → Does name_form 0 0 ts [] name (name_at 32 ts)
name_does ts = name_read 0 32 refl ts

-- blocks
upper_does : (ts : List Token) → Does upper_bound 0 0 ts [] perhaps (upper_at ts)
unfolding upper_bound upper_at
upper_does ts = if_sign _ _ Minus ts refl refl (λ r. seq (expr_at 32 r) _ (expr_does r) (λ hi r'. last _ some_expression (λ vs. refl))) (last _ no_expression (λ vs. refl))

block_does : (ts : List Token) → Does block_form 0 0 ts [] block (block_at ts)
unfolding block_form block_at
block_does ts = seq (expr_at 32 ts) _ (expr_does ts) (λ lo rest. seq (upper_at rest) _ (upper_does rest) (λ hi r. last _ make_block (λ vs. refl)))

block_row : Row (the_sign Comma) (both block_form (does next_item)) 0 blocks block_at next_block_at
unfolding next_block_at after_sign
block_row = sign_row Comma block_form 0 block blocks block_at next_block_at refl refl (λ ts. refl) block_does (λ es x vs. refl)

-- destinations and entries
addr_does : (ts : List Token) → Does at_addr 0 0 ts [] perhaps (addr_at ts)
unfolding at_addr addr_at
addr_does ts = if_keyword _ _ At ts (λ r. seq (expr_at 32 r) _ (expr_does r) (λ a r'. last _ some_expression (λ vs. refl))) (last _ no_expression (λ vs. refl))

dest_does : (ts : List Token) → Does dest_form 0 0 ts [] dest (dest_at ts)
unfolding dest_form dest_at
dest_does ts = seq (name_at 32 ts) _ (name_does ts) (λ n rest. seq (addr_at rest) _ (addr_does rest) (λ a r. last _ make_dest (λ vs. refl)))

dest_row : Row (the_keyword And) (both dest_form (does next_item)) 0 dests dest_at next_dest_at
unfolding next_dest_at after_keyword
dest_row = keyword_row And dest_form dest dests dest_at next_dest_at (λ ts. refl) dest_does (λ es x vs. refl)

abbrev entry_with : Block → List Dest × List Token → Read Entry
entry_with b ds = let e : Entry = record { block = b; dests = ds.0 } in Ok (e, ds.1)

entry_same : (b : Block) (ts : List Token) → and_then (dest_at ts) (λ first. and_then (with_front (first.0 ∷ []) (row next_dest_at 7 first.1)) (entry_with b)) ≡ and_then (dests_at ts) (entry_with b)
unfolding dests_at
entry_same b ts = assoc (dest_at ts) _ _

dests_does : (b : Block) (ts : List Token) → Does (both dest_form (both (does first_item) (both (more_dests 7) (does make_entry)))) 0 0 ts (block b ∷ []) entry (and_then (dests_at ts) (entry_with b))
unfolding more_dests
dests_does b ts = does_same _ _ (entry_same b ts) (seq (dest_at ts) _ (dest_does ts) (λ d rest. act (dests (d ∷ []) ∷ block b ∷ []) first_item _ (λ vs. refl) (seq_on (with_front (d ∷ []) (row next_dest_at 7 rest)) _ (most_row_does (the_keyword And) _ 0 dests dest_at next_dest_at dest_row 7 rest (d ∷ [])) (λ ds r. last _ make_entry (λ vs. refl)))))

entry_does : (ts : List Token) → Does entry_form 0 0 ts [] entry (entry_at ts)
unfolding entry_form entry_at
entry_does ts = seq (block_at ts) _ (block_does ts) (λ b rest. pass (keyword_at To rest) _ (keyword_after To 0 rest) (λ r. dests_does b r))

entry_row : Row (the_sign Comma) (both entry_form (does next_item)) 0 entries entry_at next_entry_at
unfolding next_entry_at after_sign
entry_row = sign_row Comma entry_form 0 entry entries entry_at next_entry_at refl refl (λ ts. refl) entry_does (λ es x vs. refl)

-- lists in brackets
list_does : {X : Type 0} (f : Form) (valX : X → Value) (acc : List X → Value) (reader : Reader X) (next : List Token → Next X) → Row (the_sign Comma) (both f (does next_item)) 0 acc reader next → ((ts : List Token) → Does f 0 0 ts [] valX (reader ts)) → ((x : X) (vs : List Value) → perform first_item (valX x ∷ vs) ≡ acc (x ∷ []) ∷ vs) → (ts : List Token) → Does (both (mark OpenBracket) (both f (both (does first_item) (both (many (both (mark Comma) (both f (does next_item)))) (mark CloseBracket))))) 0 0 ts [] acc (in_brackets (first_and reader next) ts)
list_does f valX acc reader next row h e ts = pass (sign_at OpenBracket ts) _ (sign_after OpenBracket 0 0 ts refl refl) (λ inner. does_same _ _ (assoc (reader inner) _ _) (seq (reader inner) _ (h inner) (λ x r. act (acc (x ∷ []) ∷ []) first_item _ (λ vs. e x vs) (seq_on (with_front (x ∷ []) (row_at next r)) _ (row_does (the_sign Comma) _ 0 acc reader next row r (x ∷ [])) (λ xs r'. pass_last acc xs (sign_at CloseBracket r') (sign_after CloseBracket 0 0 r' refl refl))))))

accept_does : (ts : List Token) → Does accept 0 0 ts [] blocks (accept_at ts)
unfolding accept accept_at more_blocks blocks_at
accept_does ts = if_keyword _ _ Accept ts (list_does block_form block blocks block_at next_block_at block_row block_does (λ b vs. refl)) (last _ no_blocks (λ vs. refl))

map_does : (ts : List Token) → Does map_form 0 0 ts [] entries (map_at ts)
unfolding map_form map_at more_entries entries_at
map_does ts = if_keyword _ _ Map ts (list_does entry_form entry entries entry_at next_entry_at entry_row entry_does (λ e vs. refl)) (last _ no_entries (λ vs. refl))

over_does : (ts : List Token) → Does over 0 0 ts [] perhaps_name (over_at ts)
unfolding over over_at
over_does ts = if_keyword _ _ Over ts (λ rest. seq (name_at 32 rest) _ (name_does rest) (λ n r. last _ some_name (λ vs. refl))) (last _ no_name (λ vs. refl))

pub spec_does : (ts : List Token) → Does spec_form 0 0 ts [] spec (spec_at ts)
unfolding spec_form spec_at
spec_does ts = seq (accept_at ts) _ (accept_does ts) (λ bs r. seq (map_at r) _ (map_does r) (λ es r'. seq (over_at r') _ (over_does r') (λ o r''. last _ make_spec (λ vs. refl))))
