-- The parentheses that are open behind the front of a spelling: the machine counts as many as the laws do.
use Rattle.std.proofs.Common.{◌≡◌, ◌∙◌, inl, inr, ap, sym, refl, subst, ℕ, zero, suc, ◌+◌, ◌-◌, ◌==◌, eqb-true, Bool, true, false, cond, not, ◌&&◌, if◌then◌else◌, List, [], ◌∷◌, ◌++◌, append_assoc, arith}
use Rattle.std.proofs.lemmas.List.Sums.{sum_by-cons}
use Rattle.dn_base.proofs.Booleans.{not-true}
use Rattle.dn_token.specs.declared.token.Sign.{Sign}
use Rattle.dn_token.specs.declared.token.Sign.TheVariants.{Semicolon, OpenParenthesis, CloseParenthesis}
use Rattle.dn_token.specs.Token.{Lexeme, Token, word, keyword, number, sign}
use Rattle.dn_parse.specs.Tree.{Placed}
use Rattle.dn_parse.specs.Actions.{Value}
use Rattle.dn_token.specs.Words.{same_sign}
use Rattle.dn_parse.specs.Forms.{Form, takes, does, and_then, either, many, parenthesised, Sort, a_word, a_node_word, any_word, a_number, the_word, the_keyword, the_sign, is, is_sign, Times, Spells}
use Rattle.dn_parse.specs.Syntax.{in_parentheses, Parenthesised, SpellsText, Viable, statement_form, after_open, expr, term, factor, minus_expr, more_terms, more_factors, index, part_form, more_parts, name_form, upper_bound, block_form, at_addr, dest_form, more_dests, entry_form, more_blocks, accept, more_entries, map_form, over, spec_form, plain_form, agent_form, vectors_form, more_names, unit_form, param_form, more_params, params_form, module_form, arg_form, more_args, args_form, use_form, loop_form, access_form, maybe_access, command_form, radix_form, piece_form, more_pieces, gather_form}
use Rattle.dn_parse.specs.Machine.{parentheses}
use Rattle.dn_parse.specs.Laws.{opening_count, closing_count, open_parentheses}
use Rattle.dn_parse.proofs.Taken.{Inner}
use Rattle.dn_parse.proofs.Sets.{both_left, both_right, sign_is}

-- the parentheses that the machine has open behind a list, with so many before it
abbrev pub opened : ℕ → List Token → ℕ
opened n [] = n
opened n (t ∷ ts) = opened (parentheses n t.lexeme) ts

-- one more is open, or one less, or as many as before; the first test says that one is opened, the second that one is closed
abbrev step_of : Bool → Bool → ℕ → ℕ → Type 0
step_of true c n m = m ≡ suc n
step_of false true n m = n ≡ suc m
step_of false false n m = m ≡ n

-- so many are open before a token and so many behind it, and none before a `;`
abbrev Step : ℕ → Lexeme → ℕ → Type 0
Step n l m = step_of (is_sign OpenParenthesis l) (is_sign CloseParenthesis l) n m × (is_sign Semicolon l ≡ true → n ≡ 0)

-- the same of a list of tokens
abbrev Steps : ℕ → List Token → ℕ → Type 0
Steps n [] m = n ≡ m
Steps n (t ∷ ts) m = (j : ℕ) × Step n t.lexeme j × Steps j ts m

steps_append : (n j m : ℕ) (xs ys : List Token) → Steps n xs j → Steps j ys m → Steps n (xs ++ ys) m
steps_append n j m [] ys a b = subst (λ (i : ℕ). Steps i ys m) (sym a) b
steps_append n j m (x ∷ xs) ys (i, s, a) b = (i, s, steps_append i j m xs ys a b)

steps_front : (n m : ℕ) (xs ys : List Token) → Steps n (xs ++ ys) m → (j : ℕ) × Steps n xs j
steps_front n m [] ys a = (n, refl)
steps_front n m (x ∷ xs) ys (i, s, a) = let r = steps_front i m xs ys a in (r.0, (i, s, r.1))

-- whether a sort is this sign
abbrev sort_is : Sign → Sort → Bool
sort_is m (the_sign s) = same_sign m s
sort_is m _ = false

no_sign : (m : Sign) (s : Sort) (l : Lexeme) → ((u : Sign) → is s (sign u) ≡ false) → is s l ≡ true → is_sign m l ≡ false
no_sign m s (word w) never e = refl
no_sign m s (keyword k) never e = refl
no_sign m s (number n) never e = refl
no_sign m s (sign u) never e = let f = never u in cc

sort_has_sign : (m : Sign) (s : Sort) (l : Lexeme) → is s l ≡ true → is_sign m l ≡ sort_is m s
sort_has_sign m a_word l e = no_sign m a_word l (λ u. refl) e
sort_has_sign m a_node_word l e = no_sign m a_node_word l (λ u. refl) e
sort_has_sign m any_word l e = no_sign m any_word l (λ u. refl) e
sort_has_sign m a_number l e = no_sign m a_number l (λ u. refl) e
sort_has_sign m (the_word w) l e = no_sign m (the_word w) l (λ u. refl) e
sort_has_sign m (the_keyword k) l e = no_sign m (the_keyword k) l (λ u. refl) e
sort_has_sign m (the_sign s) l e = ap (is_sign m) (sign_is s l e)

-- so many are open behind a token that opens one, or closes one, or does neither
abbrev after : Bool → Bool → ℕ → ℕ
after true c k = suc k
after false true k = k - 1
after false false k = k

-- the token closes none where none is open, and is no `;`
abbrev is_sound : Bool → Bool → Bool → ℕ → Bool
is_sound true c q k = not q
is_sound false true q zero = false
is_sound false true q (suc k) = not q
is_sound false false q k = not q

sound_step : (o c q : Bool) (k n : ℕ) → is_sound o c q k ≡ true → step_of o c (k + n) (after o c k + n)
sound_step true c q k n h = omega arith
sound_step false true q zero n h = cc
sound_step false true q (suc k) n h = omega arith
sound_step false false q k n h = refl

sound_ends : (o c q : Bool) (k : ℕ) → is_sound o c q k ≡ true → q ≡ false
sound_ends true c q k h = not-true q h
sound_ends false true q zero h = cc
sound_ends false true q (suc k) h = not-true q h
sound_ends false false q k h = not-true q h

takes_step : (k n : ℕ) (s : Sort) (l : Lexeme) → is s l ≡ true → is_sound (sort_is OpenParenthesis s) (sort_is CloseParenthesis s) (sort_is Semicolon s) k ≡ true → Step (k + n) l (after (sort_is OpenParenthesis s) (sort_is CloseParenthesis s) k + n)
takes_step k n s l e h =
    let o = sort_is OpenParenthesis s in
    let c = sort_is CloseParenthesis s in
    let none = sound_ends o c (sort_is Semicolon s) k h in
    let told = sort_has_sign Semicolon s l e in
    (subst (λ (b : Bool). step_of b (is_sign CloseParenthesis l) (k + n) (after o c k + n)) (sym (sort_has_sign OpenParenthesis s l e)) (subst (λ (b : Bool). step_of o b (k + n) (after o c k + n)) (sym (sort_has_sign CloseParenthesis s l e)) (sound_step o c (sort_is Semicolon s) k n h)), λ f. cc)

-- the parentheses that are open behind a form
abbrev ends_at : ℕ → Form → ℕ
ends_at k (takes s) = after (sort_is OpenParenthesis s) (sort_is CloseParenthesis s) k
ends_at k (does a) = k
ends_at k (and_then f g) = ends_at (ends_at k f) g
ends_at k (either f g) = ends_at k f
ends_at k (many f) = k
ends_at k parenthesised = k

-- a form closes only what is open, and leaves as many open whichever way it is spelled
abbrev is_even : ℕ → Form → Bool
is_even k (takes s) = is_sound (sort_is OpenParenthesis s) (sort_is CloseParenthesis s) (sort_is Semicolon s) k
is_even k (does a) = true
is_even k (and_then f g) = is_even k f && is_even (ends_at k f) g
is_even k (either f g) = is_even k f && (is_even k g && (ends_at k f == ends_at k g))
is_even k (many f) = is_even k f && (ends_at k f == k)
is_even k parenthesised = true

-- what is spelled closes what it opens
abbrev IsEven : Inner → Type 0
IsEven N = (ts : List Token) (vs us : List Value) → N ts vs us → (n : ℕ) → Steps n ts n

times_even : (S : Inner) (n : ℕ) → ((ts : List Token) (vs us : List Value) → S ts vs us → Steps n ts n) → (j : ℕ) (ts : List Token) (vs us : List Value) → Times S j ts vs us → Steps n ts n
times_even S n h zero ts vs us a = subst (λ (l : List Token). Steps n l n) (sym a.0) refl
times_even S n h (suc j) ts vs us (xs, ys, ws, e, a, b) = subst (λ (l : List Token). Steps n l n) (sym e) (steps_append n n n xs ys (h xs vs ws a) (times_even S n h j ys ws us b))

form_even : (N : Inner) → IsEven N → (f : Form) (k n : ℕ) → is_even k f ≡ true → (ts : List Token) (vs us : List Value) → Spells N f ts vs us → Steps (k + n) ts (ends_at k f + n)
form_even N i (takes s) k n h ts vs us (t, e, f, w) = subst (λ (l : List Token). Steps (k + n) l (ends_at k (takes s) + n)) (sym f) (ends_at k (takes s) + n, takes_step k n s t.lexeme e h, refl)
form_even N i (does a) k n h ts vs us (e, w) = subst (λ (l : List Token). Steps (k + n) l (k + n)) (sym e) refl
form_even N i (and_then f g) k n h ts vs us (xs, ys, ws, e, a, b) =
    let p = form_even N i f k n (both_left (is_even k f) _ h) xs vs ws a in
    let q = form_even N i g (ends_at k f) n (both_right (is_even k f) _ h) ys ws us b in
    subst (λ (l : List Token). Steps (k + n) l (ends_at k (and_then f g) + n)) (sym e) (steps_append (k + n) (ends_at k f + n) (ends_at k (and_then f g) + n) xs ys p q)
form_even N i (either f g) k n h ts vs us (inl a) = form_even N i f k n (both_left (is_even k f) _ h) ts vs us a
form_even N i (either f g) k n h ts vs us (inr a) =
    let r = both_right (is_even k f) _ h in
    let same = eqb-true (ends_at k f) (ends_at k g) (both_right (is_even k g) _ r) in
    subst (λ (m : ℕ). Steps (k + n) ts (m + n)) (sym same) (form_even N i g k n (both_left (is_even k g) _ r) ts vs us a)
form_even N i (many f) k n h ts vs us (j, a) = times_even (Spells N f) (k + n) (λ xs ws zs b. subst (λ (m : ℕ). Steps (k + n) xs (m + n)) (eqb-true (ends_at k f) k (both_right (is_even k f) _ h)) (form_even N i f k n (both_left (is_even k f) _ h) xs ws zs b)) j ts vs us a
form_even N i parenthesised k n h ts vs us a = i ts vs us a (k + n)

parentheses_even : is_even 0 in_parentheses ≡ true
unfolding after_open expr term factor minus_expr more_terms more_factors
parentheses_even = refl

parentheses_closed : ends_at 0 in_parentheses ≡ 0
unfolding after_open expr term factor minus_expr more_terms more_factors
parentheses_closed = refl

statement_even : is_even 0 statement_form ≡ true
unfolding expr term factor minus_expr more_terms more_factors index part_form more_parts name_form upper_bound block_form at_addr dest_form more_dests entry_form more_blocks accept more_entries map_form over spec_form plain_form agent_form vectors_form more_names unit_form param_form more_params params_form module_form arg_form more_args args_form use_form loop_form access_form maybe_access command_form radix_form piece_form more_pieces gather_form statement_form
statement_even = refl

statement_closed : ends_at 0 statement_form ≡ 0
unfolding expr term factor minus_expr more_terms more_factors index part_form more_parts name_form upper_bound block_form at_addr dest_form more_dests entry_form more_blocks accept more_entries map_form over spec_form plain_form agent_form vectors_form more_names unit_form param_form more_params params_form module_form arg_form more_args args_form use_form loop_form access_form maybe_access command_form radix_form piece_form more_pieces gather_form statement_form
statement_closed = refl

-- a form that is even from none on closes what it opens, however many were open before it
closes : (N : Inner) → IsEven N → (f : Form) → is_even 0 f ≡ true → ends_at 0 f ≡ 0 → (ts : List Token) (vs us : List Value) → Spells N f ts vs us → (n : ℕ) → Steps n ts n
closes N i f h c ts vs us a n =
    let same : 0 + n ≡ n = omega arith in
    let r = subst (λ (m : ℕ). Steps (0 + n) ts (m + n)) c (form_even N i f 0 n h ts vs us a) in
    subst (λ (m : ℕ). Steps m ts m) same r

inner_even : (d : ℕ) → IsEven (Parenthesised d)
inner_even zero ts vs us a n = absurd a
inner_even (suc d) ts vs us a n = closes (Parenthesised d) (inner_even d) in_parentheses parentheses_even parentheses_closed ts vs us a n

semicolon_step : (l : Lexeme) → l ≡ sign Semicolon → Step 0 l 0
semicolon_step l e = subst (λ (j : Lexeme). Step 0 j 0) (sym e) (refl, λ f. refl)

-- a spelling closes what it opens, statement for statement
text_even : (ts : List Token) (ss : List Placed) → SpellsText ts ss → Steps 0 ts 0
text_even ts [] s = subst (λ (l : List Token). Steps 0 l 0) (sym s) refl
text_even ts (p ∷ ps) (first, xs, stop, ys, e, l, (d, vs, spelled, q), semi, more) =
    let one = closes (Parenthesised d) (inner_even d) statement_form statement_even statement_closed (first ∷ xs) [] vs spelled 0 in
    subst (λ (j : List Token). Steps 0 j 0) (sym e) (steps_append 0 0 0 (first ∷ xs) (stop ∷ ys) one (0, semicolon_step stop.lexeme semi, text_even ys ps more))

step_parentheses : (n m : ℕ) (o c q : Bool) → step_of o c n m → (q ≡ true → n ≡ 0) → (if o then n + 1 else (if c then n - 1 else (if q then 0 else n))) ≡ m
step_parentheses n m true c q s h = omega (arith, s)
step_parentheses n m false true q s h = omega (arith, s)
step_parentheses n m false false true s h = let none = h refl in omega (arith, s, none)
step_parentheses n m false false false s h = sym s

-- the machine counts them
steps_opened : (n m : ℕ) (ts : List Token) → Steps n ts m → opened n ts ≡ m
steps_opened n m [] a = a
steps_opened n m (t ∷ ts) (j, s, a) =
    let l = t.lexeme in
    ap (λ (i : ℕ). opened i ts) (step_parentheses n j (is_sign OpenParenthesis l) (is_sign CloseParenthesis l) (is_sign Semicolon l) s.0 s.1) ∙ steps_opened j m ts a

-- a token that opens one closes none
not_both : (l : Lexeme) → is_sign OpenParenthesis l ≡ true → is_sign CloseParenthesis l ≡ false
not_both l e = ap (is_sign CloseParenthesis) (sign_is OpenParenthesis l e)

step_counts : (n m : ℕ) (o c : Bool) → step_of o c n m → (o ≡ true → c ≡ false) → n + cond o 1 0 ≡ m + cond c 1 0
step_counts n m true true s h = let f = h refl in cc
step_counts n m true false s h = omega (arith, s)
step_counts n m false true s h = omega (arith, s)
step_counts n m false false s h = omega (arith, s)

-- and so do the laws
steps_counts : (n m : ℕ) (ts : List Token) → Steps n ts m → n + opening_count ts ≡ m + closing_count ts
steps_counts n m [] a = omega (arith, a)
steps_counts n m (t ∷ ts) (j, s, a) =
    let l = t.lexeme in
    let here = step_counts n j (is_sign OpenParenthesis l) (is_sign CloseParenthesis l) s.0 (not_both l) in
    let there = steps_counts j m ts a in
    let more : opening_count (t ∷ ts) ≡ cond (is_sign OpenParenthesis l) 1 0 + opening_count ts = sum_by-cons (λ (u : Token). cond (is_sign OpenParenthesis u.lexeme) 1 0) t ts in
    let fewer : closing_count (t ∷ ts) ≡ cond (is_sign CloseParenthesis l) 1 0 + closing_count ts = sum_by-cons (λ (u : Token). cond (is_sign CloseParenthesis u.lexeme) 1 0) t ts in
    omega (arith, here, there, more, fewer)

-- behind the front of a spelling both counts are one
pub counts_agree : (front rest : List Token) (ss : List Placed) → SpellsText (front ++ rest) ss → opened 0 front ≡ open_parentheses front
counts_agree front rest ss s =
    let r = steps_front 0 0 front rest (text_even (front ++ rest) ss s) in
    let machine = steps_opened 0 r.0 front r.1 in
    let laws = steps_counts 0 r.0 front r.1 in
    omega (arith, machine, laws)

-- the same of a viable list
pub viable_counts : (front rest : List Token) → Viable (front ++ rest) → opened 0 front ≡ open_parentheses front
viable_counts front rest (more, ss, s) = counts_agree front (rest ++ more) ss (subst (λ (j : List Token). SpellsText j ss) (append_assoc front rest more) s)
