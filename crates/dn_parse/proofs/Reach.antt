-- Where the machine stops: what it read before is a spelling or can become one.
use Rattle.std.proofs.Common.{◌≡◌, ◌∙◌, inl, ap, sym, refl, subst, ℕ, zero, suc, ◌==◌, eqb-true, eq-eqb, Bool, true, false, List, [], ◌∷◌, ◌++◌, length, append-nil, append_assoc}
use denote.Enum.Declared.{tag_of}
use Rattle.std.proofs.lemmas.Slice.Eq.{bytes_eq-Decides}
use Rattle.dn_token.specs.contracts.token.Sign.{the_type as the_signs}
use Rattle.dn_token.specs.contracts.token.Keyword.{the_type as the_keywords}
use Rattle.dn_token.specs.declared.token.Sign.TheVariants.{Semicolon, OpenParenthesis, CloseParenthesis}
use Rattle.dn_token.specs.Token.{Lexeme, Token, word, keyword, number, sign}
use Rattle.dn_parse.specs.Tree.{Placed, constant}
use Rattle.dn_parse.specs.Actions.{Value, perform, expression}
use Rattle.dn_parse.specs.Forms.{Form, takes, does, and_then, either, many, parenthesised, Sort, a_word, a_node_word, any_word, a_number, the_word, the_keyword, the_sign, is, is_sign, values_with_token, Spells}
use Rattle.dn_parse.specs.Syntax.{SpellsText, statement_form, statement_of, Parenthesised, after_open, expr, term, factor, minus_expr, more_terms, more_factors}
use Rattle.dn_parse.specs.Machine.{Fed, on, over, stuck, feed, Stop, whole, refused, deep, Outcome, ReadingPlace, between, inside, run, go, go_in, is_deep, parentheses}
use Rattle.dn_parse.proofs.Counted.{opened}
use Rattle.dn_parse.proofs.Taken.{SpellsAll, Deep, SaysAll, says_all, bounded, deep_is_closed}
use Rattle.dn_parse.proofs.Sets.{both_left, both_right, may_skip, sign_is}
use Rattle.dn_parse.proofs.Begins.{left_out}
use Rattle.dn_parse.proofs.Spelled.{is_opened}
use Rattle.dn_parse.proofs.Whole.{statement_needed}

-- the statements that tokens spell from a place on: inside a statement the forms that may still come, a `;`, and then a text
abbrev pub SpellsFrom : ReadingPlace → List Token → List Placed → Type 0
SpellsFrom between ts ss = SpellsText ts ss
SpellsFrom (inside line n k vs) ts ss = (xs : List Token) × (stop : Token) × (ys : List Token) × (us : List Value) × (more : List Placed) × (ts ≡ xs ++ stop ∷ ys) × SpellsAll Deep k xs vs us × (stop.lexeme ≡ sign Semicolon) × (ss ≡ record { line = line; statement = statement_of us } ∷ more) × SpellsText ys more

abbrev pub ViableFrom : ReadingPlace → List Token → Type 0
ViableFrom p ts = (more : List Token) × (ss : List Placed) × SpellsFrom p (ts ++ more) ss

-- a spelling of each form
any_token : (l : Lexeme) → Token
any_token l = record { lexeme = l; line = 0 }

pub record Example (f : Form) (vs : List Value) : Type 0 where
  pub tokens : List Token
  pub values : List Value
  pub spelled : Spells Deep f tokens vs values

one_token : (s : Sort) (l : Lexeme) (vs : List Value) → is s l ≡ true → Example (takes s) vs
one_token s l vs e = record { tokens = record { lexeme = l; line = 0 } ∷ []; values = values_with_token s l vs; spelled = (record { lexeme = l; line = 0 }, e, refl, refl) }

same_number : (n : ℕ) → (n == n) ≡ true
same_number n = eq-eqb n n refl

takes_example : (s : Sort) (vs : List Value) → Example (takes s) vs
takes_example a_word vs = one_token a_word (word []) vs refl
takes_example a_node_word vs = one_token a_node_word (word []) vs refl
takes_example any_word vs = one_token any_word (word []) vs refl
takes_example a_number vs = one_token a_number (number 0) vs refl
takes_example (the_word w) vs = one_token (the_word w) (word w) vs ((bytes_eq-Decides w w).1 refl)
takes_example (the_keyword k) vs = one_token (the_keyword k) (keyword k) vs (same_number (tag_of the_keywords k))
takes_example (the_sign s) vs = one_token (the_sign s) (sign s) vs (same_number (tag_of the_signs s))

-- what some tokens do to the forms
abbrev then_fed : Fed → (List Form → List Value → Fed) → Fed
then_fed (on k vs) next = next k vs
then_fed (over vs) next = stuck
then_fed stuck next = stuck

abbrev all_fed : List Form → List Value → List Token → Fed
all_fed k vs [] = on k vs
all_fed k vs (t ∷ ts) = then_fed (feed k vs t.lexeme) (λ k' ws. all_fed k' ws ts)

no_forms : (k : List Form) (vs us : List Value) → on k vs ≡ on [] us → SpellsAll Deep k [] vs us
no_forms [] vs us e = (refl, cc)
no_forms (f ∷ k) vs us e = cc

fed_says : (k : List Form) (vs us : List Value) (t : Token) (ts : List Token) (d : Fed) → SaysAll Deep k vs t d → ((k' : List Form) (ws : List Value) → all_fed k' ws ts ≡ on [] us → SpellsAll Deep k' ts ws us) → then_fed d (λ k' ws. all_fed k' ws ts) ≡ on [] us → SpellsAll Deep k (t ∷ ts) vs us
fed_says k vs us t ts (on k' ws) h n e = h ts us (n k' ws e)
fed_says k vs us t ts (over ws) h n e = cc
fed_says k vs us t ts stuck h n e = cc

fed_spelled : (ts : List Token) (us : List Value) (k : List Form) (vs : List Value) → all_fed k vs ts ≡ on [] us → SpellsAll Deep k ts vs us
fed_spelled [] us k vs e = no_forms k vs us e
fed_spelled (t ∷ ts) us k vs e = fed_says k vs us t ts (feed k vs t.lexeme) (says_all Deep deep_is_closed k vs t) (fed_spelled ts us) e

-- ( 0 )
abbrev in_paren : List Token
in_paren = record { lexeme = sign OpenParenthesis; line = 0 } ∷ record { lexeme = number 0; line = 0 } ∷ record { lexeme = sign CloseParenthesis; line = 0 } ∷ []

paren_fed : (vs : List Value) → all_fed (parenthesised ∷ []) vs in_paren ≡ on [] (expression (constant 0) ∷ vs)
unfolding after_open expr term factor minus_expr more_terms more_factors
paren_fed vs = refl

only_form : (f : Form) (ts : List Token) (vs us : List Value) → SpellsAll Deep (f ∷ []) ts vs us → Spells Deep f ts vs us
only_form f ts vs us (xs, ys, ws, e, s, (e', w)) = subst (λ u. Spells Deep f ts vs u) (sym w) (subst (λ l. Spells Deep f l vs ws) (sym (e ∙ ap (λ l. xs ++ l) e' ∙ append-nil xs)) s)

example : (f : Form) (vs : List Value) → Example f vs
example (takes s) vs = takes_example s vs
example (does a) vs = record { tokens = []; values = perform a vs; spelled = (refl, refl) }
example (and_then f g) vs =
    let p = example f vs in
    let q = example g p.values in
    record { tokens = p.tokens ++ q.tokens; values = q.values; spelled = (p.tokens, q.tokens, p.values, refl, p.spelled, q.spelled) }
example (either f g) vs = let p = example f vs in record { tokens = p.tokens; values = p.values; spelled = inl p.spelled }
example (many f) vs = record { tokens = []; values = vs; spelled = (zero, (refl, refl)) }
example parenthesised vs = record { tokens = in_paren; values = expression (constant 0) ∷ vs; spelled = only_form parenthesised in_paren vs (expression (constant 0) ∷ vs) (fed_spelled in_paren (expression (constant 0) ∷ vs) (parenthesised ∷ []) vs (paren_fed vs)) }

all_examples : (k : List Form) (vs : List Value) → (ts : List Token) × (us : List Value) × SpellsAll Deep k ts vs us
all_examples [] vs = ([], vs, (refl, refl))
all_examples (f ∷ k) vs =
    let p = example f vs in
    let q = all_examples k p.values in
    (p.tokens ++ q.0, q.1, (p.tokens, q.0, p.values, refl, p.spelled, q.2))

-- from each place there is a way on to the end of a text
viable_from : (p : ReadingPlace) → ViableFrom p []
viable_from between = ([], [], refl)
viable_from (inside line n k vs) =
    let e = all_examples k vs in
    let stop : Token = record { lexeme = sign Semicolon; line = 0 } in
    (e.0 ++ stop ∷ [], record { line = line; statement = statement_of e.1 } ∷ [], (e.0, stop, [], e.1, [], refl, e.2, refl, refl, refl))

-- a statement that begins
statement_spelled : (t : Token) (xs : List Token) (us : List Value) (stop : Token) (ys : List Token) (more : List Placed) → SpellsAll Deep (statement_form ∷ []) (t ∷ xs) [] us → stop.lexeme ≡ sign Semicolon → SpellsText ys more → SpellsText (t ∷ xs ++ stop ∷ ys) (record { line = t.line; statement = statement_of us } ∷ more)
statement_spelled t xs us stop ys more s semi text =
    let b = bounded statement_form (t ∷ xs) [] us (only_form statement_form (t ∷ xs) [] us s) in
    (t, xs, stop, ys, refl, refl, (b.0, us, b.1, refl), semi, text)

-- one token back
abbrev pub Back : ReadingPlace → ReadingPlace → Token → (List Placed → List Placed) → Type 0
Back p q t f = (ts : List Token) (ss : List Placed) → SpellsFrom q ts ss → SpellsFrom p (t ∷ ts) (f ss)

pub back_on : (line n m : ℕ) (k k' : List Form) (vs ws : List Value) (t : Token) → SaysAll Deep k vs t (on k' ws) → Back (inside line n k vs) (inside line m k' ws) t (λ ss. ss)
back_on line n m k k' vs ws t h ts ss (xs, stop, ys, us, more, e, s, semi, l, text) = (t ∷ xs, stop, ys, us, more, ap (λ (j : List Token). t ∷ j) e, h xs us s, semi, l, text)

pub back_over : (line n : ℕ) (k : List Form) (vs ws : List Value) (t : Token) → SaysAll Deep k vs t (over ws) → Back (inside line n k vs) between t (λ ss. record { line = line; statement = statement_of ws } ∷ ss)
back_over line n k vs ws t h ts ss text = ([], t, ts, ws, ss, refl, h.0, sign_is Semicolon t.lexeme h.1, refl, text)

-- a statement begins as one inside it
pub back_first : (t : Token) (n : ℕ) (ts : List Token) (ss : List Placed) → SpellsFrom (inside t.line n (statement_form ∷ []) []) (t ∷ ts) ss → SpellsText (t ∷ ts) ss
back_first t n ts ss ([], stop, ys, us, more, e, s, semi, l, text) = absurd (nothing (spelled_nothing us s))
  where
    spelled_nothing : (us : List Value) → SpellsAll Deep (statement_form ∷ []) [] [] us → may_skip statement_form ≡ true
    spelled_nothing us s = let b = bounded statement_form [] [] us (only_form statement_form [] [] us s) in left_out (Parenthesised b.0) (is_opened b.0) statement_form [] us b.1

    nothing : may_skip statement_form ≡ true → ⊥
    nothing e = let f = statement_needed in clash (may_skip statement_form) e f
      where
        clash : (b : Bool) → b ≡ true → b ≡ false → ⊥
        clash true e f = cc
        clash false e f = cc
back_first t n ts ss (x ∷ xs, stop, ys, us, more, e, s, semi, l, text) =
    let same : t ≡ x = cc in
    let made = statement_spelled x xs us stop ys more s semi text in
    let lined : ss ≡ record { line = x.line; statement = statement_of us } ∷ more = l ∙ ap (λ (u : Token). record { line = u.line; statement = statement_of us } ∷ more) same in
    subst (λ (j : List Token). SpellsText j ss) (sym e) (subst (λ (j : List Placed). SpellsText (x ∷ xs ++ stop ∷ ys) j) (sym lined) made)

-- what is said of a place, of the tokens from there on, and of where the reading stops
abbrev pub count : ReadingPlace → ℕ
count between = 0
count (inside line n k vs) = n

abbrev pub ReachedAt : ReadingPlace → List Token → List Placed → Stop → Type 0
ReachedAt p ts ss whole = SpellsFrom p ts ss
ReachedAt p ts ss (refused n) = (front : List Token) × (rest : List Token) × (ts ≡ front ++ rest) × (n ≡ length rest) × ViableFrom p front
ReachedAt p ts ss (deep n) = (front : List Token) × (t : Token) × (rest : List Token) × (ts ≡ front ++ t ∷ rest) × (n ≡ suc (length rest)) × ViableFrom p (front ++ t ∷ []) × (t.lexeme ≡ sign OpenParenthesis) × (opened (count p) front ≡ 32)

abbrev Reached : ReadingPlace → List Token → Outcome → Type 0
Reached p ts o = ReachedAt p ts o.statements o.stop

viable_back : (p q : ReadingPlace) (t : Token) (f : List Placed → List Placed) → Back p q t f → (ts : List Token) → ViableFrom q ts → ViableFrom p (t ∷ ts)
viable_back p q t f b ts (more, ss, s) = (more, f ss, b (ts ++ more) ss s)

reached_back : (p q : ReadingPlace) (t : Token) (f : List Placed → List Placed) → Back p q t f → count q ≡ parentheses (count p) t.lexeme → (ts : List Token) (ss : List Placed) (stop : Stop) → ReachedAt q ts ss stop → ReachedAt p (t ∷ ts) (f ss) stop
reached_back p q t f b c ts ss whole h = b ts ss h
reached_back p q t f b c ts ss (refused n) (front, rest, e, l, v) = (t ∷ front, rest, ap (λ (j : List Token). t ∷ j) e, l, viable_back p q t f b front v)
reached_back p q t f b c ts ss (deep n) (front, u, rest, e, l, v, o, m) = (t ∷ front, u, rest, ap (λ (j : List Token). t ∷ j) e, l, viable_back p q t f b (front ++ u ∷ []) v, o, ap (λ (j : ℕ). opened j front) (sym c) ∙ m)

deep_here : (p q : ReadingPlace) (t : Token) (f : List Placed → List Placed) → Back p q t f → (ts : List Token) (ss : List Placed) → is_sign OpenParenthesis t.lexeme ≡ true → (count p == 32) ≡ true → ReachedAt p (t ∷ ts) ss (deep (suc (length ts)))
deep_here p q t f b ts ss o m = ([], t, ts, refl, refl, viable_back p q t f b [] (viable_from q), sign_is OpenParenthesis t.lexeme o, eqb-true (count p) 32 m)

reached_on : (line n : ℕ) (k k' : List Form) (vs ws : List Value) (t : Token) (ts : List Token) → SaysAll Deep k vs t (on k' ws) → (b : Bool) → is_deep n t.lexeme ≡ b → Reached (inside line (parentheses n t.lexeme) k' ws) ts (run (inside line (parentheses n t.lexeme) k' ws) ts) → Reached (inside line n k vs) (t ∷ ts) (go_in b (inside line (parentheses n t.lexeme) k' ws) (suc (length ts)) (λ q. run q ts))
reached_on line n k k' vs ws t ts h true e r = deep_here (inside line n k vs) (inside line (parentheses n t.lexeme) k' ws) t (λ ss. ss) (back_on line n (parentheses n t.lexeme) k k' vs ws t h) ts [] (both_left (is_sign OpenParenthesis t.lexeme) (n == 32) e) (both_right (is_sign OpenParenthesis t.lexeme) (n == 32) e)
reached_on line n k k' vs ws t ts h false e r =
    let o = run (inside line (parentheses n t.lexeme) k' ws) ts in
    reached_back (inside line n k vs) (inside line (parentheses n t.lexeme) k' ws) t (λ ss. ss) (back_on line n (parentheses n t.lexeme) k k' vs ws t h) refl ts o.statements o.stop r

reached_go : (line n : ℕ) (k : List Form) (vs : List Value) (t : Token) (ts : List Token) (d : Fed) → SaysAll Deep k vs t d → ((q : ReadingPlace) → Reached q ts (run q ts)) → Reached (inside line n k vs) (t ∷ ts) (go d line n t.lexeme (suc (length ts)) (λ q. run q ts))
reached_go line n k vs t ts (on k' ws) h r = reached_on line n k k' vs ws t ts h (is_deep n t.lexeme) refl (r (inside line (parentheses n t.lexeme) k' ws))
reached_go line n k vs t ts (over ws) h r =
    let none : 0 ≡ parentheses n t.lexeme = ap (parentheses n) (sym (sign_is Semicolon t.lexeme h.1)) in
    reached_back (inside line n k vs) between t (λ ss. record { line = line; statement = statement_of ws } ∷ ss) (back_over line n k vs ws t h) none ts (run between ts).statements (run between ts).stop (r between)
reached_go line n k vs t ts stuck h r = ([], t ∷ ts, refl, refl, viable_from (inside line n k vs))

viable_first : (t : Token) (n : ℕ) (front rest ts : List Token) → t ∷ ts ≡ front ++ rest → ViableFrom (inside t.line n (statement_form ∷ []) []) front → ViableFrom between front
viable_first t n [] rest ts e v = viable_from between
viable_first t n (x ∷ front) rest ts e (more, ss, s) =
    let same : t ≡ x = cc in
    (more, ss, back_first x n (front ++ more) ss (subst (λ (u : Token). SpellsFrom (inside u.line n (statement_form ∷ []) []) (x ∷ front ++ more) ss) same s))

reached_first : (t : Token) (ts : List Token) (ss : List Placed) (stop : Stop) → ReachedAt (inside t.line 0 (statement_form ∷ []) []) (t ∷ ts) ss stop → ReachedAt between (t ∷ ts) ss stop
reached_first t ts ss whole h = back_first t 0 ts ss h
reached_first t ts ss (refused n) (front, rest, e, l, v) = (front, rest, e, l, viable_first t 0 front rest ts e v)
reached_first t ts ss (deep n) (front, u, rest, e, l, v, o, m) = (front, u, rest, e, l, viable_first t 0 (front ++ u ∷ []) rest ts (e ∙ sym (append_assoc front (u ∷ []) rest)) v, o, m)

reached_inside : (line n : ℕ) (k : List Form) (vs : List Value) (t : Token) (ts : List Token) → ((q : ReadingPlace) → Reached q ts (run q ts)) → Reached (inside line n k vs) (t ∷ ts) (run (inside line n k vs) (t ∷ ts))
reached_inside line n k vs t ts r = reached_go line n k vs t ts (feed k vs t.lexeme) (says_all Deep deep_is_closed k vs t) r

pub reached : (ts : List Token) (p : ReadingPlace) → Reached p ts (run p ts)
reached [] between = refl
reached [] (inside line n k vs) = ([], [], refl, refl, viable_from (inside line n k vs))
reached (t ∷ ts) between =
    let o = run between (t ∷ ts) in
    reached_first t ts o.statements o.stop (reached_inside t.line 0 (statement_form ∷ []) [] t ts (reached ts))
reached (t ∷ ts) (inside line n k vs) = reached_inside line n k vs t ts (reached ts)

pub read_is_spelled : (ts : List Token) (ss : List Placed) (stop : Stop) → ReachedAt between ts ss stop → stop ≡ whole → SpellsText ts ss
read_is_spelled ts ss whole h e = h
read_is_spelled ts ss (refused n) h e = cc
read_is_spelled ts ss (deep n) h e = cc
