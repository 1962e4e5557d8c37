-- Each spelling of a form is taken by it, whatever follows with which it does not go on.
use Rattle.std.proofs.Common.{◌≡◌, ◌∙◌, ◌⊎◌, inl, inr, ap, sym, refl, subst, ℕ, zero, suc, Bool, true, false, not, List, [], ◌∷◌, ◌++◌, length, append_assoc}
use Rattle.dn_base.proofs.Booleans.{not-true, cases_Bool, false_and_true}
use Rattle.dn_token.specs.Token.{Token}
use Rattle.dn_parse.specs.Actions.{Value}
use Rattle.dn_parse.specs.Forms.{Form, takes, does, and_then, either, many, parenthesised, Sort, values_with_token, Times, Spells}
use Rattle.dn_parse.specs.Syntax.{after_open, in_parentheses, Parenthesised, expr, term, factor, minus_expr, more_terms, more_factors}
use Rattle.dn_parse.specs.Machine.{move_of_token, fed_by_move, feed, inside, run, go, go_in, is_deep, parentheses}
use Rattle.dn_parse.proofs.Taken.{Inner}
use Rattle.dn_parse.proofs.Counted.{opened}
use Rattle.dn_parse.proofs.Sets.{may_skip, given, starts, goes_on, apart, fits, among, both_left, both_right, among_left, among_right, apart_among, IsOpened}
use Rattle.dn_parse.proofs.Begins.{left_out, at_other, at_start, begins, same_head}
use Rattle.dn_parse.proofs.Turns.{Upto, upto_then, equal_then, run_then, run_does, run_first, run_second, run_again, run_no_more, run_parenthesised}

-- the next token is of none of these sorts
abbrev pub Calm : List Sort → List Token → Type 0
Calm ss [] = Unit {0}
Calm ss (t ∷ ts) = among ss t.lexeme ≡ false

pub calm_left : (xs ys : List Sort) (ts : List Token) → Calm (xs ++ ys) ts → Calm xs ts
calm_left xs ys [] c = tt
calm_left xs ys (t ∷ ts) c = among_left xs ys t.lexeme c

pub calm_right : (xs ys : List Sort) (ts : List Token) → Calm (xs ++ ys) ts → Calm ys ts
calm_right xs ys [] c = tt
calm_right xs ys (t ∷ ts) c = among_right xs ys t.lexeme c

calm_given : (a : Bool) (ys : List Sort) (ts : List Token) → Calm (given a ys) ts → a ≡ true → Calm ys ts
calm_given true ys ts c e = c
calm_given false ys ts c e = cc

pub opened_append : (n : ℕ) (xs ys : List Token) → opened n (xs ++ ys) ≡ opened (opened n xs) ys
opened_append n [] ys = refl
opened_append n (x ∷ xs) ys = opened_append (parentheses n x.lexeme) xs ys

-- the tokens of a form are taken by it
abbrev pub IsRead : Inner → Form → Type 0
IsRead N f = (ts : List Token) (vs us : List Value) → Spells N f ts vs us → (rest : List Token) → Calm (goes_on f) rest → (line n : ℕ) (k : List Form) → Upto (run (inside line n (f ∷ k) vs) (ts ++ rest)) (run (inside line (opened n ts) k us) rest)

-- the same where the tokens are known up to an equation
abbrev Goal : Form → ℕ → ℕ → List Form → List Value → List Value → List Token → List Token → Type 0
Goal f line n k vs us rest ts = Upto (run (inside line n (f ∷ k) vs) (ts ++ rest)) (run (inside line (opened n ts) k us) rest)

deep_or : (b : Bool) (s : Sort) (line n : ℕ) (k : List Form) (vs : List Value) (t : Token) (rest : List Token) → Upto (go_in b (inside line (parentheses n t.lexeme) k vs) (suc (length rest)) (λ q. run q rest)) (run (inside line (parentheses n t.lexeme) k vs) rest)
deep_or true s line n k vs t rest = inr tt
deep_or false s line n k vs t rest = inl refl

takes_read : (N : Inner) (s : Sort) → IsRead N (takes s)
takes_read N s ts vs us (t, i, e, w) rest c line n k =
    let first : run (inside line n (takes s ∷ k) vs) (t ∷ rest) ≡ go_in (is_deep n t.lexeme) (inside line (parentheses n t.lexeme) k (values_with_token s t.lexeme vs)) (suc (length rest)) (λ q. run q rest) = ap (λ b. go (fed_by_move (move_of_token b [] (values_with_token s t.lexeme vs)) k (λ ws. feed k ws t.lexeme)) line n t.lexeme (suc (length rest)) (λ q. run q rest)) i in
    subst (λ l. Goal (takes s) line n k vs us rest l) (sym e) (subst (λ u. Goal (takes s) line n k vs u rest (t ∷ [])) (sym w) (equal_then _ _ _ first (deep_or (is_deep n t.lexeme) s line n k (values_with_token s t.lexeme vs) t rest)))

-- what follows the first of two forms does not go on with it
calm_between : (N : Inner) → IsOpened N → (f g : Form) → fits g ≡ true → apart (goes_on f) (starts g) ≡ true → (ys : List Token) (vs us : List Value) → Spells N g ys vs us → (rest : List Token) → Calm (goes_on g ++ given (may_skip g) (goes_on f)) rest → Calm (goes_on f) (ys ++ rest)
calm_between N o f g h a [] vs us s rest c = calm_given (may_skip g) (goes_on f) rest (calm_right (goes_on g) (given (may_skip g) (goes_on f)) rest c) (left_out N o g vs us s)
calm_between N o f g h a (y ∷ ys) vs us s rest c = other (cases_Bool (among (goes_on f) y.lexeme))
  where
    other : (among (goes_on f) y.lexeme ≡ true) ⊎ (among (goes_on f) y.lexeme ≡ false) → among (goes_on f) y.lexeme ≡ false
    other (inl e) = absurd (false_and_true (among (starts g) y.lexeme) (apart_among (goes_on f) (starts g) y.lexeme a e) (begins N o g h y ys vs us s))
    other (inr e) = e

then_read : (N : Inner) → IsOpened N → (f g : Form) → fits g ≡ true → apart (goes_on f) (starts g) ≡ true → IsRead N f → IsRead N g → IsRead N (and_then f g)
then_read N o f g h a p q ts vs us (xs, ys, ws, e, s, s') rest c line n k =
    let calm = calm_between N o f g h a ys ws us s' rest c in
    let one = p xs vs ws s (ys ++ rest) calm line n (g ∷ k) in
    let two = q ys ws us s' rest (calm_left (goes_on g) (given (may_skip g) (goes_on f)) rest c) line (opened n xs) k in
    let start : run (inside line n (and_then f g ∷ k) vs) ((xs ++ ys) ++ rest) ≡ run (inside line n (f ∷ g ∷ k) vs) (xs ++ (ys ++ rest)) = run_then line n f g k vs ((xs ++ ys) ++ rest) ∙ ap (run (inside line n (f ∷ g ∷ k) vs)) (append_assoc xs ys rest) in
    let both = upto_then _ _ _ one two in
    let all = equal_then _ _ _ start both in
    subst (λ l. Goal (and_then f g) line n k vs us rest l) (sym e) (subst (λ m. Upto (run (inside line n (and_then f g ∷ k) vs) ((xs ++ ys) ++ rest)) (run (inside line m k us) rest)) (sym (opened_append n xs ys)) all)

-- the second form, where the first is not begun
second_read : (N : Inner) → IsOpened N → (f g : Form) → fits f ≡ true → fits g ≡ true → may_skip f ≡ false → apart (starts f) (starts g) ≡ true → (ts : List Token) (vs us : List Value) → Spells N g ts vs us → (rest : List Token) → Calm (goes_on f ++ (goes_on g ++ given (may_skip g) (starts f))) rest → (line n : ℕ) (k : List Form) → run (inside line n (either f g ∷ k) vs) (ts ++ rest) ≡ run (inside line n (g ∷ k) vs) (ts ++ rest)
second_read N o f g hf hg m a [] vs us s [] c line n k = refl
second_read N o f g hf hg m a [] vs us s (t ∷ rest) c line n k =
    let none = calm_given (may_skip g) (starts f) (t ∷ rest) (calm_right (goes_on g) (given (may_skip g) (starts f)) (t ∷ rest) (calm_right (goes_on f) (goes_on g ++ given (may_skip g) (starts f)) (t ∷ rest) c)) (left_out N o g vs us s) in
    run_second line n f g k vs t rest ((at_other f hf vs t.lexeme none).refused m)
second_read N o f g hf hg m a (t ∷ ts) vs us s rest c line n k = run_second line n f g k vs t (ts ++ rest) ((at_other f hf vs t.lexeme (other (cases_Bool (among (starts f) t.lexeme)))).refused m)
  where
    other : (among (starts f) t.lexeme ≡ true) ⊎ (among (starts f) t.lexeme ≡ false) → among (starts f) t.lexeme ≡ false
    other (inl e) = absurd (false_and_true (among (starts g) t.lexeme) (apart_among (starts f) (starts g) t.lexeme a e) (begins N o g hg t ts vs us s))
    other (inr e) = e

first_read : (N : Inner) → IsOpened N → (f g : Form) → fits f ≡ true → may_skip f ≡ false → (ts : List Token) (vs us : List Value) → Spells N f ts vs us → (rest : List Token) → (line n : ℕ) (k : List Form) → run (inside line n (either f g ∷ k) vs) (ts ++ rest) ≡ run (inside line n (f ∷ k) vs) (ts ++ rest)
first_read N o f g h m [] vs us s rest line n k = absurd (false_and_true (may_skip f) m (left_out N o f vs us s))
first_read N o f g h m (t ∷ ts) vs us s rest line n k =
    let p = at_start f h vs t.lexeme (begins N o f h t ts vs us s) in
    run_first line n f g k p.next vs p.values t (ts ++ rest) p.taking

either_read : (N : Inner) → IsOpened N → (f g : Form) → fits f ≡ true → fits g ≡ true → may_skip f ≡ false → apart (starts f) (starts g) ≡ true → IsRead N f → IsRead N g → IsRead N (either f g)
either_read N o f g hf hg m a p q ts vs us (inl s) rest c line n k =
    equal_then _ _ _ (first_read N o f g hf m ts vs us s rest line n k) (p ts vs us s rest (calm_left (goes_on f) (goes_on g ++ given (may_skip g) (starts f)) rest c) line n k)
either_read N o f g hf hg m a p q ts vs us (inr s) rest c line n k =
    equal_then _ _ _ (second_read N o f g hf hg m a ts vs us s rest c line n k) (q ts vs us s rest (calm_left (goes_on g) (given (may_skip g) (starts f)) rest (calm_right (goes_on f) (goes_on g ++ given (may_skip g) (starts f)) rest c)) line n k)

-- a form again and again
no_more : (f : Form) → fits f ≡ true → may_skip f ≡ false → (vs : List Value) (rest : List Token) → Calm (starts f) rest → (line n : ℕ) (k : List Form) → run (inside line n (many f ∷ k) vs) rest ≡ run (inside line n k vs) rest
no_more f h m vs [] c line n k = refl
no_more f h m vs (t ∷ rest) c line n k = run_no_more line n f k vs t rest ((at_other f h vs t.lexeme c).refused m)

again : (N : Inner) → IsOpened N → (f : Form) → fits f ≡ true → may_skip f ≡ false → (xs : List Token) (vs us : List Value) → Spells N f xs vs us → (rest : List Token) (line n : ℕ) (k : List Form) → run (inside line n (many f ∷ k) vs) (xs ++ rest) ≡ run (inside line n (f ∷ many f ∷ k) vs) (xs ++ rest)
again N o f h m [] vs us s rest line n k = absurd (false_and_true (may_skip f) m (left_out N o f vs us s))
again N o f h m (t ∷ xs) vs us s rest line n k =
    let p = at_start f h vs t.lexeme (begins N o f h t xs vs us s) in
    run_again line n f k p.next vs p.values t (xs ++ rest) p.taking

-- one turn or more begins as the form does
begins_turn : (N : Inner) → IsOpened N → (f : Form) → fits f ≡ true → may_skip f ≡ false → (j : ℕ) (y : Token) (ys : List Token) (vs us : List Value) → Times (Spells N f) j (y ∷ ys) vs us → among (starts f) y.lexeme ≡ true
begins_turn N o f h m zero y ys vs us s = let e = s.0 in cc
begins_turn N o f h m (suc j) y ys vs us ([], zs, ws, e, s, s') = absurd (false_and_true (may_skip f) m (left_out N o f vs ws s))
begins_turn N o f h m (suc j) y ys vs us (x ∷ xs, zs, ws, e, s, s') = subst (λ v. among (starts f) v.lexeme ≡ true) (sym (same_head y x ys (xs ++ zs) e)) (begins N o f h x xs vs ws s)

times_read : (N : Inner) → IsOpened N → (f : Form) → fits f ≡ true → may_skip f ≡ false → apart (goes_on f) (starts f) ≡ true → IsRead N f → (j : ℕ) (ts : List Token) (vs us : List Value) → Times (Spells N f) j ts vs us → (rest : List Token) → Calm (starts f ++ goes_on f) rest → (line n : ℕ) (k : List Form) → Upto (run (inside line n (many f ∷ k) vs) (ts ++ rest)) (run (inside line (opened n ts) k us) rest)
times_read N o f h m a p zero ts vs us s rest c line n k =
    subst (λ l. Goal (many f) line n k vs us rest l) (sym s.0) (subst (λ u. Goal (many f) line n k vs u rest []) (sym s.1) (inl (no_more f h m vs rest (calm_left (starts f) (goes_on f) rest c) line n k)))
times_read N o f h m a p (suc j) ts vs us (xs, ys, ws, e, s, s') rest c line n k =
    let one = p xs vs ws s (ys ++ rest) (calm_turn j ys ws us s' rest c) line n (many f ∷ k) in
    let two = times_read N o f h m a p j ys ws us s' rest c line (opened n xs) k in
    let start : run (inside line n (many f ∷ k) vs) ((xs ++ ys) ++ rest) ≡ run (inside line n (f ∷ many f ∷ k) vs) (xs ++ (ys ++ rest)) = ap (run (inside line n (many f ∷ k) vs)) (append_assoc xs ys rest) ∙ again N o f h m xs vs ws s (ys ++ rest) line n k in
    let all = equal_then _ _ _ start (upto_then _ _ _ one two) in
    subst (λ l. Goal (many f) line n k vs us rest l) (sym e) (subst (λ d. Upto (run (inside line n (many f ∷ k) vs) ((xs ++ ys) ++ rest)) (run (inside line d k us) rest)) (sym (opened_append n xs ys)) all)
  where
    other : (y : Token) → among (starts f) y.lexeme ≡ true → (among (goes_on f) y.lexeme ≡ true) ⊎ (among (goes_on f) y.lexeme ≡ false) → among (goes_on f) y.lexeme ≡ false
    other y b (inl e) = absurd (false_and_true (among (starts f) y.lexeme) (apart_among (goes_on f) (starts f) y.lexeme a e) b)
    other y b (inr e) = e

    calm_turn : (j : ℕ) (ys : List Token) (vs us : List Value) → Times (Spells N f) j ys vs us → (rest : List Token) → Calm (starts f ++ goes_on f) rest → Calm (goes_on f) (ys ++ rest)
    calm_turn j [] vs us s rest c = calm_right (starts f) (goes_on f) rest c
    calm_turn j (y ∷ ys) vs us s rest c = other y (begins_turn N o f h m j y ys vs us s) (cases_Bool (among (goes_on f) y.lexeme))

-- each form that fits is read, where expressions in parentheses are
pub all_read : (N : Inner) → IsOpened N → IsRead N parenthesised → (f : Form) → fits f ≡ true → IsRead N f
all_read N o i (takes s) h = takes_read N s
all_read N o i (does a) h = λ ts vs us s rest c line n k. subst (λ l. Goal (does a) line n k vs us rest l) (sym s.0) (subst (λ u. Goal (does a) line n k vs u rest []) (sym s.1) (inl (run_does line n a k vs rest)))
all_read N o i (and_then f g) h =
    let p = all_read N o i f (both_left (fits f) _ h) in
    let q = all_read N o i g (both_left (fits g) _ (both_right (fits f) _ h)) in
    then_read N o f g (both_left (fits g) _ (both_right (fits f) _ h)) (both_right (fits g) _ (both_right (fits f) _ h)) p q
all_read N o i (either f g) h =
    let p = all_read N o i f (both_left (fits f) _ h) in
    let q = all_read N o i g (both_left (fits g) _ (both_right (fits f) _ h)) in
    let r = both_right (fits g) _ (both_right (fits f) _ h) in
    either_read N o f g (both_left (fits f) _ h) (both_left (fits g) _ (both_right (fits f) _ h)) (not-true (may_skip f) (both_left (not (may_skip f)) _ r)) (both_right (not (may_skip f)) _ r) p q
all_read N o i (many f) h =
    let r = both_right (fits f) _ h in
    let p = all_read N o i f (both_left (fits f) _ h) in
    λ ts vs us s rest c line n k. times_read N o f (both_left (fits f) _ h) (not-true (may_skip f) (both_left (not (may_skip f)) _ r)) (both_right (not (may_skip f)) _ r) p s.0 ts vs us s.1 rest c line n k
all_read N o i parenthesised h = i

-- expressions in parentheses are read, however deep
pub is_opened : (d : ℕ) → IsOpened (Parenthesised d)
is_opened zero ts vs us s = absurd s
is_opened (suc d) ts vs us (xs, ys, ws, e, (t, i, f, w), b) = (t, ys, e ∙ ap (λ l. l ++ ys) f, i)

pub parentheses_fit : fits in_parentheses ≡ true
unfolding after_open expr term factor minus_expr more_terms more_factors
parentheses_fit = refl

pub parentheses_end : goes_on in_parentheses ≡ []
unfolding after_open expr term factor minus_expr more_terms more_factors
parentheses_end = refl

calm_at_all : (ss : List Sort) (ts : List Token) → ss ≡ [] → Calm ss ts
calm_at_all ss [] e = tt
calm_at_all ss (t ∷ ts) e = ap (λ x. among x t.lexeme) e

pub parenthesised_read : (d : ℕ) → IsRead (Parenthesised d) parenthesised
parenthesised_read zero ts vs us s rest c line n k = absurd s
parenthesised_read (suc d) ts vs us s rest c line n k =
    equal_then _ _ _ (run_parenthesised line n k vs (ts ++ rest)) (all_read (Parenthesised d) (is_opened d) (parenthesised_read d) in_parentheses parentheses_fit ts vs us s rest (calm_at_all (goes_on in_parentheses) rest parentheses_end) line n k)

pub form_read : (d : ℕ) (f : Form) → fits f ≡ true → IsRead (Parenthesised d) f
form_read d f h = all_read (Parenthesised d) (is_opened d) (parenthesised_read d) f h
