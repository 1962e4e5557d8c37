-- A 33rd parenthesis that a form allows stops the reading there, and what has none is read to its end.
use Rattle.std.proofs.Common.{◌≡◌, ◌≤◌, ◌+◌, ◌∙◌, ◌⊎◌, inl, inr, ap, sym, refl, subst, ℕ, suc, ◌==◌, eqb-true, Bool, true, false, List, [], ◌∷◌, ◌++◌, length, length-append, append_assoc, append-nil, arith}
use Rattle.dn_token.specs.declared.token.Sign.TheVariants.{Semicolon, OpenParenthesis}
use Rattle.dn_token.specs.Token.{Lexeme, Token, sign}
use Rattle.dn_parse.specs.Tree.{Placed}
use Rattle.dn_parse.specs.Actions.{Value}
use Rattle.dn_parse.specs.Forms.{Form, is_sign}
use Rattle.dn_parse.specs.Syntax.{statement_form, SpellsText, Viable}
use Rattle.dn_parse.specs.Machine.{Fed, on, over, stuck, feed, Stop, whole, refused, deep, ReadingPlace, between, inside, run, go, go_in, is_deep, parentheses}
use Rattle.dn_parse.specs.Laws.{IsDeep, IsShallowText, open_parentheses}
use Rattle.dn_parse.proofs.Counted.{opened, counts_agree}
use Rattle.dn_parse.proofs.Taken.{Deep, SaysAll, says_all, deep_is_closed}
use Rattle.dn_parse.proofs.Sets.{both_left, both_right, sign_is}
use Rattle.dn_parse.proofs.Reach.{count}
use Rattle.dn_parse.proofs.Final.{Within, within, final, deep_is_first}
use Rattle.dn_parse.proofs.Whole.{spelled_is_read}

-- the reading stops with at least so many tokens left
abbrev IsBefore : ℕ → Stop → Type 0
IsBefore n whole = ⊥
IsBefore n (refused m) = n ≤ m
IsBefore n (deep m) = n ≤ m

-- after a token the place has the parentheses that the token leaves open
over_none : (t : Token) (n : ℕ) → is_sign Semicolon t.lexeme ≡ true → 0 ≡ parentheses n t.lexeme
over_none t n e = ap (parentheses n) (sym (sign_is Semicolon t.lexeme e))

-- a parenthesis ends no statement
not_both : (l : Lexeme) → l ≡ sign OpenParenthesis → is_sign Semicolon l ≡ true → ⊥
not_both l o e = let f = rw o at e in cc

-- with 32 open before it no form is given a parenthesis
pub is_deep_there : (n : ℕ) (l : Lexeme) → l ≡ sign OpenParenthesis → n ≡ 32 → is_deep n l ≡ true
is_deep_there n l o e = rw (o, e) refl

passed_here : (line n : ℕ) (k : List Form) (vs : List Value) (t : Token) (rest : List Token) (d : Fed) → SaysAll Deep k vs t d → t.lexeme ≡ sign OpenParenthesis → n ≡ 32 → IsBefore (suc (length rest)) (go d line n t.lexeme (suc (length rest)) (λ q. run q rest)).stop
passed_here line n k vs t rest (on k' ws) h o e = at_deep (is_deep n t.lexeme) (is_deep_there n t.lexeme o e)
  where
    at_deep : (b : Bool) → b ≡ true → IsBefore (suc (length rest)) (go_in b (inside line (parentheses n t.lexeme) k' ws) (suc (length rest)) (λ q. run q rest)).stop
    at_deep true f = omega arith
    at_deep false f = cc
passed_here line n k vs t rest (over ws) h o e = absurd (not_both t.lexeme o h.1)
passed_here line n k vs t rest stuck h o e = omega arith

-- a place that stops before so many tokens are left stops early
front_longer : (front : List Token) (t : Token) (rest : List Token) → suc (length rest) ≤ suc (length (front ++ t ∷ rest))
front_longer front t rest = omega (arith, length-append front (t ∷ rest))

passed_in : (b : Bool) (p : ReadingPlace) (front : List Token) (t : Token) (rest : List Token) → IsBefore (suc (length rest)) (run p (front ++ t ∷ rest)).stop → IsBefore (suc (length rest)) (go_in b p (suc (length (front ++ t ∷ rest))) (λ q. run q (front ++ t ∷ rest))).stop
passed_in true p front t rest h = front_longer front t rest
passed_in false p front t rest h = h

passed_go : (line n : ℕ) (k : List Form) (vs : List Value) (u : Token) (front : List Token) (t : Token) (rest : List Token) (d : Fed) → SaysAll Deep k vs u d → opened (parentheses n u.lexeme) front ≡ 32 → ((q : ReadingPlace) → opened (count q) front ≡ 32 → IsBefore (suc (length rest)) (run q (front ++ t ∷ rest)).stop) → IsBefore (suc (length rest)) (go d line n u.lexeme (suc (length (front ++ t ∷ rest))) (λ q. run q (front ++ t ∷ rest))).stop
passed_go line n k vs u front t rest (on k' ws) h c r = passed_in (is_deep n u.lexeme) (inside line (parentheses n u.lexeme) k' ws) front t rest (r (inside line (parentheses n u.lexeme) k' ws) c)
passed_go line n k vs u front t rest (over ws) h c r = r between (ap (λ (j : ℕ). opened j front) (over_none u n h.1) ∙ c)
passed_go line n k vs u front t rest stuck h c r = front_longer front t rest

-- the reading goes past no parenthesis before which 32 are open
passed : (front : List Token) (t : Token) (rest : List Token) → t.lexeme ≡ sign OpenParenthesis → (p : ReadingPlace) → opened (count p) front ≡ 32 → IsBefore (suc (length rest)) (run p (front ++ t ∷ rest)).stop
passed [] t rest o between c = absurd (omega arith)
passed [] t rest o (inside line n k vs) c = passed_here line n k vs t rest (feed k vs t.lexeme) (says_all Deep deep_is_closed k vs t) o c
passed (u ∷ front) t rest o between c = passed_go u.line 0 (statement_form ∷ []) [] u front t rest (feed (statement_form ∷ []) [] u.lexeme) (says_all Deep deep_is_closed (statement_form ∷ []) [] u) c (passed front t rest o)
passed (u ∷ front) t rest o (inside line n k vs) c = passed_go line n k vs u front t rest (feed k vs u.lexeme) (says_all Deep deep_is_closed k vs u) c (passed front t rest o)

-- a nesting is met with at most so many tokens left
abbrev IsLate : ℕ → Stop → Type 0
IsLate n whole = Unit {0}
IsLate n (refused m) = Unit {0}
IsLate n (deep m) = m ≤ n

late_within : (s : Stop) (n : ℕ) → Within s n → IsLate n s
late_within whole n h = tt
late_within (refused m) n h = tt
late_within (deep m) n h = h

-- with so many parentheses open before it, no place of a list has more than 32
abbrev IsShallowFrom : ℕ → List Token → Type 0
IsShallowFrom n ts = (front rest : List Token) → ts ≡ front ++ rest → opened n front ≤ 32

shallow_after : (n : ℕ) (t : Token) (ts : List Token) → IsShallowFrom n (t ∷ ts) → IsShallowFrom (parentheses n t.lexeme) ts
shallow_after n t ts h = λ front rest e. h (t ∷ front) rest (ap (λ (j : List Token). t ∷ j) e)

one_more_open : (n : ℕ) (l : Lexeme) → l ≡ sign OpenParenthesis → parentheses n l ≡ n + 1
one_more_open n l o = rw o refl

-- no parenthesis there is nested too deep
not_deep : (n : ℕ) (l : Lexeme) → is_deep n l ≡ true → parentheses n l ≤ 32 → ⊥
not_deep n l e h =
    let o = sign_is OpenParenthesis l (both_left (is_sign OpenParenthesis l) (n == 32) e) in
    let full : n ≡ 32 = eqb-true n 32 (both_right (is_sign OpenParenthesis l) (n == 32) e) in
    let more = one_more_open n l o in
    omega arith

late_in : (n : ℕ) (l : Lexeme) (b : Bool) → is_deep n l ≡ b → parentheses n l ≤ 32 → (p : ReadingPlace) (left m : ℕ) (ts : List Token) → IsLate m (run p ts).stop → IsLate m (go_in b p left (λ q. run q ts)).stop
late_in n l true e h p left m ts r = absurd (not_deep n l e h)
late_in n l false e h p left m ts r = r

late_go : (line n : ℕ) (k : List Form) (vs : List Value) (t : Token) (front xs : List Token) (d : Fed) → SaysAll Deep k vs t d → IsShallowFrom n (t ∷ front) → ((q : ReadingPlace) → IsShallowFrom (count q) front → IsLate (length xs) (run q (front ++ xs)).stop) → IsLate (length xs) (go d line n t.lexeme (suc (length (front ++ xs))) (λ q. run q (front ++ xs))).stop
late_go line n k vs t front xs (on k' ws) h s r =
    let p : ReadingPlace = inside line (parentheses n t.lexeme) k' ws in
    late_in n t.lexeme (is_deep n t.lexeme) refl (s (t ∷ []) front refl) p (suc (length (front ++ xs))) (length xs) (front ++ xs) (r p (shallow_after n t front s))
late_go line n k vs t front xs (over ws) h s r = r between (subst (λ (j : ℕ). IsShallowFrom j front) (sym (over_none t n h.1)) (shallow_after n t front s))
late_go line n k vs t front xs stuck h s r = tt

-- behind a list with at most 32 parentheses open stands the first nesting
late : (front xs : List Token) (p : ReadingPlace) → IsShallowFrom (count p) front → IsLate (length xs) (run p (front ++ xs)).stop
late [] xs p s = late_within (run p xs).stop (length xs) (within xs p)
late (t ∷ front) xs between s = late_go t.line 0 (statement_form ∷ []) [] t front xs (feed (statement_form ∷ []) [] t.lexeme) (says_all Deep deep_is_closed (statement_form ∷ []) [] t) s (late front xs)
late (t ∷ front) xs (inside line n k vs) s = late_go line n k vs t front xs (feed k vs t.lexeme) (says_all Deep deep_is_closed k vs t) s (late front xs)

deep_exactly : (s : Stop) (n : ℕ) (A : Type 0) → ((s ≡ whole) × A) ⊎ IsDeep s → IsBefore n s → IsLate n s → s ≡ deep n
deep_exactly whole n A r b l = absurd b
deep_exactly (refused m) n A (inl r) b l = let e = r.0 in cc
deep_exactly (refused m) n A (inr d) b l = absurd d
deep_exactly (deep m) n A r b l = let same : m ≡ n = omega arith in ap deep same

-- the front of a spelling that is shallow by the laws' count is so by the machine's
shallow_from : (xs ys : List Token) (ss : List Placed) → SpellsText (xs ++ ys) ss → IsShallowText xs → IsShallowFrom 0 xs
shallow_from xs ys ss spelled s = λ front rest e.
    let all : xs ++ ys ≡ front ++ (rest ++ ys) = ap (λ (j : List Token). j ++ ys) e ∙ append_assoc front rest ys in
    subst (λ (m : ℕ). m ≤ 32) (sym (counts_agree front (rest ++ ys) ss (subst (λ (j : List Token). SpellsText j ss) all spelled))) (s front rest e)

pub deep_stops : (front : List Token) (t : Token) (rest : List Token) → IsShallowText front → Viable (front ++ t ∷ []) → t.lexeme ≡ sign OpenParenthesis → open_parentheses front ≡ 32 → (run between (front ++ t ∷ rest)).stop ≡ deep (suc (length rest))
deep_stops front t rest s (more, ss, spelled) o c =
    let all : (front ++ t ∷ []) ++ more ≡ front ++ t ∷ more = append_assoc front (t ∷ []) more in
    let whole_list = subst (λ (j : List Token). SpellsText j ss) all spelled in
    let read = spelled_is_read (front ++ t ∷ more) ss whole_list in
    let full = counts_agree front (t ∷ more) ss whole_list ∙ c in
    let here = deep_exactly (run between (front ++ t ∷ more)).stop (suc (length more)) _ read (passed front t more o between full) (late front (t ∷ more) between (shallow_from front (t ∷ more) ss whole_list s)) in
    (final front t more rest between).nesting here

no_nesting : (s : Stop) (A : Type 0) → ((s ≡ whole) × A) ⊎ IsDeep s → IsLate 0 s → ((n : ℕ) → s ≡ deep n → 1 ≤ n) → (s ≡ whole) × A
no_nesting s A (inl r) l h = r
no_nesting whole A (inr d) l h = absurd d
no_nesting (refused n) A (inr d) l h = absurd d
no_nesting (deep n) A (inr d) l h = let least = h n refl in absurd (omega arith)

pub shallow_is_read : (ts : List Token) (ss : List Placed) → SpellsText ts ss → IsShallowText ts → ((run between ts).stop ≡ whole) × ((run between ts).statements ≡ ss)
shallow_is_read ts ss spelled s = no_nesting (run between ts).stop _ (spelled_is_read ts ss spelled) (subst (λ (j : List Token). IsLate 0 (run between j).stop) (append-nil ts) (late ts [] between (shallow_from ts [] ss (subst (λ (j : List Token). SpellsText j ss) (sym (append-nil ts)) spelled) s))) some_left
  where
    some_left : (n : ℕ) → (run between ts).stop ≡ deep n → 1 ≤ n
    some_left n e = let d = deep_is_first ts n e in let left = d.4 in omega (arith, left)
