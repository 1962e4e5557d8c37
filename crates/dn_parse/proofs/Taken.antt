-- What the machine takes is a spelling of the forms that it took it by.
use Rattle.std.proofs.Common.{◌≡◌, ◌∙◌, inl, inr, ap, sym, refl, subst, ℕ, zero, suc, ◌+◌, Bool, true, false, List, [], ◌∷◌, ◌++◌, append_assoc, append-nil, arith}
use Rattle.dn_token.specs.declared.token.Sign.TheVariants.{Semicolon, OpenParenthesis}
use Rattle.dn_token.specs.Token.{Token}
use Rattle.dn_parse.specs.Actions.{Value}
use Rattle.dn_parse.specs.Forms.{Form, takes, does, and_then, either, many, parenthesised, Sort, is, is_sign, values_with_token, Times, Spells}
use Rattle.dn_parse.specs.Syntax.{after_open, in_parentheses, Parenthesised}
use Rattle.dn_parse.specs.Machine.{Move, to, skips, refuses, move_of_token, move_and_then, move_or_else, move_again, move, Fed, on, over, stuck, fed_at_end, fed_by_move, feed}

-- what an expression in parentheses is
abbrev pub Inner : Type 1
Inner = List Token → List Value → List Value → Type 0

-- forms one after another
abbrev pub SpellsAll : Inner → List Form → List Token → List Value → List Value → Type 0
SpellsAll N [] ts vs us = (ts ≡ []) × (us ≡ vs)
SpellsAll N (f ∷ k) ts vs us = (xs : List Token) × (ys : List Token) × (ws : List Value) × (ts ≡ xs ++ ys) × Spells N f xs vs ws × SpellsAll N k ys ws us

-- one more form at the end
pub last_spelled : (N : Inner) (k : List Form) (g : Form) (ts : List Token) (vs us : List Value) → SpellsAll N (k ++ g ∷ []) ts vs us → (xs : List Token) × (ys : List Token) × (ws : List Value) × (ts ≡ xs ++ ys) × SpellsAll N k xs vs ws × Spells N g ys ws us
last_spelled N [] g ts vs us (xs, ys, ws, e, s, (e', w)) = ([], ts, vs, refl, (refl, refl), subst (λ u. Spells N g ts vs u) (sym w) (subst (λ l. Spells N g l vs ws) (sym (e ∙ ap (λ l. xs ++ l) e' ∙ append-nil xs)) s))
last_spelled N (f ∷ k) g ts vs us (xs, ys, ws, e, s, m) =
    let r = last_spelled N k g ys ws us m in
    (xs ++ r.0, r.1, r.2, e ∙ ap (λ l. xs ++ l) r.3 ∙ sym (append_assoc xs r.0 r.1), (xs, r.0, ws, refl, s, r.4), r.5)

-- forms before others
pub front_spelled : (N : Inner) (j k : List Form) (ts : List Token) (vs us : List Value) → SpellsAll N (j ++ k) ts vs us → (xs : List Token) × (ys : List Token) × (ws : List Value) × (ts ≡ xs ++ ys) × SpellsAll N j xs vs ws × SpellsAll N k ys ws us
front_spelled N [] k ts vs us s = ([], ts, vs, refl, (refl, refl), s)
front_spelled N (f ∷ j) k ts vs us (xs, ys, ws, e, s, m) =
    let r = front_spelled N j k ys ws us m in
    (xs ++ r.0, r.1, r.2, e ∙ ap (λ l. xs ++ l) r.3 ∙ sym (append_assoc xs r.0 r.1), (xs, r.0, ws, refl, s, r.4), r.5)

-- what a move says of a form at a token
abbrev Says : Inner → Form → List Value → Token → Move → Type 0
Says N f vs t (to k ws) = (ts : List Token) (us : List Value) → SpellsAll N k ts ws us → Spells N f (t ∷ ts) vs us
Says N f vs t (skips ws) = Spells N f [] vs ws
Says N f vs t refuses = Unit {0}

takes_says : (N : Inner) (s : Sort) (vs : List Value) (t : Token) (b : Bool) → is s t.lexeme ≡ b → Says N (takes s) vs t (move_of_token b [] (values_with_token s t.lexeme vs))
takes_says N s vs t true e = λ ts us h. (t, e, ap (λ l. t ∷ l) h.0, h.1)
takes_says N s vs t false e = tt

then_says : (N : Inner) (f g : Form) (vs ws : List Value) (t : Token) (m : Move) → Spells N f [] vs ws → Says N g ws t m → Says N (and_then f g) vs t m
then_says N f g vs ws t (to k xs) s h = λ ts us a. ([], t ∷ ts, ws, refl, s, h ts us a)
then_says N f g vs ws t (skips xs) s h = ([], [], ws, refl, s, h)
then_says N f g vs ws t refuses s h = tt

followed_says : (N : Inner) (f g : Form) (vs : List Value) (t : Token) (m : Move) → Says N f vs t m → ((ws : List Value) → Says N g ws t (move g ws t.lexeme)) → Says N (and_then f g) vs t (move_and_then m g (λ ws. move g ws t.lexeme))
followed_says N f g vs t (to k ws) h n = λ ts us a. let r = last_spelled N k g ts ws us a in (t ∷ r.0, r.1, r.2, ap (λ l. t ∷ l) r.3, h r.0 r.2 r.4, r.5)
followed_says N f g vs t (skips ws) h n = then_says N f g vs ws t (move g ws t.lexeme) h (n ws)
followed_says N f g vs t refuses h n = tt

second_says : (N : Inner) (f g : Form) (vs : List Value) (t : Token) (m : Move) → Says N g vs t m → Says N (either f g) vs t m
second_says N f g vs t (to k ws) h = λ ts us a. inr (h ts us a)
second_says N f g vs t (skips ws) h = inr h
second_says N f g vs t refuses h = tt

either_says : (N : Inner) (f g : Form) (vs : List Value) (t : Token) (m : Move) → Says N f vs t m → Says N g vs t (move g vs t.lexeme) → Says N (either f g) vs t (move_or_else m (move g vs t.lexeme))
either_says N f g vs t (to k ws) h n = λ ts us a. inl (h ts us a)
either_says N f g vs t (skips ws) h n = inl h
either_says N f g vs t refuses h n = second_says N f g vs t (move g vs t.lexeme) n

many_says : (N : Inner) (f : Form) (vs : List Value) (t : Token) (m : Move) → Says N f vs t m → Says N (many f) vs t (move_again m (many f) vs)
many_says N f vs t (to k ws) h = λ ts us a.
    let r = last_spelled N k (many f) ts ws us a in
    (suc r.5.0, (t ∷ r.0, r.1, r.2, ap (λ l. t ∷ l) r.3, h r.0 r.2 r.4, r.5.1))
many_says N f vs t (skips ws) h = (zero, (refl, refl))
many_says N f vs t refuses h = (zero, (refl, refl))

-- an inner spelling is one in parentheses
abbrev pub IsClosed : Inner → Type 0
IsClosed N = (ts : List Token) (vs us : List Value) → Spells N in_parentheses ts vs us → N ts vs us

parenthesised_says : (N : Inner) → IsClosed N → (vs : List Value) (t : Token) (b : Bool) → is_sign OpenParenthesis t.lexeme ≡ b → Says N parenthesised vs t (move_of_token b (after_open ∷ []) vs)
parenthesised_says N c vs t true e = λ ts us (xs, ys, ws, a, s, (n, w)).
    c (t ∷ ts) vs us (t ∷ [], ts, vs, refl, (t, e, refl, refl), subst (λ u. Spells N after_open ts vs u) (sym w) (subst (λ l. Spells N after_open l vs ws) (sym (a ∙ ap (λ l. xs ++ l) n ∙ append-nil xs)) s))
parenthesised_says N c vs t false e = tt

pub says : (N : Inner) → IsClosed N → (f : Form) (vs : List Value) (t : Token) → Says N f vs t (move f vs t.lexeme)
says N c (takes s) vs t = takes_says N s vs t (is s t.lexeme) refl
says N c (does a) vs t = (refl, refl)
says N c (and_then f g) vs t = followed_says N f g vs t (move f vs t.lexeme) (says N c f vs t) (λ ws. says N c g ws t)
says N c (either f g) vs t = either_says N f g vs t (move f vs t.lexeme) (says N c f vs t) (says N c g vs t)
says N c (many f) vs t = many_says N f vs t (move f vs t.lexeme) (says N c f vs t)
says N c parenthesised vs t = parenthesised_says N c vs t (is_sign OpenParenthesis t.lexeme) refl

-- the same of several forms
abbrev pub SaysAll : Inner → List Form → List Value → Token → Fed → Type 0
SaysAll N k vs t (on k' ws) = (ts : List Token) (us : List Value) → SpellsAll N k' ts ws us → SpellsAll N k (t ∷ ts) vs us
SaysAll N k vs t (over ws) = SpellsAll N k [] vs ws × (is_sign Semicolon t.lexeme ≡ true)
SaysAll N k vs t stuck = Unit {0}

closed_says : (N : Inner) (vs : List Value) (t : Token) (b : Bool) → is_sign Semicolon t.lexeme ≡ b → SaysAll N [] vs t (fed_at_end b vs)
closed_says N vs t true e = ((refl, refl), e)
closed_says N vs t false e = tt

skipped_says : (N : Inner) (f : Form) (k : List Form) (vs ws : List Value) (t : Token) (d : Fed) → Spells N f [] vs ws → SaysAll N k ws t d → SaysAll N (f ∷ k) vs t d
skipped_says N f k vs ws t (on k' xs) s h = λ ts us a. ([], t ∷ ts, ws, refl, s, h ts us a)
skipped_says N f k vs ws t (over xs) s h = (([], [], ws, refl, s, h.0), h.1)
skipped_says N f k vs ws t stuck s h = tt

fed_says : (N : Inner) (f : Form) (k : List Form) (vs : List Value) (t : Token) (m : Move) → Says N f vs t m → ((ws : List Value) → SaysAll N k ws t (feed k ws t.lexeme)) → SaysAll N (f ∷ k) vs t (fed_by_move m k (λ ws. feed k ws t.lexeme))
fed_says N f k vs t (to k' ws) h n = λ ts us a. let r = front_spelled N k' k ts ws us a in (t ∷ r.0, r.1, r.2, ap (λ l. t ∷ l) r.3, h r.0 r.2 r.4, r.5)
fed_says N f k vs t (skips ws) h n = skipped_says N f k vs ws t (feed k ws t.lexeme) h (n ws)
fed_says N f k vs t refuses h n = tt

pub says_all : (N : Inner) → IsClosed N → (k : List Form) (vs : List Value) (t : Token) → SaysAll N k vs t (feed k vs t.lexeme)
says_all N c [] vs t = closed_says N vs t (is_sign Semicolon t.lexeme) refl
says_all N c (f ∷ k) vs t = fed_says N f k vs t (move f vs t.lexeme) (says N c f vs t) (λ ws. says_all N c k ws t)

-- with parentheses as deep as may be
abbrev pub Deep : Inner
Deep ts vs us = (d : ℕ) × Parenthesised d ts vs us

times_more : (S T : Inner) → ((ts : List Token) (vs us : List Value) → S ts vs us → T ts vs us) → (n : ℕ) (ts : List Token) (vs us : List Value) → Times S n ts vs us → Times T n ts vs us
times_more S T h zero ts vs us s = s
times_more S T h (suc n) ts vs us (xs, ys, ws, e, a, b) = (xs, ys, ws, e, h xs vs ws a, times_more S T h n ys ws us b)

-- what is spelled with less is spelled with more
pub spelled_more : (M N : Inner) → ((ts : List Token) (vs us : List Value) → M ts vs us → N ts vs us) → (f : Form) (ts : List Token) (vs us : List Value) → Spells M f ts vs us → Spells N f ts vs us
spelled_more M N h (takes s) ts vs us a = a
spelled_more M N h (does x) ts vs us a = a
spelled_more M N h (and_then f g) ts vs us (xs, ys, ws, e, a, b) = (xs, ys, ws, e, spelled_more M N h f xs vs ws a, spelled_more M N h g ys ws us b)
spelled_more M N h (either f g) ts vs us (inl a) = inl (spelled_more M N h f ts vs us a)
spelled_more M N h (either f g) ts vs us (inr a) = inr (spelled_more M N h g ts vs us a)
spelled_more M N h (many f) ts vs us (n, a) = (n, times_more (Spells M f) (Spells N f) (spelled_more M N h f) n ts vs us a)
spelled_more M N h parenthesised ts vs us a = h ts vs us a

one_deeper : (d : ℕ) (ts : List Token) (vs us : List Value) → Parenthesised d ts vs us → Parenthesised (suc d) ts vs us
one_deeper zero ts vs us a = absurd a
one_deeper (suc d) ts vs us a = spelled_more (Parenthesised d) (Parenthesised (suc d)) (one_deeper d) in_parentheses ts vs us a

pub deeper : (d j : ℕ) (f : Form) (ts : List Token) (vs us : List Value) → Spells (Parenthesised d) f ts vs us → Spells (Parenthesised (d + j)) f ts vs us
deeper d zero f ts vs us a = let e : d ≡ d + 0 = omega arith in subst (λ n. Spells (Parenthesised n) f ts vs us) e a
deeper d (suc j) f ts vs us a =
    let e : suc (d + j) ≡ d + suc j = omega arith in
    subst (λ n. Spells (Parenthesised n) f ts vs us) e (spelled_more (Parenthesised (d + j)) (Parenthesised (suc (d + j))) (one_deeper (d + j)) f ts vs us (deeper d j f ts vs us a))

-- a spelling of any depth has a depth
abbrev Bounded : Form → List Token → List Value → List Value → Type 0
Bounded f ts vs us = (d : ℕ) × Spells (Parenthesised d) f ts vs us

times_bounded : (f : Form) → ((ts : List Token) (vs us : List Value) → Spells Deep f ts vs us → Bounded f ts vs us) → (n : ℕ) (ts : List Token) (vs us : List Value) → Times (Spells Deep f) n ts vs us → (d : ℕ) × Times (Spells (Parenthesised d) f) n ts vs us
times_bounded f h zero ts vs us a = (0, a)
times_bounded f h (suc n) ts vs us (xs, ys, ws, e, a, b) =
    let p = h xs vs ws a in
    let q = times_bounded f h n ys ws us b in
    let swap : q.0 + p.0 ≡ p.0 + q.0 = omega arith in
    (p.0 + q.0, (xs, ys, ws, e, deeper p.0 q.0 f xs vs ws p.1, subst (λ d. Times (Spells (Parenthesised d) f) n ys ws us) swap (times_more (Spells (Parenthesised q.0) f) (Spells (Parenthesised (q.0 + p.0)) f) (deeper q.0 p.0 f) n ys ws us q.1)))

pub bounded : (f : Form) (ts : List Token) (vs us : List Value) → Spells Deep f ts vs us → Bounded f ts vs us
bounded (takes s) ts vs us a = (0, a)
bounded (does x) ts vs us a = (0, a)
bounded (and_then f g) ts vs us (xs, ys, ws, e, a, b) =
    let p = bounded f xs vs ws a in
    let q = bounded g ys ws us b in
    let swap : q.0 + p.0 ≡ p.0 + q.0 = omega arith in
    (p.0 + q.0, (xs, ys, ws, e, deeper p.0 q.0 f xs vs ws p.1, subst (λ d. Spells (Parenthesised d) g ys ws us) swap (deeper q.0 p.0 g ys ws us q.1)))
bounded (either f g) ts vs us (inl a) = let p = bounded f ts vs us a in (p.0, inl p.1)
bounded (either f g) ts vs us (inr a) = let p = bounded g ts vs us a in (p.0, inr p.1)
bounded (many f) ts vs us (n, a) = let p = times_bounded f (bounded f) n ts vs us a in (p.0, (n, p.1))
bounded parenthesised ts vs us (d, a) = (d, a)

pub deep_is_closed : IsClosed Deep
deep_is_closed ts vs us a = let p = bounded in_parentheses ts vs us a in (suc p.0, p.1)
