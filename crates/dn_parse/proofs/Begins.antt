-- How a spelling begins, and what the machine does at that token, and at one with which a form does not begin.
use Rattle.std.proofs.Common.{◌≡◌, ◌∙◌, inl, inr, ap, sym, refl, subst, zero, suc, Bool, true, false, not, ◌&&◌, ◌||◌, List, [], ◌∷◌, ◌++◌}
use Rattle.dn_base.proofs.Booleans.{not-true, cases_Bool, false_and_true, and_from}
use Rattle.dn_token.specs.declared.token.Sign.TheVariants.{OpenParenthesis}
use Rattle.dn_token.specs.Token.{Lexeme, Token}
use Rattle.dn_parse.specs.Actions.{Value}
use Rattle.dn_parse.specs.Forms.{Form, takes, does, and_then, either, many, parenthesised, Sort, is, is_sign, values_with_token, Spells}
use Rattle.dn_parse.specs.Syntax.{after_open}
use Rattle.dn_parse.specs.Machine.{to, skips, refuses, move_of_token, move_and_then, move_or_else, move_again, move}
use Rattle.dn_parse.proofs.Taken.{Inner}
use Rattle.dn_parse.proofs.Sets.{may_skip, given, starts, fits, among, both_left, both_right, neither_left, neither_right, one_left, one_right, one_of_two, among_append, among_left, among_right, among_first, among_second, skipped, IsOpened}

-- a list that is made of two is empty where both are
nil_left : (xs ys : List Token) → [] ≡ xs ++ ys → xs ≡ []
nil_left [] ys e = refl
nil_left (x ∷ xs) ys e = cc

nil_right : (xs ys : List Token) → [] ≡ xs ++ ys → ys ≡ []
nil_right [] ys e = sym e
nil_right (x ∷ xs) ys e = cc

pub spells_nil : (N : Inner) (f : Form) (xs : List Token) (vs us : List Value) → xs ≡ [] → Spells N f xs vs us → Spells N f [] vs us
spells_nil N f xs vs us e s = subst (λ l. Spells N f l vs us) e s

-- what may not be left out has a token
pub left_out : (N : Inner) → IsOpened N → (f : Form) (vs us : List Value) → Spells N f [] vs us → may_skip f ≡ true
left_out N o (takes s) vs us (t, i, e, k) = cc
left_out N o (does a) vs us s = refl
left_out N o (and_then f g) vs us (xs, ys, ws, e, a, b) = and_from (may_skip f) (may_skip g) (left_out N o f vs ws (spells_nil N f xs vs ws (nil_left xs ys e) a)) (left_out N o g ws us (spells_nil N g ys ws us (nil_right xs ys e) b))
left_out N o (either f g) vs us (inl a) = one_left (may_skip f) (may_skip g) (left_out N o f vs us a)
left_out N o (either f g) vs us (inr b) = one_right (may_skip f) (may_skip g) (left_out N o g vs us b)
left_out N o (many f) vs us s = refl
left_out N o parenthesised vs us s = let r = o [] vs us s in absurd (no_token r.0 r.1 r.2)
  where
    no_token : (t : Token) (xs : List Token) → [] ≡ t ∷ xs → ⊥
    no_token t xs e = cc

pub nothing_made : (N : Inner) → IsOpened N → (f : Form) → fits f ≡ true → (vs us : List Value) → Spells N f [] vs us → us ≡ skipped f vs
nothing_made N o (takes s) h vs us (t, i, e, k) = cc
nothing_made N o (does a) h vs us s = s.1
nothing_made N o (and_then f g) h vs us (xs, ys, ws, e, a, b) =
    let p = nothing_made N o f (both_left (fits f) _ h) vs ws (spells_nil N f xs vs ws (nil_left xs ys e) a) in
    let q = nothing_made N o g (both_left (fits g) _ (both_right (fits f) _ h)) ws us (spells_nil N g ys ws us (nil_right xs ys e) b) in
    q ∙ ap (skipped g) p
nothing_made N o (either f g) h vs us (inl a) =
    absurd (false_and_true (may_skip f) (not-true (may_skip f) (both_left (not (may_skip f)) _ (both_right (fits g) _ (both_right (fits f) _ h)))) (left_out N o f vs us a))
nothing_made N o (either f g) h vs us (inr b) = nothing_made N o g (both_left (fits g) _ (both_right (fits f) _ h)) vs us b
nothing_made N o (many f) h vs us (zero, s) = s.1
nothing_made N o (many f) h vs us (suc n, (xs, ys, ws, e, a, b)) =
    absurd (false_and_true (may_skip f) (not-true (may_skip f) (both_left (not (may_skip f)) _ (both_right (fits f) _ h))) (left_out N o f vs ws (spells_nil N f xs vs ws (nil_left xs ys e) a)))
nothing_made N o parenthesised h vs us s = let r = o [] vs us s in absurd (no_token r.0 r.1 r.2)
  where
    no_token : (t : Token) (xs : List Token) → [] ≡ t ∷ xs → ⊥
    no_token t xs e = cc

-- at a token with which it does not begin, a form is refused or left out
pub record AtOther (f : Form) (vs : List Value) (l : Lexeme) : Type 0 where
  pub refused : may_skip f ≡ false → move f vs l ≡ refuses
  pub skipping : may_skip f ≡ true → move f vs l ≡ skips (skipped f vs)

-- the second form may be met only where the first may be left out
either_way : (a : Bool) (ys : List Sort) (l : Lexeme) → among (given a ys) l ≡ false → a ≡ true → among ys l ≡ false
either_way true ys l e f = e
either_way false ys l e f = cc

and_refused_any : (f g : Form) (vs : List Value) (l : Lexeme) → may_skip f && may_skip g ≡ false → AtOther f vs l → (may_skip f ≡ true → AtOther g (skipped f vs) l) → move_and_then (move f vs l) g (λ ws. move g ws l) ≡ refuses
and_refused_any f g vs l e p q = elim (cases_Bool (may_skip f)) [
  | inl a ↦ elim (cases_Bool (may_skip g)) [
    | inl b ↦ absurd (false_and_true (may_skip f && may_skip g) e (and_from (may_skip f) (may_skip g) a b))
    | inr b ↦ ap (λ m. move_and_then m g (λ ws. move g ws l)) (p.skipping a) ∙ (q a).refused b
  ]
  | inr a ↦ ap (λ m. move_and_then m g (λ ws. move g ws l)) (p.refused a)
]

pub at_other : (f : Form) → fits f ≡ true → (vs : List Value) (l : Lexeme) → among (starts f) l ≡ false → AtOther f vs l
at_other (takes s) h vs l e = record { refused = λ z. ap (λ b. move_of_token b [] (values_with_token s l vs)) (neither_left (is s l) false e); skipping = λ z. cc }
at_other (does a) h vs l e = record { refused = λ z. cc; skipping = λ z. refl }
at_other (and_then f g) h vs l e =
    let p = at_other f (both_left (fits f) _ h) vs l (among_left (starts f) (given (may_skip f) (starts g)) l e) in
    let q : may_skip f ≡ true → AtOther g (skipped f vs) l = λ a. at_other g (both_left (fits g) _ (both_right (fits f) _ h)) (skipped f vs) l (either_way (may_skip f) (starts g) l (among_right (starts f) (given (may_skip f) (starts g)) l e) a) in
    record {
      refused = λ z. and_refused_any f g vs l z p q;
      skipping = λ z. ap (λ m. move_and_then m g (λ ws. move g ws l)) (p.skipping (both_left (may_skip f) (may_skip g) z)) ∙ (q (both_left (may_skip f) (may_skip g) z)).skipping (both_right (may_skip f) (may_skip g) z);
    }
at_other (either f g) h vs l e =
    let p = at_other f (both_left (fits f) _ h) vs l (among_left (starts f) (starts g) l e) in
    let q = at_other g (both_left (fits g) _ (both_right (fits f) _ h)) vs l (among_right (starts f) (starts g) l e) in
    let n : may_skip f ≡ false = not-true (may_skip f) (both_left (not (may_skip f)) _ (both_right (fits g) _ (both_right (fits f) _ h))) in
    record {
      refused = λ z. ap (λ m. move_or_else m (move g vs l)) (p.refused n) ∙ q.refused (neither_right (may_skip f) (may_skip g) z);
      skipping = λ z. ap (λ m. move_or_else m (move g vs l)) (p.refused n) ∙ q.skipping (second (may_skip f) (may_skip g) n z);
    }
  where
    second : (a b : Bool) → a ≡ false → a || b ≡ true → b ≡ true
    second true b x y = cc
    second false b x y = y
at_other (many f) h vs l e =
    let p = at_other f (both_left (fits f) _ h) vs l e in
    let n : may_skip f ≡ false = not-true (may_skip f) (both_left (not (may_skip f)) _ (both_right (fits f) _ h)) in
    record { refused = λ z. cc; skipping = λ z. ap (λ m. move_again m (many f) vs) (p.refused n) }
at_other parenthesised h vs l e = record { refused = λ z. ap (λ b. move_of_token b (after_open ∷ []) vs) (neither_left (is_sign OpenParenthesis l) false e); skipping = λ z. cc }

-- at a token with which it begins, a form takes it
pub record Takes (f : Form) (vs : List Value) (l : Lexeme) : Type 0 where
  pub next : List Form
  pub values : List Value
  pub taking : move f vs l ≡ to next values

first_or_second : (a : Bool) (xs ys : List Sort) (l : Lexeme) → among (xs ++ given a ys) l ≡ true → among xs l ≡ false → (a ≡ true) × (among ys l ≡ true)
first_or_second true xs ys l e f = (
  refl,
  (elim (one_of_two (among xs l) (among ys l) (sym (among_append xs ys l) ∙ e)) [
    | inl a ↦ absurd (false_and_true (among xs l) f a)
    | inr b ↦ b
  ]),
)
first_or_second false xs ys l e f = elim (one_of_two (among xs l) (among [] l) (sym (among_append xs [] l) ∙ e)) [
  | inl a ↦ absurd (false_and_true (among xs l) f a)
  | inr b ↦ cc
]

pub at_start : (f : Form) → fits f ≡ true → (vs : List Value) (l : Lexeme) → among (starts f) l ≡ true → Takes f vs l
at_start (takes s) h vs l e = elim (one_of_two (is s l) false e) [
  | inl a ↦ record { next = []; values = values_with_token s l vs; taking = ap (λ b. move_of_token b [] (values_with_token s l vs)) a }
  | inr b ↦ cc
]
at_start (does a) h vs l e = cc
at_start (and_then f g) h vs l e = elim (cases_Bool (among (starts f) l)) [
  | inl a ↦ let p = at_start f (both_left (fits f) _ h) vs l a in record { next = p.next ++ g ∷ []; values = p.values; taking = ap (λ m. move_and_then m g (λ ws. move g ws l)) p.taking }
  | inr a ↦
      let s = first_or_second (may_skip f) (starts f) (starts g) l e a in
      let p = at_other f (both_left (fits f) _ h) vs l a in
      let q = at_start g (both_left (fits g) _ (both_right (fits f) _ h)) (skipped f vs) l s.1 in
      record { next = q.next; values = q.values; taking = ap (λ m. move_and_then m g (λ ws. move g ws l)) (p.skipping s.0) ∙ q.taking }
]
at_start (either f g) h vs l e = elim (cases_Bool (among (starts f) l)) [
  | inl a ↦ let p = at_start f (both_left (fits f) _ h) vs l a in record { next = p.next; values = p.values; taking = ap (λ m. move_or_else m (move g vs l)) p.taking }
  | inr a ↦
      let n : may_skip f ≡ false = not-true (may_skip f) (both_left (not (may_skip f)) _ (both_right (fits g) _ (both_right (fits f) _ h))) in
      let s = first_or_second true (starts f) (starts g) l e a in
      let p = at_other f (both_left (fits f) _ h) vs l a in
      let q = at_start g (both_left (fits g) _ (both_right (fits f) _ h)) vs l s.1 in
      record { next = q.next; values = q.values; taking = ap (λ m. move_or_else m (move g vs l)) (p.refused n) ∙ q.taking }
]
at_start (many f) h vs l e = let p = at_start f (both_left (fits f) _ h) vs l e in record { next = p.next ++ many f ∷ []; values = p.values; taking = ap (λ m. move_again m (many f) vs) p.taking }
at_start parenthesised h vs l e = elim (one_of_two (is_sign OpenParenthesis l) false e) [
  | inl a ↦ record { next = after_open ∷ []; values = vs; taking = ap (λ b. move_of_token b (after_open ∷ []) vs) a }
  | inr b ↦ cc
]

-- a spelling begins with a token with which its form begins
pub same_head : (t u : Token) (xs ys : List Token) → t ∷ xs ≡ u ∷ ys → t ≡ u
same_head t u xs ys e = cc

given_true : (a : Bool) (ys : List Sort) (l : Lexeme) → a ≡ true → among ys l ≡ true → among (given a ys) l ≡ true
given_true true ys l e f = f
given_true false ys l e f = cc

pub begins : (N : Inner) → IsOpened N → (f : Form) → fits f ≡ true → (t : Token) (ts : List Token) (vs us : List Value) → Spells N f (t ∷ ts) vs us → among (starts f) t.lexeme ≡ true
begins N o (takes s) h t ts vs us (u, i, e, k) = one_left (is s t.lexeme) false (subst (λ v. is s v.lexeme ≡ true) (sym (same_head t u ts [] e)) i)
begins N o (does a) h t ts vs us s = cc
begins N o (and_then f g) h t ts vs us ([], ys, ws, e, a, b) =
    among_second (starts f) (given (may_skip f) (starts g)) t.lexeme (given_true (may_skip f) (starts g) t.lexeme (left_out N o f vs ws a) (begins N o g (both_left (fits g) _ (both_right (fits f) _ h)) t ts ws us (subst (λ l. Spells N g l ws us) (sym e) b)))
begins N o (and_then f g) h t ts vs us (x ∷ xs, ys, ws, e, a, b) =
    among_first (starts f) (given (may_skip f) (starts g)) t.lexeme (subst (λ v. among (starts f) v.lexeme ≡ true) (sym (same_head t x ts (xs ++ ys) e)) (begins N o f (both_left (fits f) _ h) x xs vs ws a))
begins N o (either f g) h t ts vs us (inl a) = among_first (starts f) (starts g) t.lexeme (begins N o f (both_left (fits f) _ h) t ts vs us a)
begins N o (either f g) h t ts vs us (inr b) = among_second (starts f) (starts g) t.lexeme (begins N o g (both_left (fits g) _ (both_right (fits f) _ h)) t ts vs us b)
begins N o (many f) h t ts vs us (zero, s) = let e = s.0 in cc
begins N o (many f) h t ts vs us (suc n, ([], ys, ws, e, a, b)) =
    absurd (false_and_true (may_skip f) (not-true (may_skip f) (both_left (not (may_skip f)) _ (both_right (fits f) _ h))) (left_out N o f vs ws a))
begins N o (many f) h t ts vs us (suc n, (x ∷ xs, ys, ws, e, a, b)) = subst (λ v. among (starts f) v.lexeme ≡ true) (sym (same_head t x ts (xs ++ ys) e)) (begins N o f (both_left (fits f) _ h) x xs vs ws a)
begins N o parenthesised h t ts vs us s = let r = o (t ∷ ts) vs us s in one_left (is_sign OpenParenthesis t.lexeme) false (subst (λ v. is_sign OpenParenthesis v.lexeme ≡ true) (sym (same_head t r.0 ts r.1 r.2)) r.3)
