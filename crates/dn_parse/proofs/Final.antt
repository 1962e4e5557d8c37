-- Where the machine stops it stops whatever follows, and so the place where it stops is the first at which a list is viable no more.
use Rattle.std.proofs.Common.{◌≡◌, ◌≤◌, ◌∙◌, ◌⊎◌, inl, inr, ap, sym, refl, subst, ℕ, suc, Bool, true, false, List, [], ◌∷◌, ◌++◌, length, length-append, append_assoc, append-nil, arith}
use Rattle.dn_token.specs.declared.token.Sign.TheVariants.{OpenParenthesis}
use Rattle.dn_token.specs.Token.{Lexeme, Token, sign}
use Rattle.dn_parse.specs.Tree.{Placed}
use Rattle.dn_parse.specs.Syntax.{statement_form, SpellsText, Viable}
use Rattle.dn_parse.specs.Machine.{Fed, on, over, stuck, feed, Stop, whole, refused, deep, ReadingPlace, between, inside, run, go, go_in, is_deep, parentheses}
use Rattle.dn_parse.specs.Laws.{IsDeep, IsEnded, open_parentheses}
use Rattle.dn_parse.proofs.Counted.{viable_counts}
use Rattle.dn_parse.proofs.Reach.{ReachedAt, reached}
use Rattle.dn_parse.proofs.Whole.{spelled_is_read}

-- a stop is at one of the tokens
abbrev pub Within : Stop → ℕ → Type 0
Within whole m = Unit {0}
Within (refused n) m = n ≤ m
Within (deep n) m = n ≤ m

within_more : (s : Stop) (m : ℕ) → Within s m → Within s (suc m)
within_more whole m h = tt
within_more (refused n) m h = omega arith
within_more (deep n) m h = omega arith

within_go_in : (b : Bool) (p : ReadingPlace) (ts : List Token) → Within (run p ts).stop (length ts) → Within (go_in b p (suc (length ts)) (λ q. run q ts)).stop (suc (length ts))
within_go_in true p ts h = omega arith
within_go_in false p ts h = within_more (run p ts).stop (length ts) h

within_go : (d : Fed) (line n : ℕ) (l : Lexeme) (ts : List Token) → ((p : ReadingPlace) → Within (run p ts).stop (length ts)) → Within (go d line n l (suc (length ts)) (λ q. run q ts)).stop (suc (length ts))
within_go (on k vs) line n l ts h = within_go_in (is_deep n l) (inside line (parentheses n l) k vs) ts (h (inside line (parentheses n l) k vs))
within_go (over vs) line n l ts h = within_more (run between ts).stop (length ts) (h between)
within_go stuck line n l ts h = omega arith

pub within : (ts : List Token) (p : ReadingPlace) → Within (run p ts).stop (length ts)
within [] between = tt
within [] (inside line n k vs) = omega arith
within (t ∷ ts) between = within_go (feed (statement_form ∷ []) [] t.lexeme) t.line 0 t.lexeme ts (within ts)
within (t ∷ ts) (inside line n k vs) = within_go (feed k vs t.lexeme) line n t.lexeme ts (within ts)

refused_within : (s : Stop) (n m : ℕ) → s ≡ refused n → Within s m → n ≤ m
refused_within whole n m e h = cc
refused_within (refused k) n m e h = let same : k ≡ n = cc in omega arith
refused_within (deep k) n m e h = cc

deep_within : (s : Stop) (n m : ℕ) → s ≡ deep n → Within s m → n ≤ m
deep_within whole n m e h = cc
deep_within (refused k) n m e h = cc
deep_within (deep k) n m e h = let same : k ≡ n = cc in omega arith

-- of two stops: where the first is with so many left, so is the second with so many
pub record Final (m m' : ℕ) (s s' : Stop) : Type 0 where
  pub refusal : s ≡ refused (suc m) → s' ≡ refused (suc m')
  pub nesting : s ≡ deep (suc m) → s' ≡ deep (suc m')

final_past : (p q : ReadingPlace) (r r' : List Token) → Final (length r) (length r') (run p r).stop (run q r').stop
final_past p q r r' = record {
  refusal = λ e. let h = refused_within (run p r).stop (suc (length r)) (length r) e (within r p) in absurd (omega arith);
  nesting = λ e. let h = deep_within (run p r).stop (suc (length r)) (length r) e (within r p) in absurd (omega arith);
}

final_in : (b : Bool) (p : ReadingPlace) (r r' : List Token) → Final (length r) (length r') (go_in b p (suc (length r)) (λ q. run q r)).stop (go_in b p (suc (length r')) (λ q. run q r')).stop
final_in true p r r' = record { refusal = λ e. cc; nesting = λ e. refl }
final_in false p r r' = final_past p p r r'

final_at : (d : Fed) (line n : ℕ) (l : Lexeme) (r r' : List Token) → Final (length r) (length r') (go d line n l (suc (length r)) (λ q. run q r)).stop (go d line n l (suc (length r')) (λ q. run q r')).stop
final_at (on k vs) line n l r r' = final_in (is_deep n l) (inside line (parentheses n l) k vs) r r'
final_at (over vs) line n l r r' = final_past between between r r'
final_at stuck line n l r r' = record { refusal = λ e. refl; nesting = λ e. cc }

-- a stop before the token is none at it
too_early : (s : ℕ → Stop) → ((i j : ℕ) → s i ≡ s j → i ≡ j) → (front : List Token) (t : Token) (r : List Token) → s (suc (length (front ++ t ∷ r))) ≡ s (suc (length r)) → ⊥
too_early s inj front t r e =
    let same = inj (suc (length (front ++ t ∷ r))) (suc (length r)) e in
    omega (arith, length-append front (t ∷ r))

refused_same : (i j : ℕ) → refused i ≡ refused j → i ≡ j
refused_same i j e = cc

deep_same : (i j : ℕ) → deep i ≡ deep j → i ≡ j
deep_same i j e = cc

before_in : (b : Bool) (p : ReadingPlace) (front : List Token) (t : Token) (r r' : List Token) → Final (length r) (length r') (run p (front ++ t ∷ r)).stop (run p (front ++ t ∷ r')).stop → Final (length r) (length r') (go_in b p (suc (length (front ++ t ∷ r))) (λ q. run q (front ++ t ∷ r))).stop (go_in b p (suc (length (front ++ t ∷ r'))) (λ q. run q (front ++ t ∷ r'))).stop
before_in true p front t r r' h = record { refusal = λ e. cc; nesting = λ e. absurd (too_early deep deep_same front t r e) }
before_in false p front t r r' h = h

before : (d : Fed) (line n : ℕ) (l : Lexeme) (front : List Token) (t : Token) (r r' : List Token) → ((p : ReadingPlace) → Final (length r) (length r') (run p (front ++ t ∷ r)).stop (run p (front ++ t ∷ r')).stop) → Final (length r) (length r') (go d line n l (suc (length (front ++ t ∷ r))) (λ q. run q (front ++ t ∷ r))).stop (go d line n l (suc (length (front ++ t ∷ r'))) (λ q. run q (front ++ t ∷ r'))).stop
before (on k vs) line n l front t r r' h = before_in (is_deep n l) (inside line (parentheses n l) k vs) front t r r' (h (inside line (parentheses n l) k vs))
before (over vs) line n l front t r r' h = h between
before stuck line n l front t r r' h = record { refusal = λ e. absurd (too_early refused refused_same front t r e); nesting = λ e. cc }

pub final : (front : List Token) (t : Token) (r r' : List Token) (p : ReadingPlace) → Final (length r) (length r') (run p (front ++ t ∷ r)).stop (run p (front ++ t ∷ r')).stop
final [] t r r' between = final_at (feed (statement_form ∷ []) [] t.lexeme) t.line 0 t.lexeme r r'
final [] t r r' (inside line n k vs) = final_at (feed k vs t.lexeme) line n t.lexeme r r'
final (u ∷ front) t r r' between = before (feed (statement_form ∷ []) [] u.lexeme) u.line 0 u.lexeme front t r r' (final front t r r')
final (u ∷ front) t r r' (inside line n k vs) = before (feed k vs u.lexeme) line n u.lexeme front t r r' (final front t r r')

-- what is refused is no spelling
not_read : (s : Stop) (n : ℕ) (A : Type 0) → s ≡ refused n → ((s ≡ whole) × A) ⊎ IsDeep s → ⊥
not_read whole n A e r = cc
not_read (refused k) n A e (inl r) = let f = r.0 in cc
not_read (refused k) n A e (inr d) = d
not_read (deep k) n A e r = cc

ended : (ts : List Token) (n : ℕ) → (run between ts).stop ≡ refused n → (front rest : List Token) → ts ≡ front ++ rest → n ≡ length rest → IsEnded front rest
ended ts n e front [] f l = λ ss s. not_read (run between ts).stop n _ e (spelled_is_read ts ss (subst (λ (j : List Token). SpellsText j ss) (sym (f ∙ append-nil front)) s))
ended ts n e front (t ∷ rest) f l = λ (more, ss, s).
    let here : (run between (front ++ t ∷ rest)).stop ≡ refused (suc (length rest)) = ap (λ (j : List Token). (run between j).stop) (sym f) ∙ e ∙ ap refused l in
    let there = (final front t rest more between).refusal here in
    let whole_list : (front ++ t ∷ []) ++ more ≡ front ++ t ∷ more = append_assoc front (t ∷ []) more in
    not_read (run between (front ++ t ∷ more)).stop (suc (length more)) _ there (spelled_is_read (front ++ t ∷ more) ss (subst (λ (j : List Token). SpellsText j ss) whole_list s))

refused_at : (ts : List Token) (n : ℕ) (ss : List Placed) (stop : Stop) → ReachedAt between ts ss stop → stop ≡ refused n → (run between ts).stop ≡ refused n → (front : List Token) × (rest : List Token) × (ts ≡ front ++ rest) × (n ≡ length rest) × Viable front × IsEnded front rest
refused_at ts n ss whole h e f = cc
refused_at ts n ss (refused m) (front, rest, s, l, v) e f =
    let same : n ≡ m = cc in
    (front, rest, s, same ∙ l, v, ended ts n f front rest s (same ∙ l))
refused_at ts n ss (deep m) h e f = cc

pub refused_is_first : (ts : List Token) (n : ℕ) → (run between ts).stop ≡ refused n → (front : List Token) × (rest : List Token) × (ts ≡ front ++ rest) × (n ≡ length rest) × Viable front × IsEnded front rest
refused_is_first ts n e = refused_at ts n (run between ts).statements (run between ts).stop (reached ts between) e e

deep_at : (ts : List Token) (n : ℕ) (ss : List Placed) (stop : Stop) → ReachedAt between ts ss stop → stop ≡ deep n → (front : List Token) × (t : Token) × (rest : List Token) × (ts ≡ front ++ t ∷ rest) × (n ≡ suc (length rest)) × Viable (front ++ t ∷ []) × (t.lexeme ≡ sign OpenParenthesis) × (open_parentheses front ≡ 32)
deep_at ts n ss whole h e = cc
deep_at ts n ss (refused m) h e = cc
deep_at ts n ss (deep m) (front, t, rest, s, l, v, o, c) e = let same : n ≡ m = cc in (front, t, rest, s, same ∙ l, v, o, sym (viable_counts front (t ∷ []) v) ∙ c)

pub deep_is_first : (ts : List Token) (n : ℕ) → (run between ts).stop ≡ deep n → (front : List Token) × (t : Token) × (rest : List Token) × (ts ≡ front ++ t ∷ rest) × (n ≡ suc (length rest)) × Viable (front ++ t ∷ []) × (t.lexeme ≡ sign OpenParenthesis) × (open_parentheses front ≡ 32)
deep_is_first ts n e = deep_at ts n (run between ts).statements (run between ts).stop (reached ts between) e
