-- How the machine goes from form to form before it takes a token.
use Rattle.std.proofs.Common.{◌≡◌, ◌∙◌, ◌⊎◌, inl, inr, ap, sym, refl, subst, ℕ, suc, Bool, true, false, List, [], ◌∷◌, length, append_assoc}
use Rattle.dn_token.specs.declared.token.Sign.TheVariants.{OpenParenthesis}
use Rattle.dn_token.specs.Token.{Lexeme, Token}
use Rattle.dn_parse.specs.Actions.{Value, Action, perform}
use Rattle.dn_parse.specs.Forms.{Form, does, and_then, either, many, parenthesised, is_sign}
use Rattle.dn_parse.specs.Syntax.{after_open, in_parentheses}
use Rattle.dn_parse.specs.Machine.{Move, to, skips, refuses, move_of_token, move_and_then, move_or_else, move_again, move, on, fed_by_move, feed, Outcome, inside, run, go}
use Rattle.dn_parse.specs.Laws.{IsDeep}

-- two runs come to the same, or the first stops at a parenthesis that is nested too deep
abbrev pub Upto : Outcome → Outcome → Type 0
Upto a b = (a ≡ b) ⊎ IsDeep a.stop

pub upto_then : (a b c : Outcome) → Upto a b → Upto b c → Upto a c
upto_then a b c (inl e) (inl f) = inl (e ∙ f)
upto_then a b c (inl e) (inr d) = inr (subst (λ (o : Outcome). IsDeep o.stop) (sym e) d)
upto_then a b c (inr d) q = inr d

pub equal_then : (a b c : Outcome) → a ≡ b → Upto b c → Upto a c
equal_then a b c e u = upto_then a b c (inl e) u

-- two stacks that a token feeds alike
pub run_fed : (line n : ℕ) (k k' : List Form) (vs vs' : List Value) (t : Token) (ts : List Token) → feed k vs t.lexeme ≡ feed k' vs' t.lexeme → run (inside line n k vs) (t ∷ ts) ≡ run (inside line n k' vs') (t ∷ ts)
run_fed line n k k' vs vs' t ts e = ap (λ d. go d line n t.lexeme (suc (length ts)) (λ q. run q ts)) e

fed_then : (m : Move) (g : Form) (k : List Form) (l : Lexeme) → fed_by_move (move_and_then m g (λ ws. move g ws l)) k (λ ws. feed k ws l) ≡ fed_by_move m (g ∷ k) (λ ws. fed_by_move (move g ws l) k (λ us. feed k us l))
fed_then (to k' ws) g k l = ap (λ (j : List Form). on j ws) (append_assoc k' (g ∷ []) k)
fed_then (skips ws) g k l = refl
fed_then refuses g k l = refl

pub run_then : (line n : ℕ) (f g : Form) (k : List Form) (vs : List Value) (ts : List Token) → run (inside line n (and_then f g ∷ k) vs) ts ≡ run (inside line n (f ∷ g ∷ k) vs) ts
run_then line n f g k vs [] = refl
run_then line n f g k vs (t ∷ ts) = run_fed line n (and_then f g ∷ k) (f ∷ g ∷ k) vs vs t ts (fed_then (move f vs t.lexeme) g k t.lexeme)

pub run_does : (line n : ℕ) (a : Action) (k : List Form) (vs : List Value) (ts : List Token) → run (inside line n (does a ∷ k) vs) ts ≡ run (inside line n k (perform a vs)) ts
run_does line n a k vs [] = refl
run_does line n a k vs (t ∷ ts) = refl

pub run_first : (line n : ℕ) (f g : Form) (k next : List Form) (vs ws : List Value) (t : Token) (ts : List Token) → move f vs t.lexeme ≡ to next ws → run (inside line n (either f g ∷ k) vs) (t ∷ ts) ≡ run (inside line n (f ∷ k) vs) (t ∷ ts)
run_first line n f g k next vs ws t ts e =
    let l = t.lexeme in
    run_fed line n (either f g ∷ k) (f ∷ k) vs vs t ts (ap (λ m. fed_by_move (move_or_else m (move g vs l)) k (λ us. feed k us l)) e ∙ ap (λ m. fed_by_move m k (λ us. feed k us l)) (sym e))

pub run_second : (line n : ℕ) (f g : Form) (k : List Form) (vs : List Value) (t : Token) (ts : List Token) → move f vs t.lexeme ≡ refuses → run (inside line n (either f g ∷ k) vs) (t ∷ ts) ≡ run (inside line n (g ∷ k) vs) (t ∷ ts)
run_second line n f g k vs t ts e =
    let l = t.lexeme in
    run_fed line n (either f g ∷ k) (g ∷ k) vs vs t ts (ap (λ m. fed_by_move (move_or_else m (move g vs l)) k (λ us. feed k us l)) e)

fed_again : (m : Move) (f : Form) (k next : List Form) (vs ws : List Value) (l : Lexeme) → m ≡ to next ws → fed_by_move (move_again m (many f) vs) k (λ us. feed k us l) ≡ fed_by_move m (many f ∷ k) (λ us. feed (many f ∷ k) us l)
fed_again m f k next vs ws l e =
    ap (λ d. fed_by_move (move_again d (many f) vs) k (λ us. feed k us l)) e ∙ ap (λ (j : List Form). on j ws) (append_assoc next (many f ∷ []) k) ∙ ap (λ d. fed_by_move d (many f ∷ k) (λ us. feed (many f ∷ k) us l)) (sym e)

pub run_again : (line n : ℕ) (f : Form) (k next : List Form) (vs ws : List Value) (t : Token) (ts : List Token) → move f vs t.lexeme ≡ to next ws → run (inside line n (many f ∷ k) vs) (t ∷ ts) ≡ run (inside line n (f ∷ many f ∷ k) vs) (t ∷ ts)
run_again line n f k next vs ws t ts e = run_fed line n (many f ∷ k) (f ∷ many f ∷ k) vs vs t ts (fed_again (move f vs t.lexeme) f k next vs ws t.lexeme e)

pub run_no_more : (line n : ℕ) (f : Form) (k : List Form) (vs : List Value) (t : Token) (ts : List Token) → move f vs t.lexeme ≡ refuses → run (inside line n (many f ∷ k) vs) (t ∷ ts) ≡ run (inside line n k vs) (t ∷ ts)
run_no_more line n f k vs t ts e =
    let l = t.lexeme in
    run_fed line n (many f ∷ k) k vs vs t ts (ap (λ m. fed_by_move (move_again m (many f) vs) k (λ us. feed k us l)) e)

fed_parenthesised : (b : Bool) (k : List Form) (vs : List Value) (l : Lexeme) → fed_by_move (move_of_token b (after_open ∷ []) vs) k (λ us. feed k us l) ≡ fed_by_move (move_and_then (move_of_token b [] vs) after_open (λ ws. move after_open ws l)) k (λ us. feed k us l)
fed_parenthesised true k vs l = refl
fed_parenthesised false k vs l = refl

pub run_parenthesised : (line n : ℕ) (k : List Form) (vs : List Value) (ts : List Token) → run (inside line n (parenthesised ∷ k) vs) ts ≡ run (inside line n (in_parentheses ∷ k) vs) ts
run_parenthesised line n k vs [] = refl
run_parenthesised line n k vs (t ∷ ts) = run_fed line n (parenthesised ∷ k) (in_parentheses ∷ k) vs vs t ts (fed_parenthesised (is_sign OpenParenthesis t.lexeme) k vs t.lexeme)
