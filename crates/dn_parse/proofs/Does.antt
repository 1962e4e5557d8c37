-- What the machine does with a form is what is read from the tokens: the steps by which parts are put together.
use Rattle.std.proofs.Common.{◌≡◌, ◌∙◌, ap, sym, refl, subst, ℕ, zero, suc, ◌<◌, ◌≤◌, Bool, true, false, cond, List, [], ◌∷◌, ◌++◌, length, Option, Some, None, Result, Ok, Err, append_assoc, append-nil, arith}
use denote.Enum.Bare.{same_true}
use Rattle.dn_token.specs.contracts.token.Sign.{the_type as the_signs}
use Rattle.dn_token.specs.declared.token.Keyword.{Keyword}
use Rattle.dn_token.specs.declared.token.Sign.{Sign}
use Rattle.dn_token.specs.Token.{Lexeme, Token, word, keyword, number, sign}
use Rattle.dn_parse.specs.Actions.{Value, Action, perform, text, keep}
use Rattle.dn_parse.specs.Forms.{Form, takes, does, either, many, Sort, a_word, any_word, the_word, the_keyword, the_sign, is, is_sign, is_keyword, is_the_word, values_with_token}
use Rattle.dn_parse.specs.Forms.{and_then as both}
use Rattle.dn_parse.specs.Syntax.{the, this, mark, at_most}
use Rattle.dn_parse.specs.Machine.{move_of_token, move_and_then, move_or_else, move_again, move, fed_by_move, feed, Stop, refused, Outcome, stop_outcome, ReadingPlace, inside, run, go, go_in, is_deep, parentheses}
use Rattle.dn_parse.specs.Descent.{and_then, Read, Next, Reader, if_there, after, after_sign, after_keyword, after_word, or_refused, sign_at, keyword_at, the_word_at, word_of, any_of, value_or_refused, value_at, word_at, any_word_at, with_front, row, row_from, row_at, one_more}
use Rattle.dn_parse.proofs.Turns.{run_then, run_does}

-- From the values that were pushed so far a form makes one value: what was read, or the same stop. The parentheses that are open are counted before and behind it.
pub record Goes (f : Form) (n m : ℕ) (ts : List Token) (ws : List Value) (v : Value) (rest : List Token) : Type 0 where
  pub runs : (line : ℕ) (k : List Form) (vs : List Value) → run (inside line n (f ∷ k) (ws ++ vs)) ts ≡ run (inside line m k (v ∷ vs)) rest
  pub no_longer : length rest ≤ length ts

abbrev pub Halting : Form → ℕ → List Token → List Value → Stop → Type 0
Halting f n ts ws s = (line : ℕ) (k : List Form) (vs : List Value) → run (inside line n (f ∷ k) (ws ++ vs)) ts ≡ stop_outcome s

abbrev pub DoesBy : {X : Type 0} → Form → ℕ → ℕ → List Token → List Value → (X → Value) → Read X → Type 0
DoesBy f n m ts ws val (Ok p) = Goes f n m ts ws (val p.0) p.1
DoesBy f n m ts ws val (Err s) = Halting f n ts ws s

pub record Does {X : Type 0} (f : Form) (n m : ℕ) (ts : List Token) (ws : List Value) (val : X → Value) (r : Read X) : Type 0 where
  pub it : DoesBy f n m ts ws val r

-- the same of a form that makes no value
pub record Passes (f : Form) (n m : ℕ) (ts : List Token) (rest : List Token) : Type 0 where
  pub runs : (line : ℕ) (k : List Form) (vs : List Value) → run (inside line n (f ∷ k) vs) ts ≡ run (inside line m k vs) rest
  pub no_longer : length rest ≤ length ts

abbrev pub AfterBy : Form → ℕ → ℕ → List Token → Result (List Token) Stop → Type 0
AfterBy f n m ts (Ok rest) = Passes f n m ts rest
AfterBy f n m ts (Err s) = (line : ℕ) (k : List Form) (vs : List Value) → run (inside line n (f ∷ k) vs) ts ≡ stop_outcome s

pub record After (f : Form) (n m : ℕ) (ts : List Token) (r : Result (List Token) Stop) : Type 0 where
  pub it : AfterBy f n m ts r

-- where one form leads to another
pub does_by : {X : Type 0} (f g : Form) (n n' m : ℕ) (ts ts' : List Token) (ws ws' : List Value) (val : X → Value) (r : Read X) → ((line : ℕ) (k : List Form) (vs : List Value) → run (inside line n (f ∷ k) (ws ++ vs)) ts ≡ run (inside line n' (g ∷ k) (ws' ++ vs)) ts') → length ts' ≤ length ts → Does g n' m ts' ws' val r → Does f n m ts ws val r
does_by f g n n' m ts ts' ws ws' val (Ok p) e l h = record { it = record { runs = λ line k vs. e line k vs ∙ h.it.runs line k vs; no_longer = let s = h.it.no_longer in omega arith } }
does_by f g n n' m ts ts' ws ws' val (Err s) e l h = record { it = λ line k vs. e line k vs ∙ h.it line k vs }

-- one part and then the rest
pub seq : {A X : Type 0} {f g : Form} {n j m : ℕ} {ts : List Token} {ws : List Value} {valA : A → Value} {val : X → Value} (r : Read A) (next : A × List Token → Read X) → Does f n j ts [] valA r → ((a : A) (rest : List Token) → Does g j m rest (valA a ∷ ws) val (next (a, rest))) → Does (both f g) n m ts ws val (and_then r next)
seq {f} {g} {n} {j} {m} {ts} {ws} {valA} {val} (Ok p) next h more = does_by (both f g) g n j m ts p.1 ws (valA p.0 ∷ ws) val (next p) (λ line k vs. run_then line n f g k (ws ++ vs) ts ∙ h.it.runs line (g ∷ k) (ws ++ vs)) h.it.no_longer (more p.0 p.1)
seq {f} {g} {n} {j} {m} {ts} {ws} {valA} {val} (Err s) next h more = record { it = λ line k vs. run_then line n f g k (ws ++ vs) ts ∙ h.it line (g ∷ k) (ws ++ vs) }

pub pass : {X : Type 0} {f g : Form} {n j m : ℕ} {ts : List Token} {ws : List Value} {val : X → Value} (r : Result (List Token) Stop) (next : List Token → Read X) → After f n j ts r → ((rest : List Token) → Does g j m rest ws val (next rest)) → Does (both f g) n m ts ws val (and_then r next)
pass {f} {g} {n} {j} {m} {ts} {ws} {val} (Ok rest) next h more = does_by (both f g) g n j m ts rest ws ws val (next rest) (λ line k vs. run_then line n f g k (ws ++ vs) ts ∙ h.it.runs line (g ∷ k) (ws ++ vs)) h.it.no_longer (more rest)
pass {f} {g} {n} {j} {m} {ts} {ws} {val} (Err s) next h more = record { it = λ line k vs. run_then line n f g k (ws ++ vs) ts ∙ h.it line (g ∷ k) (ws ++ vs) }

-- an action at the end, or in between
pub last : {X : Type 0} {n : ℕ} {ts : List Token} {ws : List Value} {val : X → Value} (x : X) (a : Action) → ((vs : List Value) → perform a (ws ++ vs) ≡ val x ∷ vs) → Does (does a) n n ts ws val (Ok (x, ts))
last {n} {ts} {ws} {val} x a e = record { it = record { runs = λ line k vs. run_does line n a k (ws ++ vs) ts ∙ ap (λ us. run (inside line n k us) ts) (e vs); no_longer = omega arith } }

pub act : {X : Type 0} {g : Form} {n m : ℕ} {ts : List Token} {ws : List Value} (ws' : List Value) {val : X → Value} (a : Action) (r : Read X) → ((vs : List Value) → perform a (ws ++ vs) ≡ ws' ++ vs) → Does g n m ts ws' val r → Does (both (does a) g) n m ts ws val r
act {g} {n} {m} {ts} {ws} ws' {val} a r e h = does_by (both (does a) g) g n n m ts ts ws ws' val r (λ line k vs. run_then line n (does a) g k (ws ++ vs) ts ∙ run_does line n a (g ∷ k) (ws ++ vs) ts ∙ ap (λ us. run (inside line n (g ∷ k) us) ts) (e vs)) (omega arith) h

-- one token
take_go : (s : Sort) (l : Lexeme) (line n : ℕ) (k : List Form) (vs : List Value) (left : ℕ) (next : ReadingPlace → Outcome) → is s l ≡ true → go (feed (takes s ∷ k) vs l) line n l left next ≡ go_in (is_deep n l) (inside line (parentheses n l) k (values_with_token s l vs)) left next
take_go s l line n k vs left next e = ap (λ b. go (fed_by_move (move_of_token b [] (values_with_token s l vs)) k (λ us. feed k us l)) line n l left next) e

refuse_go : (s : Sort) (l : Lexeme) (line n : ℕ) (k : List Form) (vs : List Value) (left : ℕ) (next : ReadingPlace → Outcome) → is s l ≡ false → go (feed (takes s ∷ k) vs l) line n l left next ≡ stop_outcome (refused left)
refuse_go s l line n k vs left next e = ap (λ b. go (fed_by_move (move_of_token b [] (values_with_token s l vs)) k (λ us. feed k us l)) line n l left next) e

-- what a token does to the parentheses that are open
abbrev pub Counts : Sort → ℕ → ℕ → Type 0
Counts s n m = (l : Lexeme) → is s l ≡ true → (parentheses n l ≡ m) × (is_deep n l ≡ false)

pub keyword_counts : (k : Keyword) (n : ℕ) → Counts (the_keyword k) n n
keyword_counts k n (word w) e = cc
keyword_counts k n (keyword j) e = (refl, refl)
keyword_counts k n (number x) e = cc
keyword_counts k n (sign s) e = cc

pub the_word_counts : (w : List ℕ) (n : ℕ) → Counts (the_word w) n n
the_word_counts w n (word v) e = (refl, refl)
the_word_counts w n (keyword j) e = cc
the_word_counts w n (number x) e = cc
the_word_counts w n (sign s) e = cc

pub sign_counts : (s : Sign) (n m : ℕ) → parentheses n (sign s) ≡ m → is_deep n (sign s) ≡ false → Counts (the_sign s) n m
sign_counts s n m p q (word w) e = cc
sign_counts s n m p q (keyword j) e = cc
sign_counts s n m p q (number x) e = cc
sign_counts s n m p q (sign u) e =
    let same : u ≡ s = same_true the_signs tt u s e in
    (ap (λ (v : Sign). parentheses n (sign v)) same ∙ p, ap (λ (v : Sign). is_deep n (sign v)) same ∙ q)

counted : (n m : ℕ) (l : Lexeme) (line : ℕ) (k : List Form) (vs : List Value) (left : ℕ) (next : ReadingPlace → Outcome) → (parentheses n l ≡ m) × (is_deep n l ≡ false) → go_in (is_deep n l) (inside line (parentheses n l) k vs) left next ≡ next (inside line m k vs)
counted n m l line k vs left next (p, q) = ap (λ b. go_in b (inside line (parentheses n l) k vs) left next) q ∙ ap (λ (j : ℕ). next (inside line j k vs)) p

-- one token that makes no value
one_token : (s : Sort) (n m : ℕ) (t : Token) (ts : List Token) → Counts s n m → ((l : Lexeme) (vs : List Value) → values_with_token s l vs ≡ vs) → (b : Bool) → is s t.lexeme ≡ b → After (takes s) n m (t ∷ ts) (or_refused (cond b (Some ts) None) (t ∷ ts))
one_token s n m t ts c q true e = record {
  it = record {
    runs = λ line k vs. take_go s t.lexeme line n k vs (suc (length ts)) (λ p. run p ts) e ∙ counted n m t.lexeme line k (values_with_token s t.lexeme vs) (suc (length ts)) (λ p. run p ts) (c t.lexeme e) ∙ ap (λ us. run (inside line m k us) ts) (q t.lexeme vs);
    no_longer = omega arith;
  };
}
one_token s n m t ts c q false e = record { it = λ line k vs. refuse_go s t.lexeme line n k vs (suc (length ts)) (λ p. run p ts) e }

pub keyword_after : (j : Keyword) (n : ℕ) (ts : List Token) → After (the j) n n ts (keyword_at j ts)
unfolding keyword_at after_keyword
keyword_after j n [] = record { it = λ line k vs. refl }
keyword_after j n (t ∷ ts) = one_token (the_keyword j) n n t ts (keyword_counts j n) (λ l vs. refl) (is_keyword j t.lexeme) refl

pub the_word_after : (w : List ℕ) (n : ℕ) (ts : List Token) → After (this w) n n ts (the_word_at w ts)
unfolding the_word_at after_word
the_word_after w n [] = record { it = λ line k vs. refl }
the_word_after w n (t ∷ ts) = one_token (the_word w) n n t ts (the_word_counts w n) (λ l vs. refl) (is_the_word w t.lexeme) refl

pub sign_after : (s : Sign) (n m : ℕ) (ts : List Token) → parentheses n (sign s) ≡ m → is_deep n (sign s) ≡ false → After (mark s) n m ts (sign_at s ts)
unfolding sign_at after_sign
sign_after s n m [] p q = record { it = λ line k vs. refl }
sign_after s n m (t ∷ ts) p q = one_token (the_sign s) n m t ts (sign_counts s n m p q) (λ l vs. refl) (is_sign s t.lexeme) refl

-- what a token of a sort says leaves the parentheses as they are, and a token that says nothing is not of the sort
abbrev TellsBy : Sort → ℕ → Lexeme → Option (List ℕ) → Type 0
TellsBy s n l None = is s l ≡ false
TellsBy s n l (Some w) = (is s l ≡ true) × ((vs : List Value) → values_with_token s l vs ≡ text w ∷ vs) × (parentheses n l ≡ n) × (is_deep n l ≡ false)

text_does : (s : Sort) (value : Lexeme → Option (List ℕ)) (n : ℕ) → ((l : Lexeme) → TellsBy s n l (value l)) → (ts : List Token) → Does (takes s) n n ts [] text (value_at value ts)
text_does s value n tells [] = record { it = λ line k vs. refl }
text_does s value n tells (t ∷ ts) = go_on (value t.lexeme) (tells t.lexeme) where
  go_on : (o : Option (List ℕ)) → TellsBy s n t.lexeme o → Does (takes s) n n (t ∷ ts) [] text (value_or_refused o ts (t ∷ ts))
  go_on None e = record { it = λ line k vs. refuse_go s t.lexeme line n k vs (suc (length ts)) (λ p. run p ts) e }
  go_on (Some w) (e, q, c, d) = record {
    it = record {
      runs = λ line k vs. take_go s t.lexeme line n k vs (suc (length ts)) (λ p. run p ts) e ∙ counted n n t.lexeme line k (values_with_token s t.lexeme vs) (suc (length ts)) (λ p. run p ts) (c, d) ∙ ap (λ us. run (inside line n k us) ts) (q vs);
      no_longer = omega arith;
    };
  }

-- a word that is not reserved, and a word of either sort
word_tells : (n : ℕ) (l : Lexeme) → TellsBy a_word n l (word_of l)
word_tells n (word w) = (refl, (λ vs. refl), refl, refl)
word_tells n (keyword j) = refl
word_tells n (number x) = refl
word_tells n (sign s) = refl

pub word_does : (n : ℕ) (ts : List Token) → Does (takes a_word) n n ts [] text (word_at ts)
unfolding word_at
word_does n ts = text_does a_word word_of n (word_tells n) ts

any_tells : (n : ℕ) (l : Lexeme) → TellsBy any_word n l (any_of l)
any_tells n (word w) = (refl, (λ vs. refl), refl, refl)
any_tells n (keyword j) = (refl, (λ vs. refl), refl, refl)
any_tells n (number x) = refl
any_tells n (sign s) = refl

pub any_word_does : (n : ℕ) (ts : List Token) → Does (takes any_word) n n ts [] text (any_word_at ts)
unfolding any_word_at
any_word_does n ts = text_does any_word any_of n (any_tells n) ts

-- one form or else another, by the token with which the first begins
choose_token : {X : Type 0} (s : Sort) (f g : Form) (n j m : ℕ) (t : Token) (ts : List Token) (ws : List Value) (val : X → Value) (present : List Token → Read X) (absent : Read X) → Counts s n j → ((l : Lexeme) (vs : List Value) → values_with_token s l vs ≡ vs) → ((rest : List Token) → Does f j m rest ws val (present rest)) → Does g n m (t ∷ ts) ws val absent → (b : Bool) → is s t.lexeme ≡ b → Does (either (both (takes s) f) g) n m (t ∷ ts) ws val (if_there (cond b (Some ts) None) present absent)
choose_token s f g n j m t ts ws val present absent c q h h' true e =
    let l = t.lexeme in
    does_by (either (both (takes s) f) g) f n j m (t ∷ ts) ts ws ws val (present ts)
    (λ line k vs. ap (λ b. go (fed_by_move (move_or_else (move_and_then (move_of_token b [] (values_with_token s l (ws ++ vs))) f (λ us. move f us l)) (move g (ws ++ vs) l)) k (λ us. feed k us l)) line n l (suc (length ts)) (λ p. run p ts)) e ∙ counted n j l line (f ∷ k) (values_with_token s l (ws ++ vs)) (suc (length ts)) (λ p. run p ts) (c l e) ∙ ap (λ us. run (inside line j (f ∷ k) us) ts) (q l (ws ++ vs)))
    (omega arith)
    (h ts)
choose_token s f g n j m t ts ws val present absent c q h h' false e =
    let l = t.lexeme in
    does_by (either (both (takes s) f) g) g n n m (t ∷ ts) (t ∷ ts) ws ws val absent
    (λ line k vs. ap (λ b. go (fed_by_move (move_or_else (move_and_then (move_of_token b [] (values_with_token s l (ws ++ vs))) f (λ us. move f us l)) (move g (ws ++ vs) l)) k (λ us. feed k us l)) line n l (suc (length ts)) (λ p. run p ts)) e)
    (omega arith)
    h'

pub if_keyword : {X : Type 0} {f g : Form} {n m : ℕ} {ws : List Value} {val : X → Value} (present : List Token → Read X) (absent : Read X) (k : Keyword) (ts : List Token) → ((rest : List Token) → Does f n m rest ws val (present rest)) → Does g n m ts ws val absent → Does (either (both (the k) f) g) n m ts ws val (if_there (after_keyword k ts) present absent)
unfolding after_keyword
if_keyword {f} {g} {n} {m} {ws} {val} present absent k [] h h' = does_by (either (both (the k) f) g) g n n m [] [] ws ws val absent (λ line j vs. refl) (omega arith) h'
if_keyword {f} {g} {n} {m} {ws} {val} present absent k (t ∷ ts) h h' = choose_token (the_keyword k) f g n n m t ts ws val present absent (keyword_counts k n) (λ l vs. refl) h h' (is_keyword k t.lexeme) refl

pub if_word : {X : Type 0} {f g : Form} {n m : ℕ} {ws : List Value} {val : X → Value} (present : List Token → Read X) (absent : Read X) (w : List ℕ) (ts : List Token) → ((rest : List Token) → Does f n m rest ws val (present rest)) → Does g n m ts ws val absent → Does (either (both (this w) f) g) n m ts ws val (if_there (after_word w ts) present absent)
unfolding after_word
if_word {f} {g} {n} {m} {ws} {val} present absent w [] h h' = does_by (either (both (this w) f) g) g n n m [] [] ws ws val absent (λ line j vs. refl) (omega arith) h'
if_word {f} {g} {n} {m} {ws} {val} present absent w (t ∷ ts) h h' = choose_token (the_word w) f g n n m t ts ws val present absent (the_word_counts w n) (λ l vs. refl) h h' (is_the_word w t.lexeme) refl

pub if_sign : {X : Type 0} {f g : Form} {n m : ℕ} {ws : List Value} {val : X → Value} (present : List Token → Read X) (absent : Read X) (s : Sign) (ts : List Token) → parentheses n (sign s) ≡ n → is_deep n (sign s) ≡ false → ((rest : List Token) → Does f n m rest ws val (present rest)) → Does g n m ts ws val absent → Does (either (both (mark s) f) g) n m ts ws val (if_there (after_sign s ts) present absent)
unfolding after_sign
if_sign {f} {g} {n} {m} {ws} {val} present absent s [] p q h h' = does_by (either (both (mark s) f) g) g n n m [] [] ws ws val absent (λ line j vs. refl) (omega arith) h'
if_sign {f} {g} {n} {m} {ws} {val} present absent s (t ∷ ts) p q h h' = choose_token (the_sign s) f g n n m t ts ws val present absent (sign_counts s n n p q) (λ l vs. refl) h h' (is_sign s t.lexeme) refl

-- a part that takes the value on top with it
pub seq_on : {A X : Type 0} {f g : Form} {n j m : ℕ} {ts : List Token} {w : Value} {ws : List Value} {valA : A → Value} {val : X → Value} (r : Read A) (next : A × List Token → Read X) → Does f n j ts (w ∷ []) valA r → ((a : A) (rest : List Token) → Does g j m rest (valA a ∷ ws) val (next (a, rest))) → Does (both f g) n m ts (w ∷ ws) val (and_then r next)
seq_on {f} {g} {n} {j} {m} {ts} {w} {ws} {valA} {val} (Ok p) next h more = does_by (both f g) g n j m ts p.1 (w ∷ ws) (valA p.0 ∷ ws) val (next p) (λ line k vs. run_then line n f g k (w ∷ ws ++ vs) ts ∙ h.it.runs line (g ∷ k) (ws ++ vs)) h.it.no_longer (more p.0 p.1)
seq_on {f} {g} {n} {j} {m} {ts} {w} {ws} {valA} {val} (Err s) next h more = record { it = λ line k vs. run_then line n f g k (w ∷ ws ++ vs) ts ∙ h.it line (g ∷ k) (ws ++ vs) }

-- a token at the end
pub pass_last : {X : Type 0} {f : Form} {n m : ℕ} {ts : List Token} (val : X → Value) (x : X) (r : Result (List Token) Stop) → After f n m ts r → Does f n m ts (val x ∷ []) val (and_then r (λ rest. Ok (x, rest)))
pass_last val x (Ok rest) h = record { it = record { runs = λ line k vs. h.it.runs line k (val x ∷ vs); no_longer = h.it.no_longer } }
pass_last val x (Err s) h = record { it = λ line k vs. h.it line k (val x ∷ vs) }

pub does_same : {X : Type 0} {f : Form} {n m : ℕ} {ts : List Token} {ws : List Value} {val : X → Value} (r r' : Read X) → r ≡ r' → Does f n m ts ws val r → Does f n m ts ws val r'
does_same {f} {n} {m} {ts} {ws} {val} r r' e h = subst (λ q. Does f n m ts ws val q) e h

pub assoc : {A B C : Type 0} (r : Result A Stop) (g : A → Result B Stop) (h : B → Result C Stop) → and_then r (λ a. and_then (g a) h) ≡ and_then (and_then r g) h
assoc (Ok a) g h = refl
assoc (Err s) g h = refl

-- a form again and again, each time behind one sign or reserved word
many_on : (s : Sort) (f : Form) (n m line : ℕ) (k : List Form) (vs : List Value) (t : Token) (ts : List Token) → Counts s n m → ((l : Lexeme) (vs : List Value) → values_with_token s l vs ≡ vs) → is s t.lexeme ≡ true → run (inside line n (many (both (takes s) f) ∷ k) vs) (t ∷ ts) ≡ run (inside line m (f ∷ many (both (takes s) f) ∷ k) vs) ts
many_on s f n m line k vs t ts c q e =
    let l = t.lexeme in
    ap (λ b. go (fed_by_move (move_again (move_and_then (move_of_token b [] (values_with_token s l vs)) f (λ us. move f us l)) (many (both (takes s) f)) vs) k (λ us. feed k us l)) line n l (suc (length ts)) (λ p. run p ts)) e ∙ counted n m l line (f ∷ many (both (takes s) f) ∷ k) (values_with_token s l vs) (suc (length ts)) (λ p. run p ts) (c l e) ∙ ap (λ us. run (inside line m (f ∷ many (both (takes s) f) ∷ k) us) ts) (q l vs)

many_off : (s : Sort) (f : Form) (n line : ℕ) (k : List Form) (vs : List Value) (t : Token) (ts : List Token) → is s t.lexeme ≡ false → run (inside line n (many (both (takes s) f) ∷ k) vs) (t ∷ ts) ≡ run (inside line n k vs) (t ∷ ts)
many_off s f n line k vs t ts e =
    let l = t.lexeme in
    ap (λ b. go (fed_by_move (move_again (move_and_then (move_of_token b [] (values_with_token s l vs)) f (λ us. move f us l)) (many (both (takes s) f)) vs) k (λ us. feed k us l)) line n l (suc (length ts)) (λ p. run p ts)) e

-- the members so far, and those that were read
pub front_does : {X : Type 0} {f : Form} {n m : ℕ} {ts : List Token} {ws : List Value} (acc : List X → Value) (es : List X) (r : Read (List X)) → Does f n m ts ws (λ more. acc (es ++ more)) r → Does f n m ts ws acc (with_front es r)
front_does acc es (Ok p) h = record { it = h.it }
front_does acc es (Err s) h = record { it = h.it }

pub record Row {X : Type 0} (s : Sort) (f : Form) (n : ℕ) (acc : List X → Value) (reader : Reader X) (next : List Token → Next X) : Type 0 where
  pub counts : Counts s n n
  pub keeps : (l : Lexeme) (vs : List Value) → values_with_token s l vs ≡ vs
  pub nexts : (ts : List Token) → next ts ≡ if_there (after (is s) ts) (λ rest. one_more (reader rest)) (Ok None)
  pub steps : (es : List X) (rest : List Token) → Does f n n rest (acc es ∷ []) (λ x. acc (es ++ x ∷ [])) (reader rest)

abbrev Tail : {X : Type 0} → Form → ℕ → List Token → (List X → Value) → List X → Read (List X) → Type 0
Tail f n ts acc es r = Does f n n ts (acc es ∷ []) (λ more. acc (es ++ more)) r

tail_none : {X : Type 0} (f : Form) (n : ℕ) (ts : List Token) (acc : List X → Value) (es : List X) → ((line : ℕ) (k : List Form) (vs : List Value) → run (inside line n (f ∷ k) (acc es ∷ vs)) ts ≡ run (inside line n k (acc es ∷ vs)) ts) → Tail f n ts acc es (Ok ([], ts))
tail_none {X} f n ts acc es h = record { it = record { runs = λ line k vs. h line k vs ∙ ap (λ (l : List X). run (inside line n k (acc l ∷ vs)) ts) (sym (append-nil es)); no_longer = omega arith } }

tail_more : {X : Type 0} (f g : Form) (n : ℕ) (t : Token) (ts : List Token) (acc : List X → Value) (es : List X) (x : X) (after : List Token) (r : Read (List X)) → ((line : ℕ) (k : List Form) (vs : List Value) → run (inside line n (f ∷ k) (acc es ∷ vs)) (t ∷ ts) ≡ run (inside line n (g ∷ k) (acc (es ++ x ∷ []) ∷ vs)) after) → length after ≤ length ts → Tail g n after acc (es ++ x ∷ []) r → Tail f n (t ∷ ts) acc es (with_front (x ∷ []) r)
tail_more {X} f g n t ts acc es x after (Ok p) e l h = record { it = record { runs = λ line k vs. e line k vs ∙ h.it.runs line k vs ∙ ap (λ (m : List X). run (inside line n k (acc m ∷ vs)) p.1) (append_assoc es (x ∷ []) p.0); no_longer = let s = h.it.no_longer in omega arith } }
tail_more {X} f g n t ts acc es x after (Err s) e l h = record { it = λ line k vs. e line k vs ∙ h.it line k vs }

many_step : {X : Type 0} (s : Sort) (f : Form) (n : ℕ) (acc : List X → Value) (reader : Reader X) (next : List Token → Next X) → Row s f n acc reader next → (fuel : ℕ) (t : Token) (ts : List Token) (es : List X) → is s t.lexeme ≡ true → ((after : List Token) → length after ≤ length ts → (es' : List X) → Tail (many (both (takes s) f)) n after acc es' (row next fuel after)) → (r : Read X) → Does f n n ts (acc es ∷ []) (λ x. acc (es ++ x ∷ [])) r → Tail (many (both (takes s) f)) n (t ∷ ts) acc es (and_then (one_more r) (λ found. row_from (t ∷ ts) found (row next fuel)))
many_step s f n acc reader next w fuel t ts es e more (Ok p) h = tail_more (many (both (takes s) f)) (many (both (takes s) f)) n t ts acc es p.0 p.1 (row next fuel p.1) (λ line k vs. many_on s f n n line k (acc es ∷ vs) t ts w.counts w.keeps e ∙ h.it.runs line (many (both (takes s) f) ∷ k) vs) h.it.no_longer (more p.1 h.it.no_longer (es ++ p.0 ∷ []))
many_step s f n acc reader next w fuel t ts es e more (Err z) h = record { it = λ line k vs. many_on s f n n line k (acc es ∷ vs) t ts w.counts w.keeps e ∙ h.it line (many (both (takes s) f) ∷ k) vs }

many_turn : {X : Type 0} (s : Sort) (f : Form) (n : ℕ) (acc : List X → Value) (reader : Reader X) (next : List Token → Next X) → Row s f n acc reader next → (fuel : ℕ) (t : Token) (ts : List Token) (es : List X) → ((after : List Token) → length after ≤ length ts → (es' : List X) → Tail (many (both (takes s) f)) n after acc es' (row next fuel after)) → (b : Bool) → is s t.lexeme ≡ b → Tail (many (both (takes s) f)) n (t ∷ ts) acc es (and_then (if_there (cond b (Some ts) None) (λ rest. one_more (reader rest)) (Ok None)) (λ found. row_from (t ∷ ts) found (row next fuel)))
many_turn s f n acc reader next w fuel t ts es more true e = many_step s f n acc reader next w fuel t ts es e more (reader ts) (w.steps es ts)
many_turn s f n acc reader next w fuel t ts es more false e = tail_none (many (both (takes s) f)) n (t ∷ ts) acc es (λ line k vs. many_off s f n line k (acc es ∷ vs) t ts e)

by_next : {X : Type 0} (s : Sort) (f : Form) (n : ℕ) (acc : List X → Value) (reader : Reader X) (next : List Token → Next X) → Row s f n acc reader next → (g : Form) (fuel : ℕ) (ts : List Token) (es : List X) → Tail g n ts acc es (and_then (if_there (after (is s) ts) (λ rest. one_more (reader rest)) (Ok None)) (λ found. row_from ts found (row next fuel))) → Tail g n ts acc es (row next (suc fuel) ts)
by_next {X} s f n acc reader next w g fuel ts es h = subst (λ (o : Next X). Tail g n ts acc es (and_then o (λ found. row_from ts found (row next fuel)))) (sym (w.nexts ts)) h

many_does : {X : Type 0} (s : Sort) (f : Form) (n : ℕ) (acc : List X → Value) (reader : Reader X) (next : List Token → Next X) → Row s f n acc reader next → (fuel : ℕ) (ts : List Token) → length ts < fuel → (es : List X) → Tail (many (both (takes s) f)) n ts acc es (row next fuel ts)
many_does s f n acc reader next w zero ts lt es = absurd (omega arith)
many_does s f n acc reader next w (suc fuel) [] lt es = by_next s f n acc reader next w (many (both (takes s) f)) fuel [] es (tail_none (many (both (takes s) f)) n [] acc es (λ line k vs. refl))
many_does s f n acc reader next w (suc fuel) (t ∷ ts) lt es =
    by_next s f n acc reader next w (many (both (takes s) f)) fuel (t ∷ ts) es (many_turn s f n acc reader next w fuel t ts es (λ after h es'. many_does s f n acc reader next w fuel after (omega arith) es') (is s t.lexeme) refl)

pub row_does : {X : Type 0} (s : Sort) (f : Form) (n : ℕ) (acc : List X → Value) (reader : Reader X) (next : List Token → Next X) → Row s f n acc reader next → (ts : List Token) (es : List X) → Does (many (both (takes s) f)) n n ts (acc es ∷ []) acc (with_front es (row_at next ts))
unfolding row_at
row_does s f n acc reader next w ts es = front_does acc es (row next (suc (length ts)) ts) (many_does s f n acc reader next w (suc (length ts)) ts (omega arith) es)

-- the same at most so many times
most_on : (s : Sort) (f g : Form) (n m line : ℕ) (k : List Form) (vs : List Value) (t : Token) (ts : List Token) → Counts s n m → ((l : Lexeme) (vs : List Value) → values_with_token s l vs ≡ vs) → is s t.lexeme ≡ true → run (inside line n (either (both (both (takes s) f) g) (does keep) ∷ k) vs) (t ∷ ts) ≡ run (inside line m (f ∷ g ∷ k) vs) ts
most_on s f g n m line k vs t ts c q e =
    let l = t.lexeme in
    ap (λ b. go (fed_by_move (move_or_else (move_and_then (move_and_then (move_of_token b [] (values_with_token s l vs)) f (λ us. move f us l)) g (λ us. move g us l)) (move (does keep) vs l)) k (λ us. feed k us l)) line n l (suc (length ts)) (λ p. run p ts)) e ∙ counted n m l line (f ∷ g ∷ k) (values_with_token s l vs) (suc (length ts)) (λ p. run p ts) (c l e) ∙ ap (λ us. run (inside line m (f ∷ g ∷ k) us) ts) (q l vs)

most_off : (s : Sort) (f g : Form) (n line : ℕ) (k : List Form) (vs : List Value) (t : Token) (ts : List Token) → is s t.lexeme ≡ false → run (inside line n (either (both (both (takes s) f) g) (does keep) ∷ k) vs) (t ∷ ts) ≡ run (inside line n k vs) (t ∷ ts)
most_off s f g n line k vs t ts e =
    let l = t.lexeme in
    ap (λ b. go (fed_by_move (move_or_else (move_and_then (move_and_then (move_of_token b [] (values_with_token s l vs)) f (λ us. move f us l)) g (λ us. move g us l)) (move (does keep) vs l)) k (λ us. feed k us l)) line n l (suc (length ts)) (λ p. run p ts)) e

most_step : {X : Type 0} (s : Sort) (f g : Form) (n : ℕ) (acc : List X → Value) (reader : Reader X) (next : List Token → Next X) → Row s f n acc reader next → (j : ℕ) (t : Token) (ts : List Token) (es : List X) → is s t.lexeme ≡ true → ((after : List Token) (es' : List X) → Tail g n after acc es' (row next j after)) → (r : Read X) → Does f n n ts (acc es ∷ []) (λ x. acc (es ++ x ∷ [])) r → Tail (either (both (both (takes s) f) g) (does keep)) n (t ∷ ts) acc es (and_then (one_more r) (λ found. row_from (t ∷ ts) found (row next j)))
most_step s f g n acc reader next w j t ts es e more (Ok p) h = tail_more (either (both (both (takes s) f) g) (does keep)) g n t ts acc es p.0 p.1 (row next j p.1) (λ line k vs. most_on s f g n n line k (acc es ∷ vs) t ts w.counts w.keeps e ∙ h.it.runs line (g ∷ k) vs) h.it.no_longer (more p.1 (es ++ p.0 ∷ []))
most_step s f g n acc reader next w j t ts es e more (Err z) h = record { it = λ line k vs. most_on s f g n n line k (acc es ∷ vs) t ts w.counts w.keeps e ∙ h.it line (g ∷ k) vs }

most_turn : {X : Type 0} (s : Sort) (f g : Form) (n : ℕ) (acc : List X → Value) (reader : Reader X) (next : List Token → Next X) → Row s f n acc reader next → (j : ℕ) (t : Token) (ts : List Token) (es : List X) → ((after : List Token) (es' : List X) → Tail g n after acc es' (row next j after)) → (b : Bool) → is s t.lexeme ≡ b → Tail (either (both (both (takes s) f) g) (does keep)) n (t ∷ ts) acc es (and_then (if_there (cond b (Some ts) None) (λ rest. one_more (reader rest)) (Ok None)) (λ found. row_from (t ∷ ts) found (row next j)))
most_turn s f g n acc reader next w j t ts es more true e = most_step s f g n acc reader next w j t ts es e more (reader ts) (w.steps es ts)
most_turn s f g n acc reader next w j t ts es more false e = tail_none (either (both (both (takes s) f) g) (does keep)) n (t ∷ ts) acc es (λ line k vs. most_off s f g n line k (acc es ∷ vs) t ts e)

pub most_does : {X : Type 0} (s : Sort) (f : Form) (n : ℕ) (acc : List X → Value) (reader : Reader X) (next : List Token → Next X) → Row s f n acc reader next → (j : ℕ) (ts : List Token) (es : List X) → Tail (at_most j (both (takes s) f)) n ts acc es (row next j ts)
most_does s f n acc reader next w zero ts es = tail_none (does keep) n ts acc es (λ line k vs. run_does line n keep k (acc es ∷ vs) ts)
most_does s f n acc reader next w (suc j) [] es = by_next s f n acc reader next w (at_most (suc j) (both (takes s) f)) j [] es (tail_none (at_most (suc j) (both (takes s) f)) n [] acc es (λ line k vs. refl))
most_does s f n acc reader next w (suc j) (t ∷ ts) es =
    by_next s f n acc reader next w (at_most (suc j) (both (takes s) f)) j (t ∷ ts) es (most_turn s f (at_most j (both (takes s) f)) n acc reader next w j t ts es (λ after es'. most_does s f n acc reader next w j after es') (is s t.lexeme) refl)

pub most_row_does : {X : Type 0} (s : Sort) (f : Form) (n : ℕ) (acc : List X → Value) (reader : Reader X) (next : List Token → Next X) → Row s f n acc reader next → (j : ℕ) (ts : List Token) (es : List X) → Does (at_most j (both (takes s) f)) n n ts (acc es ∷ []) acc (with_front es (row next j ts))
most_row_does s f n acc reader next w j ts es = front_does acc es (row next j ts) (most_does s f n acc reader next w j ts es)
