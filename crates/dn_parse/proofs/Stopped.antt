-- Wherever the machine stops, what it read before is kept, and no whole statement stands between.
use Rattle.std.proofs.Common.{◌≡◌, ◌⊎◌, inl, inr, ap, refl, subst, sym, ℕ, suc, Bool, true, false, List, [], ◌∷◌, ◌++◌, length}
use Rattle.std.specs.List.{All}
use Rattle.std.proofs.lemmas.List.Elements.{All-nil, All-cons}
use Rattle.dn_token.specs.Token.{Token}
use Rattle.dn_parse.specs.Tree.{Placed}
use Rattle.dn_parse.specs.Actions.{Value}
use Rattle.dn_parse.specs.Forms.{Form}
use Rattle.dn_parse.specs.Syntax.{SpellsText, statement_form, statement_of}
use Rattle.dn_parse.specs.Machine.{Fed, on, over, stuck, feed, Outcome, ReadingPlace, between, inside, run, go, go_in, is_deep, parentheses}
use Rattle.dn_parse.specs.Laws.{left_at, EndsNoStatement}
use Rattle.dn_parse.proofs.Taken.{Deep, SaysAll, says_all, deep_is_closed}
use Rattle.dn_parse.proofs.Reach.{SpellsFrom, Back, back_on, back_over, back_first}
use Rattle.dn_parse.proofs.Free.{AllFree, statement_free, FreeFed, feed_free}

-- the forms of the place take no `;`
abbrev pub IsFreePlace : ReadingPlace → Type 0
IsFreePlace between = Unit {0}
IsFreePlace (inside line n k vs) = AllFree k

-- the statement in which the machine stands is not read to its end
abbrev IsUnfinished : List Token → List Placed → ℕ → Type 0
IsUnfinished ts ss left = (inner : List Token) × (rest : List Token) × (ts ≡ inner ++ rest) × (left ≡ length rest) × (ss ≡ []) × All EndsNoStatement inner

-- it is, and others behind it
abbrev IsPast : ReadingPlace → List Token → List Placed → ℕ → Type 0
IsPast p ts ss left = (before : List Token) × (inner : List Token) × (rest : List Token) × (ts ≡ before ++ inner ++ rest) × (left ≡ length rest) × SpellsFrom p before ss × All EndsNoStatement inner

abbrev IsStopped : ReadingPlace → List Token → List Placed → ℕ → Type 0
IsStopped between ts ss left = IsPast between ts ss left
IsStopped (inside line n k vs) ts ss left = IsUnfinished ts ss left ⊎ IsPast (inside line n k vs) ts ss left

abbrev Stopped : ReadingPlace → List Token → Outcome → Type 0
Stopped p ts o = IsStopped p ts o.statements (left_at o.stop)

-- the machine stops at the first token
stopped_here : (ts : List Token) → IsUnfinished ts [] (length ts)
stopped_here ts = ([], ts, refl, refl, refl, All-nil EndsNoStatement)

past_back : (p q : ReadingPlace) (t : Token) (f : List Placed → List Placed) → Back p q t f → (ts : List Token) (ss : List Placed) (left : ℕ) → IsPast q ts ss left → IsPast p (t ∷ ts) (f ss) left
past_back p q t f b ts ss left (before, inner, rest, e, l, s, a) = (t ∷ before, inner, rest, ap (λ (j : List Token). t ∷ j) e, l, b before ss s, a)

stopped_back : (line n m : ℕ) (k k' : List Form) (vs ws : List Value) (t : Token) (ts : List Token) (ss : List Placed) (left : ℕ) → SaysAll Deep k vs t (on k' ws) → EndsNoStatement t → IsStopped (inside line m k' ws) ts ss left → IsStopped (inside line n k vs) (t ∷ ts) ss left
stopped_back line n m k k' vs ws t ts ss left h i (inl (inner, rest, e, l, s, a)) = inl (t ∷ inner, rest, ap (λ (j : List Token). t ∷ j) e, l, s, All-cons EndsNoStatement t inner i a)
stopped_back line n m k k' vs ws t ts ss left h i (inr p) = inr (past_back (inside line n k vs) (inside line m k' ws) t (λ r. r) (back_on line n m k k' vs ws t h) ts ss left p)

stopped_on : (line n : ℕ) (k k' : List Form) (vs ws : List Value) (t : Token) (ts : List Token) → SaysAll Deep k vs t (on k' ws) → EndsNoStatement t → (b : Bool) → Stopped (inside line (parentheses n t.lexeme) k' ws) ts (run (inside line (parentheses n t.lexeme) k' ws) ts) → Stopped (inside line n k vs) (t ∷ ts) (go_in b (inside line (parentheses n t.lexeme) k' ws) (suc (length ts)) (λ q. run q ts))
stopped_on line n k k' vs ws t ts h i true r = inl (stopped_here (t ∷ ts))
stopped_on line n k k' vs ws t ts h i false r =
    let o = run (inside line (parentheses n t.lexeme) k' ws) ts in
    stopped_back line n (parentheses n t.lexeme) k k' vs ws t ts o.statements (left_at o.stop) h i r

stopped_go : (line n : ℕ) (k : List Form) (vs : List Value) (t : Token) (ts : List Token) (d : Fed) → SaysAll Deep k vs t d → FreeFed t.lexeme d → ((q : ReadingPlace) → IsFreePlace q → Stopped q ts (run q ts)) → Stopped (inside line n k vs) (t ∷ ts) (go d line n t.lexeme (suc (length ts)) (λ q. run q ts))
stopped_go line n k vs t ts (on k' ws) h i r = stopped_on line n k k' vs ws t ts h i.0 (is_deep n t.lexeme) (r (inside line (parentheses n t.lexeme) k' ws) i.1)
stopped_go line n k vs t ts (over ws) h i r =
    let o = run between ts in
    inr (past_back (inside line n k vs) between t (λ ss. record { line = line; statement = statement_of ws } ∷ ss) (back_over line n k vs ws t h) ts o.statements (left_at o.stop) (r between tt))
stopped_go line n k vs t ts stuck h i r = inl (stopped_here (t ∷ ts))

stopped_inside : (line n : ℕ) (k : List Form) (vs : List Value) (t : Token) (ts : List Token) → AllFree k → ((q : ReadingPlace) → IsFreePlace q → Stopped q ts (run q ts)) → Stopped (inside line n k vs) (t ∷ ts) (run (inside line n k vs) (t ∷ ts))
stopped_inside line n k vs t ts free r = stopped_go line n k vs t ts (feed k vs t.lexeme) (says_all Deep deep_is_closed k vs t) (feed_free k vs t.lexeme free) r

-- what is spelled from inside a statement has its `;`
not_nil : (xs : List Token) (stop : Token) (ys : List Token) → [] ≡ xs ++ stop ∷ ys → ⊥
not_nil [] stop ys e = cc
not_nil (x ∷ xs) stop ys e = cc

-- a statement that begins is one inside it
past_first : (t : Token) (ts before inner rest : List Token) (ss : List Placed) → t ∷ ts ≡ before ++ inner ++ rest → SpellsFrom (inside t.line 0 (statement_form ∷ []) []) before ss → SpellsText before ss
past_first t ts [] inner rest ss e s = absurd (not_nil s.0 s.1 s.2 s.5)
past_first t ts (x ∷ before) inner rest ss e s =
    let same : t ≡ x = cc in
    back_first x 0 before ss (subst (λ (u : Token). SpellsFrom (inside u.line 0 (statement_form ∷ []) []) (x ∷ before) ss) same s)

stopped_first : (t : Token) (ts : List Token) (ss : List Placed) (left : ℕ) → IsStopped (inside t.line 0 (statement_form ∷ []) []) (t ∷ ts) ss left → IsStopped between (t ∷ ts) ss left
stopped_first t ts ss left (inl (inner, rest, e, l, s, a)) = ([], inner, rest, e, l, subst (λ (j : List Placed). SpellsText [] j) (sym s) refl, a)
stopped_first t ts ss left (inr (before, inner, rest, e, l, s, a)) = (before, inner, rest, e, l, past_first t ts before inner rest ss e s, a)

pub stopped_at : (ts : List Token) (p : ReadingPlace) → IsFreePlace p → Stopped p ts (run p ts)
stopped_at [] between free = ([], [], [], refl, refl, refl, All-nil EndsNoStatement)
stopped_at [] (inside line n k vs) free = inl (stopped_here [])
stopped_at (t ∷ ts) between free =
    let o = run between (t ∷ ts) in
    stopped_first t ts o.statements (left_at o.stop) (stopped_inside t.line 0 (statement_form ∷ []) [] t ts (statement_free, tt) (stopped_at ts))
stopped_at (t ∷ ts) (inside line n k vs) free = stopped_inside line n k vs t ts free (stopped_at ts)
