-- A piece of a printed text: its tokens, what is read from them, and the value of that. Rows of such pieces.
use Rattle.std.proofs.Common.{◌≡◌, ◌∙◌, ap, sym, refl, subst, ℕ, zero, suc, ◌≤◌, List, [], ◌∷◌, ◌++◌, length, length-append, None, Result, Ok, arith, append_assoc}
use Rattle.dn_base.proofs.Lists.{Each}
use Rattle.dn_token.specs.Token.{Token}
use Rattle.dn_parse.specs.Descent.{and_then, Next, Reader, with_front, row, row_from, row_at, one_more, first_and, first_and_most}
use Rattle.dn_parse.proofs.Series.{first_read, most_read}
use Rattle.dn_scope.specs.Values.{Flaw, each}
use Rattle.dn_module.proofs.Yields.{Yields, any, bind, given, yielded}
use Rattle.dn_print.proofs.Lexes.{Closed, Open, Quiet, closed_then, open_then, closed_none, quiet_none}

-- The text is these tokens in this line; before what fits they are read as this tree; and its value is y.
pub record Shown {X Y : Type 0} (line : ℕ) (text : List ℕ) (reader : Reader X) (Fit : List Token → Type 0) (value : X → Result Y Flaw) (y : Y) : Type 0 where
  pub tokens : List Token
  pub tree : X
  pub lexed : Closed line text tokens
  pub read : (rest : List Token) → Fit rest → reader (tokens ++ rest) ≡ Ok (tree, rest)
  pub valued : value tree ≡ Ok y

-- The same of what stands behind the first piece: a row of pieces, each behind its mark, before what ends it.
pub record Row {X Y : Type 0} (line : ℕ) (text : List ℕ) (next : List Token → Next X) (Fit End : List Token → Type 0) (value : X → Result Y Flaw) (ys : List Y) : Type 0 where
  pub tokens : List Token
  pub trees : List X
  pub lexed : Closed line text tokens
  pub quiet : Quiet text
  pub read : (n : ℕ) → length trees ≤ n → (rest : List Token) → End rest → row next n (tokens ++ rest) ≡ Ok (trees, rest)
  pub heads : (rest : List Token) → End rest → Fit (tokens ++ rest)
  pub valued : each value trees ≡ Ok ys
  pub enough : length trees ≤ length tokens

pub each_cons : {X Y : Type 0} (f : X → Result Y Flaw) (x : X) (xs : List X) (y : Y) (ys : List Y) → f x ≡ Ok y → each f xs ≡ Ok ys → each f (x ∷ xs) ≡ Ok (y ∷ ys)
each_cons f x xs y ys e g = rw (e, g) refl

-- as many values as items
each_counts : {X Y : Type 0} (f : X → Result Y Flaw) (xs : List X) → Yields (λ ys. length xs ≡ length ys) (each f xs)
each_counts f [] = record { it = refl }
each_counts f (x ∷ xs) = bind (f x) _ (any (f x)) (λ y p. bind (each f xs) _ (each_counts f xs) (λ ys n. given (ap (λ (k : ℕ). suc k) n)))

pub row_none : {X Y : Type 0} (line : ℕ) (next : List Token → Next X) (Fit End : List Token → Type 0) (value : X → Result Y Flaw) → ((rest : List Token) → End rest → next rest ≡ Ok None) → ((rest : List Token) → End rest → Fit rest) → Row line [] next Fit End value []
row_none line next Fit End value none heads = record {
  tokens = [];
  trees = [];
  lexed = closed_none line;
  quiet = quiet_none;
  read = reads;
  heads = heads;
  valued = refl;
  enough = omega arith;
} where
  reads : (n : ℕ) → 0 ≤ n → (rest : List Token) → End rest → row next n rest ≡ Ok ([], rest)
  reads zero l rest h = refl
  reads (suc n) l rest h = ap (λ r. and_then r (λ found. row_from rest found (row next n))) (none rest h)

row_step : {X : Type 0} (next : List Token → Next X) (reader : Reader X) (t : Token) (a b rest : List Token) (x : X) (xs : List X) (n : ℕ) → next (t ∷ ((a ++ b) ++ rest)) ≡ one_more (reader ((a ++ b) ++ rest)) → reader (a ++ (b ++ rest)) ≡ Ok (x, b ++ rest) → row next n (b ++ rest) ≡ Ok (xs, rest) → row next (suc n) (t ∷ ((a ++ b) ++ rest)) ≡ Ok (x ∷ xs, rest)
row_step next reader t a b rest x xs n one read more =
    let found = one ∙ ap (λ l. one_more (reader l)) (append_assoc a b rest) ∙ ap one_more read in
    ap (λ r. and_then r (λ f. row_from (t ∷ ((a ++ b) ++ rest)) f (row next n))) found ∙ ap (with_front (x ∷ [])) more

-- one piece more, behind its mark
pub row_cons : {X Y : Type 0} {line : ℕ} {text tail_text : List ℕ} {reader : Reader X} {next : List Token → Next X} {Fit End : List Token → Type 0} {value : X → Result Y Flaw} {y : Y} {ys : List Y} (whole : List ℕ) (t : Token) (item : Shown line text reader Fit value y) (tail : Row line tail_text next Fit End value ys) → Closed line whole (t ∷ (item.tokens ++ tail.tokens)) → Quiet whole → ((ts : List Token) → next (t ∷ ts) ≡ one_more (reader ts)) → ((ts : List Token) → Fit (t ∷ ts)) → Row line whole next Fit End value (y ∷ ys)
row_cons {X} {Y} {line} {text} {tail_text} {reader} {next} {Fit} {End} {value} {y} {ys} whole t item tail lexed quiet one fit = record {
  tokens = t ∷ (item.tokens ++ tail.tokens);
  trees = item.tree ∷ tail.trees;
  lexed = lexed;
  quiet = quiet;
  read = reads;
  heads = λ rest h. fit ((item.tokens ++ tail.tokens) ++ rest);
  valued = each_cons value item.tree tail.trees y ys item.valued tail.valued;
  enough = let l = length-append item.tokens tail.tokens in let e = tail.enough in omega arith;
} where
  reads : (n : ℕ) → length (item.tree ∷ tail.trees) ≤ n → (rest : List Token) → End rest → row next n (t ∷ ((item.tokens ++ tail.tokens) ++ rest)) ≡ Ok (item.tree ∷ tail.trees, rest)
  reads zero l rest h = absurd (omega (arith, l))
  reads (suc n) l rest h = row_step next reader t item.tokens tail.tokens rest item.tree tail.trees n (one ((item.tokens ++ tail.tokens) ++ rest)) (item.read (tail.tokens ++ rest) (tail.heads rest h)) (tail.read n (omega (arith, l)) rest h)

-- What stands before each piece of a row but the first: its text is this token, behind which a piece is read. The row ends
-- before what has none.
pub record Mark {X : Type 0} (line : ℕ) (text : List ℕ) (reader : Reader X) (next : List Token → Next X) (Fit End : List Token → Type 0) : Type 0 where
  pub token : Token
  pub lexed : Open line text (token ∷ [])
  pub quiet : (t : List ℕ) → Quiet (text ++ t)
  pub one : (ts : List Token) → next (token ∷ ts) ≡ one_more (reader ts)
  pub fit : (ts : List Token) → Fit (token ∷ ts)
  pub none : (rest : List Token) → End rest → next rest ≡ Ok None
  pub ends : (rest : List Token) → End rest → Fit rest

-- the pieces of a list, each behind a mark, where each item that is so is a piece
pub row_shown : {X Y : Type 0} {line : ℕ} {mark : List ℕ} {reader : Reader X} {next : List Token → Next X} {Fit End : List Token → Type 0} {value : X → Result Y Flaw} (m : Mark line mark reader next Fit End) (P : Y → Type 0) (text : Y → List ℕ) (texts : List Y → List ℕ) → texts [] ≡ [] → ((y : Y) (ys : List Y) → texts (y ∷ ys) ≡ mark ++ (text y ++ texts ys)) → ((y : Y) → P y → Shown line (text y) reader Fit value y) → (ys : List Y) → Each P ys → Row line (texts ys) next Fit End value ys
row_shown {X} {Y} {line} {mark} {reader} {next} {Fit} {End} {value} m P text texts none more item [] h = subst (λ (t : List ℕ). Row line t next Fit End value []) (sym none) (row_none line next Fit End value m.none m.ends)
row_shown {X} {Y} {line} {mark} {reader} {next} {Fit} {End} {value} m P text texts none more item (y ∷ ys) h =
    let first = item y h.0 in
    let tail = row_shown m P text texts none more item ys h.1 in
    let lexed = open_then m.lexed (closed_then first.lexed tail.quiet tail.lexed) in
    subst (λ (t : List ℕ). Row line t next Fit End value (y ∷ ys)) (sym (more y ys)) (row_cons (mark ++ (text y ++ texts ys)) m.token first tail lexed (m.quiet (text y ++ texts ys)) m.one m.fit)

-- the first piece and those behind it, where a reader takes the first and then the row
unfoldable pub both_shown : {X Y : Type 0} {line : ℕ} {text tail_text : List ℕ} {reader : Reader X} {next : List Token → Next X} {Fit End : List Token → Type 0} {value : X → Result Y Flaw} {y : Y} {ys : List Y} (whole : Reader (List X)) (item : Shown line text reader Fit value y) (tail : Row line tail_text next Fit End value ys) → ((rest : List Token) → End rest → reader (item.tokens ++ (tail.tokens ++ rest)) ≡ Ok (item.tree, tail.tokens ++ rest) → whole (item.tokens ++ (tail.tokens ++ rest)) ≡ Ok (item.tree ∷ tail.trees, rest)) → Shown line (text ++ tail_text) whole End (each value) (y ∷ ys)
both_shown {X} {Y} {line} {text} {tail_text} {reader} {next} {Fit} {End} {value} {y} {ys} whole item tail reads = record {
  tokens = item.tokens ++ tail.tokens;
  tree = item.tree ∷ tail.trees;
  lexed = closed_then item.lexed tail.quiet tail.lexed;
  read = λ rest h. ap whole (append_assoc item.tokens tail.tokens rest) ∙ reads rest h (item.read (tail.tokens ++ rest) (tail.heads rest h));
  valued = each_cons value item.tree tail.trees y ys item.valued tail.valued;
}

-- the first piece, and all those behind it
unfoldable pub first_shown : {X Y : Type 0} {line : ℕ} {text tail_text : List ℕ} {reader : Reader X} {next : List Token → Next X} {Fit End : List Token → Type 0} {value : X → Result Y Flaw} {y : Y} {ys : List Y} → Shown line text reader Fit value y → Row line tail_text next Fit End value ys → Shown line (text ++ tail_text) (first_and reader next) End (each value) (y ∷ ys)
unfolding row_at
first_shown {X} {Y} {line} {text} {tail_text} {reader} {next} item tail = both_shown (first_and reader next) item tail (λ rest h one.
    let l = length-append tail.tokens rest in
    let e = tail.enough in
    first_read reader next (item.tokens ++ (tail.tokens ++ rest)) item.tree (tail.tokens ++ rest) one
    ∙ ap (with_front (item.tree ∷ [])) (tail.read (suc (length (tail.tokens ++ rest))) (omega arith) rest h))

-- the same of at most so many behind it
pub most_shown : {X Y : Type 0} {line : ℕ} {text tail_text : List ℕ} {reader : Reader X} {next : List Token → Next X} {Fit End : List Token → Type 0} {value : X → Result Y Flaw} {y : Y} {ys : List Y} (n : ℕ) → length ys ≤ n → Shown line text reader Fit value y → Row line tail_text next Fit End value ys → Shown line (text ++ tail_text) (first_and_most n reader next) End (each value) (y ∷ ys)
most_shown {X} {Y} {line} {text} {tail_text} {reader} {next} {Fit} {End} {value} {y} {ys} n few item tail = both_shown (first_and_most n reader next) item tail (λ rest h one.
    let c : length tail.trees ≡ length ys = yielded _ (each value tail.trees) ys (each_counts value tail.trees) tail.valued in
    most_read n reader next (item.tokens ++ (tail.tokens ++ rest)) item.tree (tail.tokens ++ rest) one
    ∙ ap (with_front (item.tree ∷ [])) (tail.read n (omega (arith, c, few)) rest h))
