-- Numbers and full names as they are printed: their tokens, and what is read from them.
use Rattle.std.proofs.Common.{◌≡◌, ◌∙◌, ap, sym, refl, subst, ℕ, ◌<◌, ◌^◌, true, false, ◌==◌, List, [], ◌∷◌, ◌++◌, map, codes, Option, Some, None, Ok, arith, tests, append_assoc}
use Rattle.std.specs.Fmt.{decimal}
use Rattle.dn_token.specs.declared.token.Sign.TheVariants.{OpenBracket, CloseBracket, Plus, Times, Dot}
use Rattle.dn_token.specs.Token.{Token, word, is_letter, begins_with}
use Rattle.dn_parse.specs.Tree.{constant}
use Rattle.dn_parse.specs.Descent.{one_more, after_sign, sign_at, word_at, row_at, factor_at, next_factor_at, factors_at, term_at, next_term_at, terms_at, expr_at, index_at, part_at, next_part_at, name_at}
use Rattle.dn_scope.specs.Values.{value, part_text, after_dots, full_name}
use Rattle.dn_print.specs.Names.{address_text}
use Rattle.dn_print.proofs.Titles.{Title, Label, label_by, label_text, IsSmall, IsLabel, AreLabels, IsFullName}
use Rattle.dn_print.proofs.Lexes.{word_token, number_token, sign_token, Closed, Quiet, closed_then, open_then, word_closed, decimal_closed, address_closed, bracket_open, close_open, dot_closed, as_closed}
use Rattle.dn_print.proofs.Shown.{Shown, Row, row_none, row_cons, both_shown, first_shown}

-- what may follow a number
abbrev pub NumberEnd : List Token → Type 0
NumberEnd rest = (after_sign Times rest ≡ None) × (after_sign Plus rest ≡ None)

-- what may follow a part, and a name
abbrev pub PartEnd : List Token → Type 0
PartEnd rest = after_sign OpenBracket rest ≡ None

abbrev pub NameEnd : List Token → Type 0
NameEnd rest = (after_sign Dot rest ≡ None) × (after_sign OpenBracket rest ≡ None)

pub number_read : (d line n : ℕ) (rest : List Token) → NumberEnd rest → expr_at d (number_token line n ∷ rest) ≡ Ok (constant n, rest)
unfolding factor_at next_factor_at factors_at term_at next_term_at terms_at expr_at row_at
number_read d line n rest h = rw (h.0, h.1) refl

pub address_shown : (line n : ℕ) → n < 2 ^ 64 → Shown line (address_text n) (expr_at 32) NumberEnd value n
address_shown line n h = record {
  tokens = number_token line n ∷ [];
  tree = constant n;
  lexed = address_closed line n h;
  read = λ rest e. number_read 32 line n rest e;
  valued = refl;
}

title_closed : (line : ℕ) (w : List ℕ) → Title w → Closed line w (word_token line w ∷ [])
title_closed line [] t = absurd t
title_closed line (b ∷ w) t = word_closed line b w (word (b ∷ w)) t.0 t.1 t.2

-- a part without an index, and with one
bare_read : (line : ℕ) (w : List ℕ) (rest : List Token) → PartEnd rest → part_at 32 (word_token line w ∷ rest) ≡ Ok (record { title = w; index = None }, rest)
unfolding part_at index_at word_at
bare_read line w rest h = rw h refl

bracketed_read : (line n : ℕ) (w : List ℕ) (rest : List Token) → part_at 32 (word_token line w ∷ sign_token line OpenBracket ∷ number_token line n ∷ sign_token line CloseBracket ∷ rest) ≡ Ok (record { title = w; index = Some (constant n) }, rest)
unfolding part_at index_at word_at after_sign sign_at
bracketed_read line n w rest =
    let e = number_read 32 line n (sign_token line CloseBracket ∷ rest) (refl, refl) in
    rw e refl

index_quiet : (n : ℕ) → Quiet (codes "[" ++ (decimal n ++ codes "]"))
index_quiet n = record { it = λ rest h. refl }

pub close_closed : (line : ℕ) → Closed line (codes "]") (sign_token line CloseBracket ∷ [])
close_closed line = as_closed (close_open line)

pub close_quiet : Quiet (codes "]")
close_quiet = record { it = λ rest h. refl }

part_by_shown : (line : ℕ) (w : List ℕ) (i : Option ℕ) → Title w → IsSmall i → Shown line (label_by w i) (part_at 32) PartEnd part_text (label_by w i)
part_by_shown line w None t h = record {
  tokens = word_token line w ∷ [];
  tree = record { title = w; index = None };
  lexed = title_closed line w t;
  read = λ rest e. bare_read line w rest e;
  valued = refl;
}
part_by_shown line w (Some n) t h = record {
  tokens = word_token line w ∷ sign_token line OpenBracket ∷ number_token line n ∷ sign_token line CloseBracket ∷ [];
  tree = record { title = w; index = Some (constant n) };
  lexed = closed_then (title_closed line w t) (index_quiet n) (open_then (bracket_open line) (closed_then (decimal_closed line n h) close_quiet (close_closed line)));
  read = λ rest e. bracketed_read line n w rest;
  valued = refl;
}

pub part_shown : (line : ℕ) (l : Label) → IsLabel l → Shown line (label_text l) (part_at 32) PartEnd part_text (label_text l)
part_shown line l h = part_by_shown line l.title l.index h.0 h.1

-- a part begins with a letter
letter_dot : (b : ℕ) → is_letter b ≡ true → (b == 46) ≡ false
letter_dot b h = grind (arith, tests)

title_dot : (w t rest : List ℕ) → Title w → begins_with (λ c. c == 46) ((w ++ t) ++ rest) ≡ false
title_dot [] t rest h = absurd h
title_dot (b ∷ w) t rest h = letter_dot b h.0

by_dot : (w : List ℕ) (i : Option ℕ) (t rest : List ℕ) → Title w → begins_with (λ c. c == 46) ((label_by w i ++ t) ++ rest) ≡ false
by_dot w None t rest h = title_dot w t rest h
by_dot w (Some n) t rest h = ap (λ (u : List ℕ). begins_with (λ c. c == 46) (u ++ rest)) (append_assoc w (codes "[" ++ (decimal n ++ codes "]")) t) ∙ title_dot w ((codes "[" ++ (decimal n ++ codes "]")) ++ t) rest h

dot_quiet : (p : List ℕ) → Quiet (codes "." ++ p)
dot_quiet p = record { it = λ rest h. refl }

next_part_read : (line : ℕ) (ts : List Token) → next_part_at 32 (sign_token line Dot ∷ ts) ≡ one_more (part_at 32 ts)
unfolding next_part_at after_sign
next_part_read line ts = refl

no_next_part : (rest : List Token) → NameEnd rest → next_part_at 32 rest ≡ Ok None
unfolding next_part_at
no_next_part rest h = rw (h.0) refl

dot_ends_part : (line : ℕ) (ts : List Token) → PartEnd (sign_token line Dot ∷ ts)
unfolding after_sign
dot_ends_part line ts = refl

more_shown : (line : ℕ) (ls : List Label) → AreLabels ls → Row line (after_dots (map label_text ls)) (next_part_at 32) PartEnd NameEnd part_text (map label_text ls)
more_shown line [] h = row_none line (next_part_at 32) PartEnd NameEnd part_text no_next_part (λ rest e. e.1)
more_shown line (l ∷ ls) h =
    let item = part_shown line l h.0 in
    let tail = more_shown line ls h.1 in
    let lexed = dot_closed line (label_text l ++ after_dots (map label_text ls)) (item.tokens ++ tail.tokens) (λ rest. by_dot l.title l.index (after_dots (map label_text ls)) rest h.0.0) (closed_then item.lexed tail.quiet tail.lexed) in
    row_cons (codes "." ++ (label_text l ++ after_dots (map label_text ls))) (sign_token line Dot) item tail lexed (dot_quiet (label_text l ++ after_dots (map label_text ls))) (next_part_read line) (dot_ends_part line)

-- a full name, read as a name of its parts
pub name_shown : (line : ℕ) (text : List ℕ) → IsFullName text → Shown line text (name_at 32) NameEnd full_name text
unfolding name_at
name_shown line text full =
    let s = first_shown (part_shown line full.first full.one) (more_shown line full.more full.all) in
    let e = full.is in
    record {
      tokens = s.tokens;
      tree = s.tree;
      lexed = subst (λ (t : List ℕ). Closed line t s.tokens) (sym e) s.lexed;
      read = s.read;
      valued = let v = s.valued in rw v (ap (λ (t : List ℕ). Ok t) (sym e));
    }

-- the first token of a name is a word
first_by : (line : ℕ) (w : List ℕ) (i : Option ℕ) (t : Title w) (h : IsSmall i) → (ts : List Token) × ((part_by_shown line w i t h).tokens ≡ word_token line w ∷ ts)
unfolding part_by_shown
first_by line w None t h = ([], refl)
first_by line w (Some n) t h = (sign_token line OpenBracket ∷ number_token line n ∷ sign_token line CloseBracket ∷ [], refl)

pub name_first : (line : ℕ) (text : List ℕ) (full : IsFullName text) → (ts : List Token) × ((name_shown line text full).tokens ≡ word_token line full.first.title ∷ ts)
unfolding name_shown first_shown both_shown part_shown
name_first line text full =
    let f = first_by line full.first.title full.first.index full.one.0 full.one.1 in
    (f.0 ++ (more_shown line full.more full.all).tokens, ap (λ (l : List Token). l ++ (more_shown line full.more full.all).tokens) f.1)
