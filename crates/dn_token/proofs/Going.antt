-- The fuel of the tokens of a text is enough: each turn takes a byte or more.
use Rattle.std.proofs.Common.{◌≡◌, ◌≤◌, ◌<◌, ◌∙◌, ap, refl, sym, subst, ℕ, zero, suc, ◌+◌, Bool, true, false, if◌then◌else◌, ◌&&◌, ◌==◌, not, List, [], ◌∷◌, length, length-drop, drop, Option, None, Some, Result, Ok, arith}
use Rattle.std.specs.List.{prefix_len}
use Rattle.dn_base.proofs.Booleans.{or_left, or_right}
use Rattle.dn_token.specs.Token.{Lexeme, sign, Token, Front, taken, bad, tokens, tokens_from, with_token, then_tokens, front, word_run, after_run, number_of, word_lexeme, number_front, sign_front, sign_of, dots_or_sign, is_letter, is_digit, is_word_byte, is_line_feed, is_blank, is_slash, begins_with, after_comment}
use Rattle.dn_token.specs.declared.token.Sign.{Sign}
use Rattle.dn_token.specs.declared.token.Sign.TheVariants.{Dots}
use Rattle.dn_token.specs.Going.{tokens_of, TokensGoOn}
use Rattle.dn_token.proofs.Lexed.{turn_line, turn_blank, turn_comment, turn_front}

then_same : (line : ℕ) (fr : Front) (f g : List ℕ → Result (List Token) ℕ) → ((l : Lexeme) (rest : List ℕ) → fr ≡ taken l rest → f rest ≡ g rest) → then_tokens line fr f ≡ then_tokens line fr g
then_same line (taken l rest) f g h = ap (with_token (record { lexeme = l; line = line })) (h l rest refl)
then_same line bad f g h = refl

number_rest : (o : Option ℕ) (rest : List ℕ) (l : Lexeme) (r : List ℕ) → number_front o rest ≡ taken l r → rest ≡ r
number_rest None rest l r e = cc
number_rest (Some n) rest l r e = cc

sign_rest : (o : Option Sign) (rest : List ℕ) (l : Lexeme) (r : List ℕ) → sign_front o rest ≡ taken l r → rest ≡ r
sign_rest None rest l r e = cc
sign_rest (Some s) rest l r e = cc

drop_shorter : (n : ℕ) (s : List ℕ) → length (drop n s) ≤ length s
drop_shorter n s = omega (arith, length-drop n s)

run_shorter : (b : ℕ) (s : List ℕ) → is_word_byte b ≡ true → length (after_run (b ∷ s)) ≤ length s
run_shorter b s is =
    let n : prefix_len is_word_byte (b ∷ s) ≡ 1 + prefix_len is_word_byte s = rw is refl in
    let l = length-drop (prefix_len is_word_byte (b ∷ s)) (b ∷ s) in
    omega (arith, n, l)

dots_shorter : (b : ℕ) (s : List ℕ) (l : Lexeme) (rest : List ℕ) → dots_or_sign b s ≡ taken l rest → length rest ≤ length s
dots_shorter b s l rest e = go ((b == 46) && begins_with (λ c. c == 46) s) e
  where
    go : (d : Bool) → (if d then taken (sign Dots) (drop 1 s) else sign_front (sign_of b) s) ≡ taken l rest → length rest ≤ length s
    go true e = let same : drop 1 s ≡ rest = cc in subst (λ r. length r ≤ length s) same (drop_shorter 1 s)
    go false e = let same : s ≡ rest = sign_rest (sign_of b) s l rest e in subst (λ r. length r ≤ length s) same (omega arith)

front_shorter : (b : ℕ) (s : List ℕ) (l : Lexeme) (rest : List ℕ) → front b s ≡ taken l rest → length rest ≤ length s
front_shorter b s l rest e = go (is_letter b) refl (is_digit b) refl e
  where
    go : (p : Bool) → is_letter b ≡ p → (q : Bool) → is_digit b ≡ q → (if p then taken (word_lexeme (word_run (b ∷ s))) (after_run (b ∷ s)) else (if q then number_front (number_of (word_run (b ∷ s))) (after_run (b ∷ s)) else dots_or_sign b s)) ≡ taken l rest → length rest ≤ length s
    go true is q f e = let same : after_run (b ∷ s) ≡ rest = cc in subst (λ r. length r ≤ length s) same (run_shorter b s (or_left (is_letter b) (is_digit b) is))
    go false is true f e = let same = number_rest (number_of (word_run (b ∷ s))) (after_run (b ∷ s)) l rest e in subst (λ r. length r ≤ length s) same (run_shorter b s (or_right (is_letter b) (is_digit b) f))
    go false is false f e = dots_shorter b s l rest e

none_left : (n line : ℕ) → tokens_from n line [] ≡ Ok []
unfolding tokens_from
none_left zero line = refl
none_left (suc n) line = refl

-- more fuel than bytes gives the same tokens
pub enough : (n m line : ℕ) (s : List ℕ) → length s < n → length s < m → tokens_from n line s ≡ tokens_from m line s
enough zero m line s h k = absurd (omega arith)
enough (suc n) zero line s h k = absurd (omega arith)
enough (suc n) (suc m) line [] h k = none_left (suc n) line ∙ sym (none_left (suc m) line)
enough (suc n) (suc m) line (b ∷ s) h k = go (is_line_feed b) refl (is_blank b) refl (is_slash b && begins_with is_slash s) refl (λ line' s' le. enough n m line' s' (omega (arith, le)) (omega (arith, le)))
  where
    go : (p : Bool) → is_line_feed b ≡ p → (q : Bool) → is_blank b ≡ q → (r : Bool) → (is_slash b && begins_with is_slash s) ≡ r → ((line' : ℕ) (s' : List ℕ) → length s' ≤ length s → tokens_from n line' s' ≡ tokens_from m line' s') → tokens_from (suc n) line (b ∷ s) ≡ tokens_from (suc m) line (b ∷ s)
    go true e q f r g ih = turn_line n line b s e ∙ ih (line + 1) s (omega arith) ∙ sym (turn_line m line b s e)
    go false e true f r g ih = turn_blank n line b s e f ∙ ih line s (omega arith) ∙ sym (turn_blank m line b s e f)
    go false e false f true g ih = turn_comment n line b s e f g ∙ ih line (after_comment s) (drop_shorter _ s) ∙ sym (turn_comment m line b s e f g)
    go false e false f false g ih =
        turn_front n line b s e f g
        ∙ then_same line (front b s) (tokens_from n line) (tokens_from m line) (λ l rest at. ih line rest (front_shorter b s l rest at))
        ∙ sym (turn_front m line b s e f g)

-- what stands first decides
goes_on : (line b : ℕ) (s : List ℕ) → tokens_of line (b ∷ s) ≡ (if is_line_feed b then tokens_of (line + 1) s else (if is_blank b then tokens_of line s else (if is_slash b && begins_with is_slash s then tokens_of line (after_comment s) else then_tokens line (front b s) (tokens_of line))))
goes_on line b s = go (is_line_feed b) refl (is_blank b) refl (is_slash b && begins_with is_slash s) refl
  where
    n : ℕ
    n = length (b ∷ s)

    go : (p : Bool) → is_line_feed b ≡ p → (q : Bool) → is_blank b ≡ q → (r : Bool) → (is_slash b && begins_with is_slash s) ≡ r → tokens_of line (b ∷ s) ≡ (if p then tokens_of (line + 1) s else (if q then tokens_of line s else (if r then tokens_of line (after_comment s) else then_tokens line (front b s) (tokens_of line))))
    go true e q f r g = turn_line (length (b ∷ s)) line b s e ∙ enough (length (b ∷ s)) (suc (length s)) (line + 1) s (omega arith) (omega arith)
    go false e true f r g = turn_blank (length (b ∷ s)) line b s e f ∙ enough (length (b ∷ s)) (suc (length s)) line s (omega arith) (omega arith)
    go false e false f true g = turn_comment (length (b ∷ s)) line b s e f g ∙ enough (length (b ∷ s)) (suc (length (after_comment s))) line (after_comment s) (let le = drop_shorter (prefix_len (λ c. not (is_line_feed c)) s) s in omega arith) (omega arith)
    go false e false f false g =
        turn_front (length (b ∷ s)) line b s e f g
        ∙ then_same line (front b s) (tokens_from (length (b ∷ s)) line) (tokens_of line) (λ l rest at. let le = front_shorter b s l rest at in enough (length (b ∷ s)) (suc (length rest)) line rest (omega arith) (omega arith))

pub tokens_go_on : TokensGoOn
unfolding tokens
tokens_go_on = record { whole = λ text. refl; none = λ line. none_left 1 line; more = goes_on }
