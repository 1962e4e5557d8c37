-- Words as kinds are called by them: reserved or not.
use Rattle.std.proofs.Common.{◌≡◌, ◌∙◌, ap, sym, refl, ◌<◌, Bool, true, false, cond, ◌&&◌, bytes_eq, eqb, arith, tests, codes, length, ◌++◌, List, [], ◌∷◌, Some, IsTrue, ℕ}
use Rattle.std.specs.Fmt.{decimal}
use Rattle.std.specs.List.{list_all}
use Rattle.dn_base.proofs.Booleans.{and_parts}
use Rattle.dn_token.specs.declared.token.Keyword.{Keyword}
use Rattle.dn_token.specs.declared.token.Keyword.TheVariants.{Agent, Vectors, Unit as UnitWord, Module, Use, For, In, End, Begin, Is, Accept, Map, To, And, At, Over, Kind, Page, Slots, Reach, As, Num, Node, Resolve, Lookup, View, Grant, Route, Revoke, Dump, Split, Absorb}
use Rattle.std.proofs.lemmas.Slice.Eq.{bytes_eq-Decides}
use Rattle.dn_token.specs.Token.{word, keyword, word_among, word_lexeme, reserved_words, is_digit, is_letter, is_word_byte}
use Rattle.dn_token.specs.Words.{spelling}
use Rattle.dn_parse.specs.Descent.{any_of}
use Rattle.dn_print.specs.Spelled.{IsAnyWord}
use Rattle.dn_print.proofs.Digits.{decimal_word, decimal_digits, decimal_some}
use Rattle.dn_print.proofs.Titles.{Title}

-- a word that is read as it stands where any word may stand
abbrev pub IsWord : List ℕ → Type 0
IsWord [] = ⊥
IsWord (b ∷ w) = (is_letter b ≡ true) × IsTrue (list_all is_word_byte w) × (any_of (word_lexeme (b ∷ w)) ≡ Some (b ∷ w))

-- a word that a text can spell is read as it stands, for each reserved word is read as its spelling
abbrev AreSpelled : List (List ℕ × Keyword) → Type 0
AreSpelled [] = Unit {0}
AreSpelled (r ∷ rs) = (any_of (keyword r.1) ≡ Some r.0) × AreSpelled rs

reserved_spelled : AreSpelled reserved_words
unfolding spelling
reserved_spelled = (refl, (refl, (refl, (refl, (refl, (refl, (refl, (refl, (refl, (refl, (refl, (refl, (refl, (refl, (refl, (refl, (refl, (refl, (refl, (refl, (refl, (refl, (refl, (refl, (refl, (refl, (refl, (refl, (refl, (refl, (refl, (refl, tt))))))))))))))))))))))))))))))))

as_it_stands : (rs : List (List ℕ × Keyword)) → AreSpelled rs → (w : List ℕ) → any_of (word_among rs w) ≡ Some w
as_it_stands [] h w = refl
as_it_stands (r ∷ rs) h w = go (bytes_eq w r.0) refl (as_it_stands rs h.1 w)
  where
    go : (b : Bool) → bytes_eq w r.0 ≡ b → any_of (word_among rs w) ≡ Some w → any_of (cond b (keyword r.1) (word_among rs w)) ≡ Some w
    go true e more = h.0 ∙ ap (λ (v : List ℕ). Some v) (sym ((bytes_eq-Decides w r.0).0 e))
    go false e more = more

pub any_word : (w : List ℕ) → IsAnyWord w → IsWord w
unfolding word_lexeme
any_word [] h = absurd h
any_word (b ∷ w) h = (h.0, h.1, as_it_stands reserved_words reserved_spelled (b ∷ w))

pub word_any : (w : List ℕ) → IsWord w → IsAnyWord w
word_any [] h = absurd h
word_any (b ∷ w) h = (h.0, h.1)

-- a word that is not reserved
pub title_word : (w : List ℕ) → Title w → IsWord w
title_word [] t = absurd t
title_word (b ∷ w) t = (t.0, t.1, ap any_of t.2)

-- the spelling of a reserved word
abbrev pub IsReserved : Keyword → List ℕ → Type 0
IsReserved k [] = ⊥
IsReserved k (b ∷ w) = (is_letter b ≡ true) × IsTrue (list_all is_word_byte w) × (word_lexeme (b ∷ w) ≡ keyword k)

pub keyword_reserved : (k : Keyword) → IsReserved k (spelling k)
unfolding spelling word_lexeme
keyword_reserved Agent = (refl, refl, refl)
keyword_reserved Vectors = (refl, refl, refl)
keyword_reserved UnitWord = (refl, refl, refl)
keyword_reserved Module = (refl, refl, refl)
keyword_reserved Use = (refl, refl, refl)
keyword_reserved For = (refl, refl, refl)
keyword_reserved In = (refl, refl, refl)
keyword_reserved End = (refl, refl, refl)
keyword_reserved Begin = (refl, refl, refl)
keyword_reserved Is = (refl, refl, refl)
keyword_reserved Accept = (refl, refl, refl)
keyword_reserved Map = (refl, refl, refl)
keyword_reserved To = (refl, refl, refl)
keyword_reserved And = (refl, refl, refl)
keyword_reserved At = (refl, refl, refl)
keyword_reserved Over = (refl, refl, refl)
keyword_reserved Kind = (refl, refl, refl)
keyword_reserved Page = (refl, refl, refl)
keyword_reserved Slots = (refl, refl, refl)
keyword_reserved Reach = (refl, refl, refl)
keyword_reserved As = (refl, refl, refl)
keyword_reserved Num = (refl, refl, refl)
keyword_reserved Node = (refl, refl, refl)
keyword_reserved Resolve = (refl, refl, refl)
keyword_reserved Lookup = (refl, refl, refl)
keyword_reserved View = (refl, refl, refl)
keyword_reserved Grant = (refl, refl, refl)
keyword_reserved Route = (refl, refl, refl)
keyword_reserved Revoke = (refl, refl, refl)
keyword_reserved Dump = (refl, refl, refl)
keyword_reserved Split = (refl, refl, refl)
keyword_reserved Absorb = (refl, refl, refl)

reserved_word : (k : Keyword) (w : List ℕ) → spelling k ≡ w → IsReserved k w → IsWord w
reserved_word k [] e h = absurd h
reserved_word k (b ∷ w) e h = (h.0, h.1, ap any_of h.2 ∙ ap (λ (v : List ℕ). Some v) e)

pub keyword_word : (k : Keyword) → IsWord (spelling k)
keyword_word k = reserved_word k (spelling k) refl (keyword_reserved k)

-- the word `acc` with a number behind it is not reserved: of the reserved words `accept` alone begins so, and `e` is no digit
not_e : (d : ℕ) → is_digit d ≡ true → eqb d 101 ≡ false
not_e d h = grind (arith, tests)

acc_word : (s : List ℕ) → IsTrue (list_all is_digit s) → 0 < length s → word_lexeme (codes "acc" ++ s) ≡ word (codes "acc" ++ s)
unfolding word_lexeme
acc_word [] h l = absurd (omega arith)
acc_word (d ∷ s) h l =
    let e = not_e d (and_parts (is_digit d) (list_all is_digit s) h).0 in
    ap (λ (b : Bool). cond (b && bytes_eq s (codes "pt")) (keyword Accept) (word (codes "acc" ++ (d ∷ s)))) e

pub acc_title : (k : ℕ) → Title (codes "acc" ++ decimal k)
acc_title k = (refl, decimal_word k, acc_word (decimal k) (decimal_digits k) (decimal_some k))
