-- Words and full names that a text can spell.
use Rattle.std.specs.Prelude.{◌≡◌, ℕ, ◌<◌, ◌^◌, true, List, [], ◌∷◌, ◌++◌, map, codes, Option, Some, None, IsTrue}
use Rattle.std.specs.Fmt.{decimal}
use Rattle.std.specs.List.{list_all}
use Rattle.dn_token.specs.Token.{word, word_lexeme, is_letter, is_word_byte}
use Rattle.dn_scope.specs.Values.{after_dots}

-- a word, reserved or not: a letter, and then letters, digits and `_`
abbrev pub IsAnyWord : List ℕ → Type 0
IsAnyWord [] = ⊥
IsAnyWord (b ∷ w) = (is_letter b ≡ true) × IsTrue (list_all is_word_byte w)

-- a word that is not reserved
abbrev pub Title : List ℕ → Type 0
Title [] = ⊥
Title (b ∷ w) =
    (is_letter b ≡ true) × IsTrue (list_all is_word_byte w) × (word_lexeme (b ∷ w) ≡ word (b ∷ w))

-- a part of a full name: a word, with or without an index
pub record Label : Type 0 where
  pub title : List ℕ
  pub index : Option ℕ

-- a word with its index in brackets, where it has one
abbrev pub label_by : List ℕ → Option ℕ → List ℕ
label_by w None = w
label_by w (Some n) = w ++ (codes "[" ++ (decimal n ++ codes "]"))

-- the text of a part
abbrev pub label_text : Label → List ℕ
label_text l = label_by l.title l.index

-- an index is a number of 64 bits
abbrev pub IsSmall : Option ℕ → Type 0
IsSmall None = Unit {0}
IsSmall (Some n) = n < 2 ^ 64

-- the word of a part is not reserved, and its index is a number of 64 bits
abbrev pub IsLabel : Label → Type 0
IsLabel l = Title l.title × IsSmall l.index

-- each of the parts is so
abbrev pub AreLabels : List Label → Type 0
AreLabels [] = Unit {0}
AreLabels (l ∷ ls) = IsLabel l × AreLabels ls

-- a full name: one part or more, joined by dots
pub record IsFullName (text : List ℕ) : Type 0 where
  pub first : Label
  pub more : List Label
  pub one : IsLabel first
  pub all : AreLabels more
  pub is : text ≡ label_text first ++ after_dots (map label_text more)
