-- The tokens with which a form may begin, and those with which it may go on at its end; and what makes each choice of the machine the right one.
use Rattle.std.proofs.Common.{◌≡◌, ◌∙◌, ◌⊎◌, inl, inr, ap, sym, refl, subst, ℕ, Bool, true, false, not, ◌&&◌, ◌||◌, List, [], ◌∷◌, ◌++◌}
use denote.Enum.Bare.{same_true}
use Rattle.std.proofs.lemmas.Slice.Eq.{bytes_eq-Decides}
use Rattle.dn_base.proofs.Booleans.{not-true, cases_Bool, false_and_true}
use Rattle.dn_token.specs.contracts.token.Sign.{the_type as the_signs}
use Rattle.dn_token.specs.contracts.token.Keyword.{the_type as the_keywords}
use Rattle.dn_token.specs.declared.token.Keyword.{Keyword}
use Rattle.dn_token.specs.declared.token.Sign.{Sign}
use Rattle.dn_token.specs.declared.token.Sign.TheVariants.{OpenParenthesis}
use Rattle.dn_token.specs.Token.{Lexeme, Token, word, keyword, number, sign}
use Rattle.dn_parse.specs.Actions.{Value, perform}
use Rattle.dn_parse.specs.Forms.{Form, takes, does, and_then, either, many, parenthesised, Sort, a_word, a_node_word, any_word, a_number, the_word, the_keyword, the_sign, is_command_word, is_any, is_the_word, is_keyword, is_sign, is}
use Rattle.dn_parse.proofs.Taken.{Inner}

-- whether a form may be left out
abbrev pub may_skip : Form → Bool
may_skip (takes s) = false
may_skip (does a) = true
may_skip (and_then f g) = may_skip f && may_skip g
may_skip (either f g) = may_skip f || may_skip g
may_skip (many f) = true
may_skip parenthesised = false

abbrev pub given : Bool → List Sort → List Sort
given true xs = xs
given false xs = []

-- the tokens with which it may begin
abbrev pub starts : Form → List Sort
starts (takes s) = s ∷ []
starts (does a) = []
starts (and_then f g) = starts f ++ given (may_skip f) (starts g)
starts (either f g) = starts f ++ starts g
starts (many f) = starts f
starts parenthesised = the_sign OpenParenthesis ∷ []

-- the tokens with which it may go on where it could also end
abbrev pub goes_on : Form → List Sort
goes_on (takes s) = []
goes_on (does a) = []
goes_on (and_then f g) = goes_on g ++ given (may_skip g) (goes_on f)
goes_on (either f g) = goes_on f ++ (goes_on g ++ given (may_skip g) (starts f))
goes_on (many f) = starts f ++ goes_on f
goes_on parenthesised = []

-- it has words that are not reserved
abbrev pub is_free_word : Sort → Bool
is_free_word a_number = false
is_free_word (the_keyword k) = false
is_free_word (the_sign s) = false
is_free_word s = true

-- it has words, reserved or not
abbrev pub is_wordy : Sort → Bool
is_wordy (the_keyword k) = true
is_wordy s = is_free_word s

-- it has words that are not reserved and begin no command
abbrev pub is_for_nodes : Sort → Bool
is_for_nodes (the_word v) = not (is_command_word v)
is_for_nodes s = is_free_word s

-- two sorts of tokens have a token in common
abbrev pub meets : Sort → Sort → Bool
meets a_word u = is_free_word u
meets a_node_word u = is_for_nodes u
meets any_word u = is_wordy u
meets a_number u = is u (number 0)
meets (the_word w) u = is u (word w)
meets (the_keyword k) u = is u (keyword k)
meets (the_sign s) u = is u (sign s)

abbrev pub meets_one : Sort → List Sort → Bool
meets_one s [] = false
meets_one s (u ∷ us) = meets s u || meets_one s us

abbrev pub apart : List Sort → List Sort → Bool
apart [] us = true
apart (s ∷ ss) us = not (meets_one s us) && apart ss us

-- one token decides what to do
abbrev pub fits : Form → Bool
fits (takes s) = true
fits (does a) = true
fits (and_then f g) = fits f && (fits g && apart (goes_on f) (starts g))
fits (either f g) = fits f && (fits g && (not (may_skip f) && apart (starts f) (starts g)))
fits (many f) = fits f && (not (may_skip f) && apart (goes_on f) (starts f))
fits parenthesised = true

-- a token is of one of these sorts
abbrev pub among : List Sort → Lexeme → Bool
among [] l = false
among (s ∷ ss) l = is s l || among ss l

-- tests
pub both_left : (a b : Bool) → a && b ≡ true → a ≡ true
both_left true b e = refl
both_left false b e = cc

pub both_right : (a b : Bool) → a && b ≡ true → b ≡ true
both_right true b e = e
both_right false b e = cc

pub neither_left : (a b : Bool) → a || b ≡ false → a ≡ false
neither_left true b e = cc
neither_left false b e = refl

pub neither_right : (a b : Bool) → a || b ≡ false → b ≡ false
neither_right true b e = cc
neither_right false b e = e

pub none_of : (a b : Bool) → a ≡ false → b ≡ false → a || b ≡ false
none_of true b e f = cc
none_of false b e f = f

pub one_left : (a b : Bool) → a ≡ true → a || b ≡ true
one_left true b e = refl
one_left false b e = cc

pub one_right : (a b : Bool) → b ≡ true → a || b ≡ true
one_right true b e = refl
one_right false b e = e

pub one_of_two : (a b : Bool) → a || b ≡ true → (a ≡ true) ⊎ (b ≡ true)
one_of_two true b e = inl refl
one_of_two false b e = inr e

-- lists of sorts
pub among_append : (xs ys : List Sort) (l : Lexeme) → among (xs ++ ys) l ≡ among xs l || among ys l
among_append [] ys l = refl
among_append (s ∷ xs) ys l = go (is s l) (among_append xs ys l)
  where
    go : (b : Bool) → among (xs ++ ys) l ≡ among xs l || among ys l → b || among (xs ++ ys) l ≡ (b || among xs l) || among ys l
    go true e = refl
    go false e = e

pub among_left : (xs ys : List Sort) (l : Lexeme) → among (xs ++ ys) l ≡ false → among xs l ≡ false
among_left xs ys l e = neither_left (among xs l) (among ys l) (sym (among_append xs ys l) ∙ e)

pub among_right : (xs ys : List Sort) (l : Lexeme) → among (xs ++ ys) l ≡ false → among ys l ≡ false
among_right xs ys l e = neither_right (among xs l) (among ys l) (sym (among_append xs ys l) ∙ e)

pub among_first : (xs ys : List Sort) (l : Lexeme) → among xs l ≡ true → among (xs ++ ys) l ≡ true
among_first xs ys l e = among_append xs ys l ∙ one_left (among xs l) (among ys l) e

pub among_second : (xs ys : List Sort) (l : Lexeme) → among ys l ≡ true → among (xs ++ ys) l ≡ true
among_second xs ys l e = among_append xs ys l ∙ one_right (among xs l) (among ys l) e

-- the word, the reserved word or the sign that a test asks for
pub the_word_is : (v : List ℕ) (l : Lexeme) → is_the_word v l ≡ true → l ≡ word v
the_word_is v (word w) e = ap word ((bytes_eq-Decides w v).0 e)
the_word_is v (keyword k) e = cc
the_word_is v (number n) e = cc
the_word_is v (sign s) e = cc

pub keyword_is : (k : Keyword) (l : Lexeme) → is_keyword k l ≡ true → l ≡ keyword k
keyword_is k (word w) e = cc
keyword_is k (keyword j) e = ap keyword (same_true the_keywords tt j k e)
keyword_is k (number n) e = cc
keyword_is k (sign s) e = cc

pub sign_is : (s : Sign) (l : Lexeme) → is_sign s l ≡ true → l ≡ sign s
sign_is s (word w) e = cc
sign_is s (keyword k) e = cc
sign_is s (number n) e = cc
sign_is s (sign u) e = ap sign (same_true the_signs tt u s e)

-- two sorts of one token meet
free_word : (u : Sort) (w : List ℕ) → is u (word w) ≡ true → is_free_word u ≡ true
free_word a_word w e = refl
free_word a_node_word w e = refl
free_word any_word w e = refl
free_word a_number w e = cc
free_word (the_word v) w e = refl
free_word (the_keyword k) w e = cc
free_word (the_sign s) w e = cc

node_word : (u : Sort) (w : List ℕ) → not (is_command_word w) ≡ true → is u (word w) ≡ true → is_for_nodes u ≡ true
node_word a_word w e f = refl
node_word a_node_word w e f = refl
node_word any_word w e f = refl
node_word a_number w e f = cc
node_word (the_word v) w e f = subst (λ (x : List ℕ). not (is_command_word x) ≡ true) ((bytes_eq-Decides w v).0 f) e
node_word (the_keyword k) w e f = cc
node_word (the_sign s) w e f = cc

wordy : (u : Sort) (l : Lexeme) → is_any l ≡ true → is u l ≡ true → is_wordy u ≡ true
wordy a_word l e f = refl
wordy a_node_word l e f = refl
wordy any_word l e f = refl
wordy a_number (word w) e f = cc
wordy a_number (keyword k) e f = cc
wordy a_number (number n) e f = cc
wordy a_number (sign x) e f = cc
wordy (the_word v) l e f = refl
wordy (the_keyword k) l e f = refl
wordy (the_sign s) (word w) e f = cc
wordy (the_sign s) (keyword k) e f = cc
wordy (the_sign s) (number n) e f = cc
wordy (the_sign s) (sign x) e f = cc

number_alike : (u : Sort) (n : ℕ) → is u (number n) ≡ is u (number 0)
number_alike a_word n = refl
number_alike a_node_word n = refl
number_alike any_word n = refl
number_alike a_number n = refl
number_alike (the_word w) n = refl
number_alike (the_keyword k) n = refl
number_alike (the_sign s) n = refl

pub common : (s u : Sort) (l : Lexeme) → is s l ≡ true → is u l ≡ true → meets s u ≡ true
common a_word u (word w) e f = free_word u w f
common a_word u (keyword k) e f = cc
common a_word u (number n) e f = cc
common a_word u (sign x) e f = cc
common a_node_word u (word w) e f = node_word u w e f
common a_node_word u (keyword k) e f = cc
common a_node_word u (number n) e f = cc
common a_node_word u (sign x) e f = cc
common any_word u l e f = wordy u l e f
common a_number u (word w) e f = cc
common a_number u (keyword k) e f = cc
common a_number u (number n) e f = sym (number_alike u n) ∙ f
common a_number u (sign x) e f = cc
common (the_word v) u l e f = subst (λ (x : Lexeme). is u x ≡ true) (the_word_is v l e) f
common (the_keyword k) u l e f = subst (λ (x : Lexeme). is u x ≡ true) (keyword_is k l e) f
common (the_sign s) u l e f = subst (λ (x : Lexeme). is u x ≡ true) (sign_is s l e) f

pub meets_among : (s : Sort) (us : List Sort) (l : Lexeme) → is s l ≡ true → among us l ≡ true → meets_one s us ≡ true
meets_among s [] l e f = cc
meets_among s (u ∷ us) l e f = elim (one_of_two (is u l) (among us l) f) [
  | inl a ↦ one_left (meets s u) (meets_one s us) (common s u l e a)
  | inr a ↦ one_right (meets s u) (meets_one s us) (meets_among s us l e a)
]

pub apart_among : (ss us : List Sort) (l : Lexeme) → apart ss us ≡ true → among ss l ≡ true → among us l ≡ false
apart_among [] us l a e = cc
apart_among (s ∷ ss) us l a e = elim (one_of_two (is s l) (among ss l) e) [
  | inl f ↦ elim (cases_Bool (among us l)) [
    | inl g ↦ absurd (false_and_true (meets_one s us) (not-true (meets_one s us) (both_left (not (meets_one s us)) (apart ss us) a)) (meets_among s us l f g))
    | inr g ↦ g
  ]
  | inr f ↦ apart_among ss us l (both_right (not (meets_one s us)) (apart ss us) a) f
]

-- what leaving a form out makes of the values
abbrev pub skipped : Form → List Value → List Value
skipped (takes s) vs = vs
skipped (does a) vs = perform a vs
skipped (and_then f g) vs = skipped g (skipped f vs)
skipped (either f g) vs = skipped g vs
skipped (many f) vs = vs
skipped parenthesised vs = vs

-- what is needed of expressions in parentheses: their first token is a parenthesis
abbrev pub IsOpened : Inner → Type 0
IsOpened N = (ts : List Token) (vs us : List Value) → N ts vs us → (t : Token) × (xs : List Token) × (ts ≡ t ∷ xs) × (is_sign OpenParenthesis t.lexeme ≡ true)
