-- Fields of an image: one that is right is passed over, and the first that is not is what is wrong.
use Rattle.std.proofs.Common.{◌≡◌, ℕ, zero, suc, ◌+◌, ◌-◌, ◌*◌, ◌<◌, ◌≤◌, Bool, true, false, if◌then◌else◌, nat_lt, List, [], ◌∷◌, ◌++◌, length, take, drop, replicate, Option, Some, None, refl, sym, ap, ◌∙◌, arith, length-drop, lt-ltb, ltb-true}
use Rattle.std.proofs.lemmas.List.{drop-drop}
use Rattle.std.proofs.lemmas.Slice.Eq.{bytes_eq-Decides}
use Rattle.std.specs.Str.{bytes_eq}
use Rattle.dn_base.proofs.Orders.{le-ltb, ltb-false}
use Rattle.dn_image.specs.Reading.{BrokenImage, Field, exactly, word_field, first_wrong, broken_in}
use Rattle.dn_image.specs.Reading.BrokenImage.{ends, trails}

-- a field before which the bytes end
pub short_field : (total : ℕ) (f : Field) (fs : List Field) (rest : List ℕ) → length rest < f.size → broken_in total (f ∷ fs) rest ≡ Some (ends total)
short_field total f fs rest l = ap (λ b. if b then Some (ends total) else first_wrong (f.wrong (take f.size rest)) (broken_in total fs (drop f.size rest))) (lt-ltb (length rest) f.size l)

-- a field that is there
pub field_there : (total : ℕ) (f : Field) (fs : List Field) (rest : List ℕ) → f.size ≤ length rest → broken_in total (f ∷ fs) rest ≡ first_wrong (f.wrong (take f.size rest)) (broken_in total fs (drop f.size rest))
field_there total f fs rest l = ap (λ b. if b then Some (ends total) else first_wrong (f.wrong (take f.size rest)) (broken_in total fs (drop f.size rest))) (le-ltb (length rest) f.size l)

-- one with which nothing is wrong
pub right_field : (total : ℕ) (f : Field) (fs : List Field) (rest : List ℕ) → f.size ≤ length rest → f.wrong (take f.size rest) ≡ None → broken_in total (f ∷ fs) rest ≡ broken_in total fs (drop f.size rest)
right_field total f fs rest l e = field_there total f fs rest l ∙ ap (λ o. first_wrong o (broken_in total fs (drop f.size rest))) e

-- one with which something is wrong
pub wrong_field : (total : ℕ) (f : Field) (fs : List Field) (rest : List ℕ) (b : BrokenImage) → f.size ≤ length rest → f.wrong (take f.size rest) ≡ Some b → broken_in total (f ∷ fs) rest ≡ Some b
wrong_field total f fs rest b l e = field_there total f fs rest l ∙ ap (λ o. first_wrong o (broken_in total fs (drop f.size rest))) e

-- the bytes of a field that has to have certain bytes
pub exactly_right : (bytes given : List ℕ) (broken : BrokenImage) → bytes ≡ given → (exactly bytes broken).wrong given ≡ None
exactly_right bytes given broken e = ap (λ b. if b then None else Some broken) ((bytes_eq-Decides bytes given).1 e)

pub exactly_wrong : (bytes given : List ℕ) (broken : BrokenImage) → (bytes ≡ given → ⊥) → (exactly bytes broken).wrong given ≡ Some broken
exactly_wrong bytes given broken e = go (bytes_eq bytes given) refl
  where
    go : (b : Bool) → bytes_eq bytes given ≡ b → (exactly bytes broken).wrong given ≡ Some broken
    go true f = absurd (e ((bytes_eq-Decides bytes given).0 f))
    go false f = ap (λ b. if b then None else Some broken) f

pub exactly_given : (bytes given : List ℕ) (broken : BrokenImage) → (exactly bytes broken).wrong given ≡ None → bytes ≡ given
exactly_given bytes given broken e = go (bytes_eq bytes given) refl e
  where
    go : (b : Bool) → bytes_eq bytes given ≡ b → (if b then None else Some broken) ≡ None → bytes ≡ given
    go true f h = (bytes_eq-Decides bytes given).0 f
    go false f h = cc

-- so many words are there
pub words_there : (total n : ℕ) (fs : List Field) (rest : List ℕ) → 8 * n ≤ length rest → broken_in total (replicate n word_field ++ fs) rest ≡ broken_in total fs (drop (8 * n) rest)
words_there total zero fs rest l = refl
words_there total (suc n) fs rest l =
    let d : length (drop 8 rest) ≡ length rest - 8 = length-drop 8 rest in
    let e : 8 + 8 * n ≡ 8 * suc n = omega arith in
    right_field total word_field (replicate n word_field ++ fs) rest (omega arith) refl
    ∙ words_there total n fs (drop 8 rest) (omega arith)
    ∙ ap (broken_in total fs) (drop-drop (8 * n) 8 rest ∙ ap (λ k. drop k rest) e)

-- or the bytes end before they do
pub words_short : (total n : ℕ) (fs : List Field) (rest : List ℕ) → length rest < 8 * n → broken_in total (replicate n word_field ++ fs) rest ≡ Some (ends total)
words_short total zero fs rest l = absurd (omega arith)
words_short total (suc n) fs rest l = go (λ h. words_short total n fs (drop 8 rest) (later h)) (nat_lt (length rest) 8) refl
  where
    later : 8 ≤ length rest → length (drop 8 rest) < 8 * n
    later h = let d : length (drop 8 rest) ≡ length rest - 8 = length-drop 8 rest in omega arith

    go : (8 ≤ length rest → broken_in total (replicate n word_field ++ fs) (drop 8 rest) ≡ Some (ends total)) → (b : Bool) → nat_lt (length rest) 8 ≡ b → broken_in total (replicate (suc n) word_field ++ fs) rest ≡ Some (ends total)
    go next true e = short_field total word_field (replicate n word_field ++ fs) rest (ltb-true (length rest) 8 e)
    go next false e =
        let h : 8 ≤ length rest = ltb-false (length rest) 8 e in
        right_field total word_field (replicate n word_field ++ fs) rest h refl ∙ next h

-- nothing is wrong with a field and those behind it
pub record IsRight (total : ℕ) (f : Field) (fs : List Field) (rest : List ℕ) : Type 0 where
  pub there : f.size ≤ length rest
  pub right : f.wrong (take f.size rest) ≡ None
  pub later : broken_in total fs (drop f.size rest) ≡ None

pub right_first : (total : ℕ) (f : Field) (fs : List Field) (rest : List ℕ) → broken_in total (f ∷ fs) rest ≡ None → IsRight total f fs rest
right_first total f fs rest e = go (nat_lt (length rest) f.size) refl (f.wrong (take f.size rest)) refl e
  where
    go : (b : Bool) → nat_lt (length rest) f.size ≡ b → (o : Option BrokenImage) → f.wrong (take f.size rest) ≡ o → (if b then Some (ends total) else first_wrong o (broken_in total fs (drop f.size rest))) ≡ None → IsRight total f fs rest
    go true s o w h = cc
    go false s (Some x) w h = cc
    go false s None w h = record { there = ltb-false (length rest) f.size s; right = w; later = h }

-- nothing is wrong with words and the fields behind them
pub words_right : (total n : ℕ) (fs : List Field) (rest : List ℕ) → broken_in total (replicate n word_field ++ fs) rest ≡ None → (8 * n ≤ length rest) × (broken_in total fs (drop (8 * n) rest) ≡ None)
words_right total n fs rest e = go (nat_lt (length rest) (8 * n)) refl
  where
    go : (b : Bool) → nat_lt (length rest) (8 * n) ≡ b → (8 * n ≤ length rest) × (broken_in total fs (drop (8 * n) rest) ≡ None)
    go true s = let f : ◌≡◌ {A = Option BrokenImage} (Some (ends total)) None = sym (words_short total n fs rest (ltb-true (length rest) (8 * n) s)) ∙ e in cc
    go false s = let h : 8 * n ≤ length rest = ltb-false (length rest) (8 * n) s in (h, sym (words_there total n fs rest h) ∙ e)

-- and after the last field the bytes end
pub ended : (total : ℕ) (rest : List ℕ) → broken_in total [] rest ≡ None → rest ≡ []
ended total [] e = refl
ended total (b ∷ bs) e =
    let more : nat_lt 0 (length (b ∷ bs)) ≡ true = lt-ltb 0 (length (b ∷ bs)) (omega arith) in
    let f : ◌≡◌ {A = Option BrokenImage} (Some (trails (total - length (b ∷ bs)))) None = sym (ap (λ c. if c then Some (trails (total - length (b ∷ bs))) else None) more) ∙ e in
    cc
