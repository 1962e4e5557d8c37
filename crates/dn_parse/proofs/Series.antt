-- Rows of parts, where a part may be refused: the values so far, and what the rest of the tokens adds to them.
use Rattle.std.proofs.Common.{◌≡◌, ◌∙◌, ap, refl, sym, ℕ, zero, suc, ◌-◌, ◌<◌, List, [], ◌∷◌, ◌++◌, length, Some, None, IfSome, Result, Ok, Err, append_assoc, append-nil, arith}
use Rattle.dn_token.specs.Token.{Token}
use Rattle.dn_parse.specs.declared.cursor.Halt.{Halt}
use Rattle.dn_parse.specs.declared.cursor.Halt.TheVariants.{Refused, Deep, OutOfMemory}
use Rattle.dn_parse.specs.Machine.{Stop, refused, deep}
use Rattle.dn_parse.specs.Faults.{halt_view}
use Rattle.dn_parse.specs.Descent.{and_then, Read, Next, Reader, with_front, row, row_from, row_at, first_and, first_and_most}

-- The values found are those of the whole up to the rest.
pub record Found {X : Type 0} (next : List Token → Next X) (whole : Read (List X)) (found : List X) (rest : List Token) : Type 0 where
  pub fuel : ℕ
  pub enough : length rest < fuel
  pub read : whole ≡ with_front found (row next fuel rest)

with_none : {X : Type 0} (r : Read (List X)) → r ≡ with_front [] r
with_none (Err s) = refl
with_none (Ok r) = refl

with_one : {X : Type 0} (found : List X) (x : X) (r : Read (List X)) → with_front found (with_front (x ∷ []) r) ≡ with_front (found ++ x ∷ []) r
with_one found x (Err s) = refl
with_one {X} found x (Ok r) = ap (λ (l : List X). Ok (l, r.1)) (sym (append_assoc found (x ∷ []) r.0))

module _ {X : Type 0} {next : List Token → Next X} where
  pub found_first : (whole : Read (List X)) (x : X) (rest : List Token) → whole ≡ with_front (x ∷ []) (row_at next rest) → Found next whole (x ∷ []) rest
  unfolding row_at
  found_first whole x rest e = record { fuel = suc (length rest); enough = omega arith; read = e }

  pub found_more : {whole : Read (List X)} {found : List X} {rest : List Token} → Found next whole found rest → (x : X) (after : List Token) → next rest ≡ Ok (Some (x, after)) → length after < length rest → Found next whole (found ++ x ∷ []) after
  found_more {whole} {found} {rest} before x after is shorter = go before.fuel before.enough before.read where
    go : (n : ℕ) → length rest < n → whole ≡ with_front found (row next n rest) → Found next whole (found ++ x ∷ []) after
    go zero lt e = absurd (omega (arith, lt))
    go (suc n) lt e = record { fuel = n; enough = omega (arith, lt, shorter); read = e ∙ ap (λ (o : Next X). with_front found (and_then o (λ f. row_from rest f (row next n)))) is ∙ with_one found x (row next n after) }

  pub found_all : {whole : Read (List X)} {found : List X} {rest : List Token} → Found next whole found rest → next rest ≡ Ok None → whole ≡ Ok (found, rest)
  found_all {whole} {found} {rest} before is = go before.fuel before.enough before.read where
    go : (n : ℕ) → length rest < n → whole ≡ with_front found (row next n rest) → whole ≡ Ok (found, rest)
    go zero lt e = absurd (omega (arith, lt))
    go (suc n) lt e = e ∙ ap (λ (o : Next X). with_front found (and_then o (λ f. row_from rest f (row next n)))) is ∙ ap (λ (l : List X). Ok (l, rest)) (append-nil found)

  pub found_stop : {whole : Read (List X)} {found : List X} {rest : List Token} → Found next whole found rest → (s : Stop) → next rest ≡ Err s → whole ≡ Err s
  found_stop {whole} {found} {rest} before s is = go before.fuel before.enough before.read where
    go : (n : ℕ) → length rest < n → whole ≡ with_front found (row next n rest) → whole ≡ Err s
    go zero lt e = absurd (omega (arith, lt))
    go (suc n) lt e = e ∙ ap (λ (o : Next X). with_front found (and_then o (λ f. row_from rest f (row next n)))) is

-- a halt stays one, where more stops with it
pub halted : {A B : Type 0} (e : Halt) (r : Result A Stop) (r' : Result B Stop) → IfSome (halt_view e) (λ s. r ≡ Err s) → ((s : Stop) → r ≡ Err s → r' ≡ Err s) → IfSome (halt_view e) (λ s. r' ≡ Err s)
halted (Refused n) r r' is stays = stays (refused n) is
halted (Deep n) r r' is stays = stays (deep n) is
halted OutOfMemory r r' is stays = tt

-- the first part of a row
pub first_stops : {X : Type 0} (reader : Reader X) (next : List Token → Next X) (ts : List Token) (s : Stop) → reader ts ≡ Err s → first_and reader next ts ≡ Err s
first_stops {X} reader next ts s is = ap (λ (r : Read X). and_then r (λ first. with_front (first.0 ∷ []) (row_at next first.1))) is

pub first_read : {X : Type 0} (reader : Reader X) (next : List Token → Next X) (ts : List Token) (x : X) (rest : List Token) → reader ts ≡ Ok (x, rest) → first_and reader next ts ≡ with_front (x ∷ []) (row_at next rest)
first_read {X} reader next ts x rest is = ap (λ (r : Read X). and_then r (λ first. with_front (first.0 ∷ []) (row_at next first.1))) is

-- at most so many more
pub most_stops : {X : Type 0} (n : ℕ) (reader : Reader X) (next : List Token → Next X) (ts : List Token) (s : Stop) → reader ts ≡ Err s → first_and_most n reader next ts ≡ Err s
most_stops {X} n reader next ts s is = ap (λ (r : Read X). and_then r (λ first. with_front (first.0 ∷ []) (row next n first.1))) is

pub most_read : {X : Type 0} (n : ℕ) (reader : Reader X) (next : List Token → Next X) (ts : List Token) (x : X) (rest : List Token) → reader ts ≡ Ok (x, rest) → first_and_most n reader next ts ≡ with_front (x ∷ []) (row next n rest)
most_read {X} n reader next ts x rest is = ap (λ (r : Read X). and_then r (λ first. with_front (first.0 ∷ []) (row next n first.1))) is

pub most_more : {X : Type 0} (next : List Token → Next X) (n : ℕ) → 0 < n → (whole : Read (List X)) (found : List X) (rest : List Token) (x : X) (after : List Token) → whole ≡ with_front found (row next n rest) → next rest ≡ Ok (Some (x, after)) → whole ≡ with_front (found ++ x ∷ []) (row next (n - 1) after)
most_more next zero h whole found rest x after e is = absurd (omega arith)
most_more {X} next (suc n) h whole found rest x after e is =
    let less : suc n - 1 ≡ n = omega arith in
    e ∙ ap (λ (o : Next X). with_front found (and_then o (λ f. row_from rest f (row next n)))) is ∙ with_one found x (row next n after) ∙ ap (λ (m : ℕ). with_front (found ++ x ∷ []) (row next m after)) (sym less)

pub most_none : {X : Type 0} (next : List Token → Next X) (n : ℕ) → 0 < n → (whole : Read (List X)) (found : List X) (rest : List Token) → whole ≡ with_front found (row next n rest) → next rest ≡ Ok None → whole ≡ Ok (found, rest)
most_none next zero h whole found rest e is = absurd (omega arith)
most_none {X} next (suc n) h whole found rest e is = e ∙ ap (λ (o : Next X). with_front found (and_then o (λ f. row_from rest f (row next n)))) is ∙ ap (λ (l : List X). Ok (l, rest)) (append-nil found)

pub most_full : {X : Type 0} (next : List Token → Next X) (n : ℕ) → n ≡ 0 → (whole : Read (List X)) (found : List X) (rest : List Token) → whole ≡ with_front found (row next n rest) → whole ≡ Ok (found, rest)
most_full {X} next zero h whole found rest e = e ∙ ap (λ (l : List X). Ok (l, rest)) (append-nil found)
most_full next (suc n) h whole found rest e = absurd (omega arith)

pub most_stop : {X : Type 0} (next : List Token → Next X) (n : ℕ) → 0 < n → (whole : Read (List X)) (found : List X) (rest : List Token) (s : Stop) → whole ≡ with_front found (row next n rest) → next rest ≡ Err s → whole ≡ Err s
most_stop next zero h whole found rest s e is = absurd (omega arith)
most_stop {X} next (suc n) h whole found rest s e is = e ∙ ap (λ (o : Next X). with_front found (and_then o (λ f. row_from rest f (row next n)))) is
