-- Sums and products of values, member by member.
use Rattle.std.proofs.Common.{rules, arith, ◌≡◌, ◌∙◌, ap, sym, subst, refl, ℕ, zero, suc, ◌+◌, ◌*◌, ◌^◌, ◌<◌, ◌≤◌, ◌⊎◌, inl, inr, if◌then◌else◌, nat_lt, true, false, List, ◌∷◌, map, drop, get_or, length, Result, Ok, Err}
use Rattle.std.proofs.Math.ListN.{drop_of_length-le}
use Rattle.std.proofs.Math.Nat.{mul_assoc, mul-zero, mul-suc, mul-one}
use Rattle.dn_base.proofs.Lists.{drop_at}
use Rattle.dn_parse.specs.Tree.{Expression, expressions}
use Rattle.dn_scope.specs.Values.{Flaw, out_of_range, ◌>>=◌, value, values, number_or_flaw, sum_of, product_of}
use Rattle.dn_scope.specs.Replace.{in_expression, in_expressions}

-- a value, limited to one past the largest
abbrev pub limit_of : ℕ → ℕ
limit_of n = if nat_lt n (2 ^ 64) then n else 2 ^ 64

-- the values of the members under numbers
abbrev pub members_of : {X : Type 0} → (X → Expression) → List (List ℕ × ℕ) → List X → Result (List ℕ) Flaw
members_of g ns xs = values (in_expressions ns (expressions (map g xs)))

-- the total so far and the rest, judged whole
abbrev pub summed : ℕ → Result (List ℕ) Flaw → Result ℕ Flaw
summed total rest = rest >>= (λ ms. number_or_flaw (total + sum_of ms))

abbrev pub multiplied : ℕ → Result (List ℕ) Flaw → Result ℕ Flaw
multiplied total rest = rest >>= (λ ms. number_or_flaw (total * product_of ms))

is_less : (n : ℕ) → n < 2 ^ 64 → nat_lt n (2 ^ 64) ≡ true
is_less n l = search (rules, arith)

not_less : (n : ℕ) → 2 ^ 64 ≤ n → nat_lt n (2 ^ 64) ≡ false
not_less n l = search (rules, arith)

less_or_not : (a : ℕ) → (a < 2 ^ 64) ⊎ (2 ^ 64 ≤ a)
less_or_not a = grind arith

exceeds : (n : ℕ) → 2 ^ 64 ≤ n → number_or_flaw n ≡ Err out_of_range
exceeds n l = ap (λ b. if b then Ok n else Err out_of_range) (not_less n l)

pub limit_small : (n : ℕ) → limit_of n ≤ 2 ^ 64
limit_small n = go (less_or_not n)
  where
    go : (n < 2 ^ 64) ⊎ (2 ^ 64 ≤ n) → limit_of n ≤ 2 ^ 64
    go (inl l) = subst (λ b. (if b then n else 2 ^ 64) ≤ 2 ^ 64) (sym (is_less n l)) (omega (arith, l))
    go (inr h) = subst (λ b. (if b then n else 2 ^ 64) ≤ 2 ^ 64) (sym (not_less n h)) (omega arith)

-- a part of a sum may be limited before the sum is judged
limited_part : (a r : ℕ) → (a < 2 ^ 64) ⊎ (2 ^ 64 ≤ a) → number_or_flaw (limit_of a + r) ≡ number_or_flaw (a + r)
limited_part a r (inl l) = ap (λ b. number_or_flaw ((if b then a else 2 ^ 64) + r)) (is_less a l)
limited_part a r (inr h) =
    let whole : limit_of a ≡ 2 ^ 64 = ap (λ b. if b then a else 2 ^ 64) (not_less a h) in
    exceeds (limit_of a + r) (omega (arith, whole)) ∙ sym (exceeds (a + r) (omega (arith, h)))

-- and so may a factor
limited_factor : (a r : ℕ) → (a < 2 ^ 64) ⊎ (2 ^ 64 ≤ a) → number_or_flaw (limit_of a * r) ≡ number_or_flaw (a * r)
limited_factor a r (inl l) = ap (λ b. number_or_flaw ((if b then a else 2 ^ 64) * r)) (is_less a l)
limited_factor a zero (inr h) = ap (λ n. number_or_flaw n) (mul-zero (limit_of a) ∙ sym (mul-zero a))
limited_factor a (suc r) (inr h) =
    let whole : limit_of a ≡ 2 ^ 64 = ap (λ b. if b then a else 2 ^ 64) (not_less a h) in
    let s : limit_of a * suc r ≡ limit_of a * r + limit_of a = mul-suc (limit_of a) r in
    let t : a * suc r ≡ a * r + a = mul-suc a r in
    exceeds (limit_of a * suc r) (omega (arith, s, whole)) ∙ sym (exceeds (a * suc r) (omega (arith, t, h)))

add_both : (a b c : ℕ) → a + (b + c) ≡ (a + b) + c
add_both a b c = omega arith

summed_twice : (a n : ℕ) (o : Result (List ℕ) Flaw) → summed a (o >>= (λ ms. Ok (n ∷ ms))) ≡ summed (limit_of (a + n)) o
summed_twice a n (Err f) = refl
summed_twice a n (Ok ms) = ap (λ m. number_or_flaw m) (add_both a n (sum_of ms)) ∙ sym (limited_part (a + n) (sum_of ms) (less_or_not (a + n)))

multiplied_twice : (a n : ℕ) (o : Result (List ℕ) Flaw) → multiplied a (o >>= (λ ms. Ok (n ∷ ms))) ≡ multiplied (limit_of (a * n)) o
multiplied_twice a n (Err f) = refl
multiplied_twice a n (Ok ms) = ap (λ m. number_or_flaw m) (sym (mul_assoc a n (product_of ms))) ∙ sym (limited_factor (a * n) (product_of ms) (less_or_not (a * n)))

-- the members from one on, whose value is there
members_next : {X : Type 0} (g : X → Expression) (ns : List (List ℕ × ℕ)) (xs : List X) (i : ℕ) (x : X) (n : ℕ) → i < length xs → x ≡ get_or xs i x → value (in_expression ns (g x)) ≡ Ok n → members_of g ns (drop i xs) ≡ (members_of g ns (drop (i + 1) xs) >>= (λ ms. Ok (n ∷ ms)))
members_next g ns xs i x n h at e =
    ap (λ l. members_of g ns l) (drop_at xs i x h at)
    ∙ ap (λ (o : Result ℕ Flaw). o >>= (λ n. members_of g ns (drop (i + 1) xs) >>= (λ ms. Ok (n ∷ ms)))) e

-- the members from one on, whose value is not there
pub members_flawed : {X : Type 0} (g : X → Expression) (ns : List (List ℕ × ℕ)) (xs : List X) (i : ℕ) (x : X) (f : Flaw) → i < length xs → x ≡ get_or xs i x → value (in_expression ns (g x)) ≡ Err f → members_of g ns (drop i xs) ≡ Err f
members_flawed g ns xs i x f h at e =
    ap (λ l. members_of g ns l) (drop_at xs i x h at)
    ∙ ap (λ (o : Result ℕ Flaw). o >>= (λ n. members_of g ns (drop (i + 1) xs) >>= (λ ms. Ok (n ∷ ms)))) e

pub sum_step : {X : Type 0} (g : X → Expression) (ns : List (List ℕ × ℕ)) (xs : List X) (i : ℕ) (x : X) (n total : ℕ) (whole : Result ℕ Flaw) → i < length xs → x ≡ get_or xs i x → value (in_expression ns (g x)) ≡ Ok n → whole ≡ summed total (members_of g ns (drop i xs)) → whole ≡ summed (limit_of (total + n)) (members_of g ns (drop (i + 1) xs))
sum_step g ns xs i x n total whole h at e so_far =
    so_far ∙ ap (λ o. summed total o) (members_next g ns xs i x n h at e) ∙ summed_twice total n (members_of g ns (drop (i + 1) xs))

pub product_step : {X : Type 0} (g : X → Expression) (ns : List (List ℕ × ℕ)) (xs : List X) (i : ℕ) (x : X) (n total : ℕ) (whole : Result ℕ Flaw) → i < length xs → x ≡ get_or xs i x → value (in_expression ns (g x)) ≡ Ok n → whole ≡ multiplied total (members_of g ns (drop i xs)) → whole ≡ multiplied (limit_of (total * n)) (members_of g ns (drop (i + 1) xs))
product_step g ns xs i x n total whole h at e so_far =
    so_far ∙ ap (λ o. multiplied total o) (members_next g ns xs i x n h at e) ∙ multiplied_twice total n (members_of g ns (drop (i + 1) xs))

add_none : (n : ℕ) → n + 0 ≡ n
add_none n = omega arith

pub sum_end : {X : Type 0} (g : X → Expression) (ns : List (List ℕ × ℕ)) (xs : List X) (i total : ℕ) → length xs ≤ i → summed total (members_of g ns (drop i xs)) ≡ number_or_flaw total
sum_end g ns xs i total h = ap (λ l. summed total (members_of g ns l)) (drop_of_length-le xs h) ∙ ap (λ n. number_or_flaw n) (add_none total)

pub product_end : {X : Type 0} (g : X → Expression) (ns : List (List ℕ × ℕ)) (xs : List X) (i total : ℕ) → length xs ≤ i → multiplied total (members_of g ns (drop i xs)) ≡ number_or_flaw total
product_end g ns xs i total h = ap (λ l. multiplied total (members_of g ns l)) (drop_of_length-le xs h) ∙ ap (λ n. number_or_flaw n) (mul-one total)
