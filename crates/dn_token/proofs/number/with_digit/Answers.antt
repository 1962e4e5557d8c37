use Rattle.std.proofs.Common.{◌≡◌, ◌∙◌, ap, Option, Some, None, MatchOption, ◌*◌, ◌+◌, ◌^◌, ◌<◌, ◌≤◌, arith, rules, List, ℕ}
use Rattle.std.specs.Prelude.{SomeIff}
use Rattle.dn_token.specs.Token.{number_within, spelled_from, with_digit}
use Rattle.dn_token.specs.Lexing.{base_of, class_of, value_of}
use Rattle.dn_token.proofs.Classes.{digit_value, no_value}
use Rattle.dn_token.proofs.Numbers.{no_digit_value, product_past, some_base, sum_past}
use Rattle.dn_token.proofs.number.with_digit.Goals as goal

pub returns-then-base_of-digit : goal.returns-then-base_of-digit
returns-then-base_of-digit c text =
    let r = c.args.radix in
    let none = no_value r c.args.byte (omega (arith, c.if-base_of-digit.true, c.base_of.ensures, c.class_of.ensures)) in
    no_digit_value (base_of r) (value_of r) c.args.number c.args.byte text none

pub returns-in_err-checked_mul : goal.returns-in_err-checked_mul
returns-in_err-checked_mul c =
    let r = c.args.radix in
    let past : 2 ^ 64 ≤ c.args.number * base_of r = search (rules, c.in_err-checked_mul.ensures) in
    rw c.from_residual.ensures (λ text. product_past (base_of r) (value_of r) c.args.number c.args.byte text (some_base r) past)

-- the sum is the number with the digit, where it fits
sum_is : (base n b d m : ℕ) (value : ℕ → Option ℕ) (sum : Option ℕ) → 1 ≤ base → value b ≡ Some d → m ≡ n * base → SomeIff sum (m + d < 2 ^ 64) (m + d) → MatchOption sum ((text : List ℕ) → number_within (spelled_from base value (with_digit base n (value b)) text) ≡ None) (λ next. with_digit base n (value b) ≡ Some next)
sum_is base n b d m value None some is product past = λ text. sum_past base value n b d text some is (omega (arith, past, product))
sum_is base n b d m value (Some k) some is product at =
    let sum : n * base + d ≡ k = omega (arith, product, at.1) in
    ap (λ (v : Option ℕ). with_digit base n v) is ∙ ap (λ (j : ℕ). Some j) sum

pub returns : goal.returns
returns c =
    let r = c.args.radix in
    let b = c.args.byte in
    let digit = digit_value r b (omega (arith, c.if-base_of-digit.false, c.base_of.ensures, c.class_of.ensures)) in
    let product : c.in_ok-checked_mul.field-0 ≡ c.args.number * base_of r = search rules in
    let same : c.from-digit.result ≡ class_of b = search rules in
    sum_is (base_of r) c.args.number b (class_of b) c.in_ok-checked_mul.field-0 (value_of r) c.checked_add.result (some_base r) digit product (rw same at c.checked_add.ensures)
