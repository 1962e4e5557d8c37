use Rattle.std.proofs.Common.{◌≡◌, ◌∙◌, ap, sym, subst, rules, true, false, ℕ, ◌-◌, List, length, drop, take, take_all, length-drop, arith, Option, Some, None, MatchOption, IfSome}
use Rattle.dn_token.specs.Token.{after_run, digits_number, hex_value, number_of, number_within, word_run}
use Rattle.dn_token.specs.Lexing.{begins_hexadecimal}
use Rattle.dn_token.proofs.Marks.{marked, marked_number, plain_number}
use Rattle.dn_token.proofs.number.number_front.Goals as goal

-- what follows the first two bytes, as a slice
behind : (s : List ℕ) → take (length s - 2) (drop 2 s) ≡ drop 2 s
behind s = take_all (length s - 2) (drop 2 s) (omega (arith, length-drop 2 s))

pub returns-then-begins_hexadecimal-clause-seen : goal.returns-then-begins_hexadecimal-clause-seen
returns-then-begins_hexadecimal-clause-seen c =
    let s = c.args.text.now in
    let is : begins_hexadecimal s ≡ true = search rules in
    subst (λ (o : Option ℕ). MatchOption c.spelled_front.result (o ≡ None) (λ found. o ≡ Some found.0)) (sym (ap number_of (marked s is).run ∙ marked_number (word_run (drop 2 s)) ∙ ap (λ (t : List ℕ). number_within (digits_number 16 hex_value (word_run t))) (sym (behind s)))) c.spelled_front.ensures.seen

pub returns-then-begins_hexadecimal-clause-rest : goal.returns-then-begins_hexadecimal-clause-rest
returns-then-begins_hexadecimal-clause-rest c =
    let s = c.args.text.now in
    let is : begins_hexadecimal s ≡ true = search rules in
    subst (λ (t : List ℕ). IfSome c.spelled_front.result (λ found. found.1.now ≡ t)) (sym ((marked s is).rest ∙ ap after_run (sym (behind s)))) c.spelled_front.ensures.rest

pub returns-else-begins_hexadecimal-clause-seen : goal.returns-else-begins_hexadecimal-clause-seen
returns-else-begins_hexadecimal-clause-seen c =
    let s = c.args.text.now in
    let not : begins_hexadecimal s ≡ false = search rules in
    subst (λ (o : Option ℕ). MatchOption c.spelled_front-else-begins_hexadecimal.result (o ≡ None) (λ found. o ≡ Some found.0)) (sym (plain_number s not)) c.spelled_front-else-begins_hexadecimal.ensures.seen
