use Rattle.std.proofs.Common.{◌≡◌, ◌∙◌, ap, true, Option, ◌+◌, get_or, drop, arith, rules, ℕ}
use Rattle.dn_token.specs.Token.{is_word_byte, number_within, spelled_from, word_run}
use Rattle.dn_token.specs.Lexing.{base_of, value_of}
use Rattle.dn_token.proofs.Numbers.{next_byte, passed_one, run_stops}
use Rattle.dn_token.proofs.number.spelled_front.Goals as goal

pub returns-in_err-number-clause-seen : goal.returns-in_err-number-clause-seen
returns-in_err-number-clause-seen c =
    let s = c.args.text.now in
    let i = c.loop-length.length in
    let is : is_word_byte (get_or s i 0) ≡ true = search rules in
    rw c.from_residual.ensures (run_stops (base_of c.args.radix) (value_of c.args.radix) s c.loop-length.number i (omega arith) c.loop-length.invariant.passed is c.loop-length.invariant.spelled (c.in_err-number.ensures (drop (i + 1) (word_run s))))

pub loop-length-preserved : goal.loop-length-preserved
loop-length-preserved c =
    let r = c.args.radix in
    let s = c.args.text.now in
    let i = c.loop-length.length in
    let n = c.loop-length.number in
    let is : is_word_byte (get_or s i 0) ≡ true = search rules in
    record {
      within = omega arith;
      passed = passed_one (base_of r) (value_of r) s n i (omega arith) c.loop-length.invariant.passed is;
      spelled =
          c.loop-length.invariant.spelled ∙ next_byte (base_of r) (value_of r) s n i (omega arith) c.loop-length.invariant.passed is
          ∙ ap (λ (v : Option ℕ). number_within (spelled_from (base_of r) (value_of r) v (drop (i + 1) (word_run s)))) c.in_ok-number.ensures;
      fits = search rules;
    }
