use Rattle.std.proofs.Common.{◌≡◌, ◌∙◌, ap, sym, cond, ℕ, ◌+◌, ◌-◌, ◌<◌, ◌≤◌, suc, Bool, Option, Some, None, List, refl, arith}
use Rattle.std.specs.Prelude.{find}
use Rattle.std.specs.List.{range_with_len}
use Rattle.std.specs.Fmt.{decimal}
use Rattle.std.specs.Str.{bytes_eq}
use Rattle.dn_words.specs.Words.{agents_of}
use Rattle.dn_words.proofs.number.agents.Goals as goal

-- the first of the numbers from one on, up to 64, that a word spells
abbrev spelled_from : List ℕ → ℕ → Option ℕ
spelled_from word n = find (λ k. bytes_eq word (decimal k)) (range_with_len n (65 - n))

-- is that one, or else it is one of those behind it
spelled_next : (word : List ℕ) (n : ℕ) → n < 65 → spelled_from word n ≡ cond (bytes_eq word (decimal n)) (Some n) (spelled_from word (n + 1))
spelled_next word n h =
    let more : 65 - n ≡ suc (65 - (n + 1)) = omega arith in
    ap (λ (k : ℕ). find (λ m. bytes_eq word (decimal m)) (range_with_len n k)) more

-- past 64 there is none
spelled_past : (word : List ℕ) (n : ℕ) → 65 ≤ n → spelled_from word n ≡ None
spelled_past word n h =
    let none : 65 - n ≡ 0 = omega arith in
    ap (λ (k : ℕ). find (λ m. bytes_eq word (decimal m)) (range_with_len n k)) none

pub loop-agents-init : goal.loop-agents-init
unfolding agents_of
loop-agents-init c = refl

pub loop-agents-preserved : goal.loop-agents-preserved
loop-agents-preserved c =
    c.loop-agents.invariant ∙ spelled_next c.args.word.now c.loop-agents.agents c.loop-agents-test.true
    ∙ ap (λ (b : Bool). cond b (Some c.loop-agents.agents) (spelled_from c.args.word.now (c.loop-agents.agents + 1))) (sym c.if-is_spelled.ensures)

pub returns-then-is_spelled-clause-value : goal.returns-then-is_spelled-clause-value
returns-then-is_spelled-clause-value c =
    sym (c.loop-agents.invariant ∙ spelled_next c.args.word.now c.loop-agents.agents c.loop-agents-test.true
    ∙ ap (λ (b : Bool). cond b (Some c.loop-agents.agents) (spelled_from c.args.word.now (c.loop-agents.agents + 1))) (sym c.if-is_spelled.ensures))

pub returns-clause-value : goal.returns-clause-value
returns-clause-value c = sym (c.loop-agents.invariant ∙ spelled_past c.args.word.now c.loop-agents.agents c.loop-agents-test.false)
