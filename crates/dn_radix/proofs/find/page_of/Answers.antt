use Rattle.std.proofs.Common.{◌≡◌, ◌∙◌, ◌+◌, ◌-◌, ◌*◌, ◌/◌, ◌%◌, ◌<◌, false, true, ℕ, Ok, length, sym, ap, arith, refl, subst}
use Rattle.std.proofs.lemmas.Nat.{mod_below}
use Rattle.dn_radix.specs.Found.{found, is_bad, word_in_bytes}
use Rattle.dn_radix.specs.Tree.{room}
use Rattle.dn_radix.proofs.Paged.{page_step, pages_below}
use Rattle.dn_radix.proofs.Reached.{followed_none}
use Rattle.dn_radix.proofs.Steps.{found_zero, followed_bad, followed_on, page_whole}
use Rattle.dn_radix.proofs.find.page_of.Goals as goal

pub returns-then-entry-eq0-clause-words : goal.returns-then-entry-eq0-clause-words
returns-then-entry-eq0-clause-words c i l =
    let size : ℕ = c.room-size.result / 512 in
    let step = page_step c.args.image.now c.loop-below.below c.loop-below.at c.loop-below.page size i c.loop-below-test.true (ap (λ n. n / 512) c.room-size.ensures) l in
    let e : word_in_bytes c.args.image.now (c.loop-below.page + 8 * (c.loop-below.at / size)) ≡ 0 = sym c.word_at-entry.ensures ∙ c.if-entry-eq0.true in
    sym (c.loop-below.invariant.found i l) ∙ step ∙ followed_none (found c.args.image.now (c.loop-below.below - 1) (512 * (c.loop-below.at % size) + i)) _ _ _ e

pub returns-then-is_bad-clause-words : goal.returns-then-is_bad-clause-words
returns-then-is_bad-clause-words c i l =
    let size : ℕ = c.room-size.result / 512 in
    let step = page_step c.args.image.now c.loop-below.below c.loop-below.at c.loop-below.page size i c.loop-below-test.true (ap (λ n. n / 512) c.room-size.ensures) l in
    let n : word_in_bytes c.args.image.now (c.loop-below.page + 8 * (c.loop-below.at / size)) ≡ 0 → ⊥ = λ z. c.if-entry-eq0.false (c.word_at-entry.ensures ∙ z) in
    let b : is_bad (length c.args.image.now) (word_in_bytes c.args.image.now (c.loop-below.page + 8 * (c.loop-below.at / size))) ≡ true = ap (is_bad (length c.args.image.now)) (sym c.word_at-entry.ensures) ∙ sym c.is_bad.ensures ∙ c.if-is_bad.true in
    sym (c.loop-below.invariant.found i l) ∙ step ∙ followed_bad (found c.args.image.now (c.loop-below.below - 1) (512 * (c.loop-below.at % size) + i)) _ _ _ n b

pub loop-below-preserved : goal.loop-below-preserved
loop-below-preserved c =
    let size : ℕ = c.room-size.result / 512 in
    let e : size ≡ room (c.loop-below.below - 1) / 512 = ap (λ n. n / 512) c.room-size.ensures in
    let n : word_in_bytes c.args.image.now (c.loop-below.page + 8 * (c.loop-below.at / size)) ≡ 0 → ⊥ = λ z. c.if-entry-eq0.false (c.word_at-entry.ensures ∙ z) in
    let good : is_bad (length c.args.image.now) c.word_at-entry.result ≡ false = sym c.is_bad.ensures ∙ c.if-is_bad.false in
    let b : is_bad (length c.args.image.now) (word_in_bytes c.args.image.now (c.loop-below.page + 8 * (c.loop-below.at / size))) ≡ false = ap (is_bad (length c.args.image.now)) (sym c.word_at-entry.ensures) ∙ good in
    let low = c.loop-below.invariant.low in
    let r = pages_below (c.loop-below.below - 1) size e in
    let m = mod_below c.loop-below.at size r.1 in
    let all = r.0 in
    record {
      low = omega (arith, low);
      whole = page_whole (length c.args.image.now) c.word_at-entry.result good;
      there = omega (arith, m, all);
      found = λ i l.
          ap (λ w. found c.args.image.now (c.loop-below.below - 1) (512 * (c.loop-below.at % size) + i) (w - 1)) c.word_at-entry.ensures
          ∙ sym (page_step c.args.image.now c.loop-below.below c.loop-below.at c.loop-below.page size i c.loop-below-test.true e l ∙ followed_on (found c.args.image.now (c.loop-below.below - 1) (512 * (c.loop-below.at % size) + i)) _ _ _ n b)
          ∙ c.loop-below.invariant.found i l;
    }

pub returns-clause-words : goal.returns-clause-words
returns-clause-words c i l =
    let z : c.loop-below.below ≡ 0 = omega (arith, c.loop-below-test.false) in
    let there : 512 * c.loop-below.at < room 0 = subst (λ n. 512 * c.loop-below.at < room n) z c.loop-below.invariant.there in
    let size : room 0 ≡ 512 = refl in
    let first : 512 * c.loop-below.at + i ≡ i = omega (arith, there, size) in
    sym (c.loop-below.invariant.found i l) ∙ found_zero c.args.image.now c.loop-below.below (512 * c.loop-below.at + i) c.loop-below.page z ∙ ap (λ n. Ok (word_in_bytes c.args.image.now (c.loop-below.page + 8 * n))) first
