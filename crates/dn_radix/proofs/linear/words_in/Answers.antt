use Rattle.std.proofs.Common.{◌-◌, ◌*◌, min, ℕ, take, drop, sym, subst, arith}
use Rattle.dn_radix.specs.Found.{AreOfPage}
use Rattle.dn_radix.proofs.Paged.{none_bad, page_is, pages_more}
use Rattle.dn_radix.proofs.linear.words_in.Goals as goal

pub returns-in_default-page_of-clause-none : goal.returns-in_default-page_of-clause-none
returns-in_default-page_of-clause-none c = λ _ ws t.
    let below = c.loop-number-test.true in
    none_bad c.args.image.now c.args.words c.loop-number.number c.level_of-level.result c.in_default-page_of.field-0 ws c.requires.few (omega (arith, below)) c.level_of-level.ensures t c.in_default-page_of.ensures.words

pub loop-number-preserved : goal.loop-number-preserved
loop-number-preserved c =
    let number : ℕ = c.loop-number.number in
    let left : ℕ = min 512 (c.args.words - 512 * number) in
    let more = c.in-Ok-push_words.ensures.count in
    let so_far = c.loop-number.invariant.count in
    let is = c.within_page-left.ensures in
    let below = c.loop-number-test.true in
    record {
      found = λ ws t. pages_more c.args.words number ws c.loop-number.list.items c.push_words.new.list.items t.count_is (c.loop-number.invariant.found ws t)
          (c.in-Ok-push_words.ensures.words (take left (drop (512 * number) ws))
          (subst (λ n. AreOfPage c.args.image.now c.in-Ok-page_of.page n (take left (drop (512 * number) ws))) (sym c.within_page-left.ensures)
          (page_is c.args.image.now c.args.words number c.level_of-level.result c.in-Ok-page_of.page ws c.requires.few c.level_of-level.ensures t c.in-Ok-page_of.ensures.words)));
      count = omega (arith, more, so_far, is, below);
    }
