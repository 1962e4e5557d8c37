-- Counted calls in a row: laws of Rose and IsCounted for this crate and those above it.
use Rattle.std.proofs.Common.{◌≤◌, ◌∙◌, refl, ℕ, Bool, false, arith}
use Rattle.dn_base.specs.Outside.{Faults, IsCounted, Rose}

-- a count that rose, and did not fall after, rose
pub Rose-after : (a b c : ℕ) → a ≤ b → b ≤ c → Rose a b → Rose a c
Rose-after a b c h k r = grind arith

-- a count that did not fall, and then rose, rose
pub Rose-before : (a b c : ℕ) → a ≤ b → Rose b c → Rose a c
Rose-before a b c h r = grind arith

-- no call was made
pub counted_none : (a : Faults) → IsCounted a a false
counted_none a = record {
  rose = λ e. cc;
  never_falls = omega arith;
  stays = (refl, refl);
  never = λ e. (refl, refl);
  answered = λ e f. refl;
}

-- calls that did not fail, and then one that may have
pub counted_then : (a b c : Faults) (failed : Bool) → IsCounted a b false → IsCounted b c failed → IsCounted a c failed
counted_then a b c failed x y = record {
  rose = λ e. Rose-before a.count b.count c.count x.never_falls (y.rose e);
  never_falls = let k = x.never_falls in let l = y.never_falls in omega arith;
  stays = (y.stays.0 ∙ x.stays.0, y.stays.1 ∙ x.stays.1);
  never = λ e. let s = y.never (x.stays.0 ∙ e) in (s.0, s.1 ∙ (x.never e).1);
  answered = λ e f. y.answered (x.stays.1 ∙ e) f ∙ x.answered e refl;
}
