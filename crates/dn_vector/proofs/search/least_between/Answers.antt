-- One vector more, the one that is found, and all.
use Rattle.std.proofs.Common.{◌≡◌, false, subst, inl, inr, arith}
use Rattle.std.proofs.lemmas.Bool.{cases_lt}
use Rattle.dn_vector.specs.Route.{HasNoPlace}
use Rattle.dn_vector.specs.Vectors.{is_taken_vector}
use Rattle.dn_vector.proofs.search.least_between.Goals as goal

pub loop-vector-preserved : goal.loop-vector-preserved
loop-vector-preserved g c =
    λ a from to free. elim (cases_lt a c.loop-vector.vector) [
      | inl before ↦ c.loop-vector.invariant a from before free
      | inr last ↦ subst (λ v. is_taken_vector c.args.asked.book.now.grants c.args.asked.node v ≡ false → HasNoPlace c.args.asked.system.on.net.now c.args.asked.book.now.grants c.args.asked.agent c.args.asked.line c.args.asked.node v) (omega arith) (rw c.in_default.is at c.in_ok-placement.ensures) free
    ]

pub returns-in-Some : goal.returns-in-Some
returns-in-Some g c = record {
  from = c.loop-vector.auto.vector;
  to = omega arith;
  placed = rw c.in-Some.is at c.in_ok-placement.ensures;
  least = c.loop-vector.invariant;
}

pub returns : goal.returns
returns g c =
    λ a from to free. c.loop-vector.invariant a from (omega arith) free
