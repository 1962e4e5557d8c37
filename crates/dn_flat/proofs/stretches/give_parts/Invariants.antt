-- The segments so far come to no other names.
use Rattle.std.proofs.Common.{take}
use Rattle.dn_flat.specs.declared.found.Continuation.TheVariants.{Accepts}
use Rattle.dn_flat.specs.Onward.{leads_by, segs_lead}
use Rattle.dn_flat.specs.Stretches.{GivesAll}
use Rattle.dn_flat.proofs.stretches.give_parts.Given as goal

abbrev pub invariant-loop-seg : goal.invariant-loop-seg
invariant-loop-seg l = GivesAll (λ a z. segs_lead (leads_by Accepts l.nodes) (take l.seg-index l.segs) a z) l.whole
