-- Why nets were not made, and what is said of it.
use Rattle.std.proofs.Common.{◌≡◌, ◌≢◌, ◌∙◌, ℕ, List, Option, Some, Result, Err, IfSome, IsSome, refl, sym, ap}
use Rattle.dn_net.specs.declared.node.NodeDecl.{NodeDecl}
use Rattle.dn_kind.specs.Kind.{Meaning}
use Rattle.dn_shape.specs.declared.fault.AbsorbFault.{AbsorbFault}
use Rattle.dn_shape.specs.declared.fault.AbsorbFault.TheVariants.{NotAbsorbable, TooMany, OutOfMemory}
use Rattle.dn_shape.specs.Absorb.{Refusal, absorb_outcome, is_unfit, passes}
use Rattle.dn_shape.specs.Faults.{absorb_fault_view}
use Rattle.dn_script.specs.Reshape.{absorbed_text, refusal_text}
use Rattle.dn_script.specs.Unmade.{IsUnfitFor}

same_outcome : (a b : Result (List NodeDecl) Refusal) → ◌≡◌ {A = Option (Result (List NodeDecl) Refusal)} (Some a) (Some b) → a ≡ b
same_outcome a b e = cc

-- what is kept is told
pub unfit_told : (net : List NodeDecl) (node : ℕ) (why : AbsorbFault) → IsUnfitFor net node why → IsSome (absorb_fault_view why)
unfit_told net node (NotAbsorbable w) is = refl
unfit_told net node (TooMany limit) is = refl
unfit_told net node OutOfMemory is = cc

-- and so is what comes of absorbing, but for want of memory
pub fault_told : (why : AbsorbFault) → why ≢ OutOfMemory → IsSome (absorb_fault_view why)
fault_told (NotAbsorbable w) other = refl
fault_told (TooMany limit) other = refl
fault_told OutOfMemory other = absurd (other refl)

pub unfit_found : (net : List NodeDecl) (node : ℕ) (why : AbsorbFault) → why ≢ OutOfMemory → IfSome (absorb_fault_view why) (λ r. absorb_outcome net node ≡ Err r) → IsUnfitFor net node why
unfit_found net node (NotAbsorbable w) other is = ap Some (sym is)
unfit_found net node (TooMany limit) other is = ap Some (sym is)
unfit_found net node OutOfMemory other is = absurd (other refl)

-- the reply is that of the outcome
pub unfit_said : (kinds : List Meaning) (name : List ℕ) (net : List NodeDecl) (node : ℕ) (why : AbsorbFault) (said : List ℕ) → IsUnfitFor net node why → IfSome (absorb_fault_view why) (λ r. said ≡ refusal_text name r) → said ≡ absorbed_text kinds name (absorb_outcome net node)
unfit_said kinds name net node (NotAbsorbable w) said is e = e ∙ ap (absorbed_text kinds name) (same_outcome (Err (is_unfit w)) (absorb_outcome net node) is)
unfit_said kinds name net node (TooMany limit) said is e = e ∙ ap (absorbed_text kinds name) (same_outcome (Err (passes limit)) (absorb_outcome net node) is)
unfit_said kinds name net node OutOfMemory said is e = cc
