use Rattle.std.proofs.Common.{rules, ◌≡◌, ◌≢◌, length, List, ℕ, IsTrue, subst, Ok}
use Rattle.std.specs.List.{list_all}
use Rattle.std.proofs.lemmas.List.{length-map}
use Rattle.std.proofs.lemmas.Result.{IfOk-weaker}
use Rattle.dn_kind.specs.Kind.{Meaning}
use Rattle.dn_kind.specs.Kinded.{kinds_of}
use Rattle.dn_kind.specs.Units.{has_kind}
use Rattle.dn_shape.specs.declared.fault.AbsorbFault.TheVariants.{OutOfMemory}
use Rattle.dn_shape.specs.Absorb.{absorb_outcome}
use Rattle.dn_script.proofs.Reshaped.{absorbed_known}
use Rattle.dn_script.proofs.Shaped.{kinds_fit}
use Rattle.dn_script.proofs.Unmade.{fault_told, unfit_found, unfit_said, unfit_told}
use Rattle.dn_script.specs.Unmade.{IsUnfitFor}
use Rattle.dn_script.proofs.reshape.past_reply.Goals as goal

pub made_reply-requires-clause-known : goal.made_reply-requires-clause-known
made_reply-requires-clause-known g c =
    let kinds : List Meaning = kinds_of (λ k. (goal.UnitKind-dyn g k).meaning k.1) c.args.machine.on.kinds.now in
    let net = c.args.machine.on.net.now in
    let there = kinds_fit kinds net c.requires.machine.kinded.legal.shaped in
    let made : absorb_outcome net c.args.node ≡ Ok c.in-Ok.made = search rules in
    subst (λ (n : ℕ). IsTrue (list_all (λ d. has_kind n d.unit) c.in-Ok.made)) (length-map c.args.machine.on.kinds.now.list.items _) (absorbed_known (length kinds) net c.args.node c.in-Ok.made there made)

pub refused_reply-requires : goal.refused_reply-requires
refused_reply-requires g c =
    let is : IsUnfitFor c.args.machine.on.net.now c.args.node c.in-Some.why = search rules in
    unfit_told c.args.machine.on.net.now c.args.node c.in-Some.why is

pub returns-in-Some-clause-reply : goal.returns-in-Some-clause-reply
returns-in-Some-clause-reply g c =
    let kinds : List Meaning = kinds_of (λ k. (goal.UnitKind-dyn g k).meaning k.1) c.args.machine.on.kinds.now in
    let is : IsUnfitFor c.args.machine.on.net.now c.args.node c.in-Some.why = search rules in
    IfOk-weaker c.refused_reply.result _ _ (λ v e. unfit_said kinds c.args.name.now c.args.machine.on.net.now c.args.node c.in-Some.why v.items is e) c.refused_reply.ensures

pub kept_reply-requires : goal.kept_reply-requires
kept_reply-requires g c =
    let other : c.in-Err.why ≢ OutOfMemory = search rules in
    fault_told c.in-Err.why other

pub returns-in-Err-clause-reply : goal.returns-in-Err-clause-reply
returns-in-Err-clause-reply g c =
    let kinds : List Meaning = kinds_of (λ k. (goal.UnitKind-dyn g k).meaning k.1) c.args.machine.on.kinds.now in
    let net = c.args.machine.on.net.now in
    let other : c.in-Err.why ≢ OutOfMemory = search rules in
    let is = unfit_found net c.args.node c.in-Err.why other c.in-Err.ensures.made in
    IfOk-weaker c.kept_reply.result _ _ (λ v e. unfit_said kinds c.args.name.now net c.args.node c.in-Err.why v.items is e) c.kept_reply.ensures.reply

pub returns-in-Err-clause-unfit : goal.returns-in-Err-clause-unfit
returns-in-Err-clause-unfit g c =
    let net = c.args.machine.on.net.now in
    let other : c.in-Err.why ≢ OutOfMemory = search rules in
    c.kept_reply.ensures.unfit net (unfit_found net c.args.node c.in-Err.why other c.in-Err.ensures.made) c.requires.unfit
