use Rattle.std.proofs.Common.{rules, ◌≡◌, length, List, ℕ, IsTrue, subst, Ok}
use Rattle.std.specs.List.{list_all}
use Rattle.std.proofs.lemmas.List.{length-map}
use Rattle.dn_kind.specs.Kind.{Meaning}
use Rattle.dn_kind.specs.Kinded.{kinds_of}
use Rattle.dn_kind.specs.Units.{has_kind}
use Rattle.dn_shape.specs.Split.{split_outcome}
use Rattle.dn_script.proofs.Reshaped.{split_known}
use Rattle.dn_script.proofs.Shaped.{kinds_fit}
use Rattle.dn_script.proofs.reshape.split_reply.Goals as goal

pub made_reply-requires-clause-known : goal.made_reply-requires-clause-known
made_reply-requires-clause-known g c =
    let kinds : List Meaning = kinds_of (λ k. (goal.UnitKind-dyn g k).meaning k.1) c.args.machine.on.kinds.now in
    let net = c.args.machine.on.net.now in
    let there = kinds_fit kinds net c.requires.machine.kinded.legal.shaped in
    let made : split_outcome net ≡ Ok c.in-Ok.made = search rules in
    subst (λ (n : ℕ). IsTrue (list_all (λ d. has_kind n d.unit) c.in-Ok.made)) (length-map c.args.machine.on.kinds.now.list.items _) (split_known (length kinds) net c.in-Ok.made there made)
