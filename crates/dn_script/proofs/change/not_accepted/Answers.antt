use Rattle.std.proofs.Common.{rules, ◌≡◌, ◌++◌, List, ℕ, IfOk, subst, codes}
use Rattle.dn_print.specs.Names.{address_text}
use Rattle.dn_script.specs.Changed.{refused_text}
use Rattle.dn_script.proofs.change.not_accepted.Goals as goal

pub returns : goal.returns
returns c =
    let fault : c.as_str.result.now ≡ codes "NotAccepted " ++ address_text c.args.first = search rules in
    subst (λ (t : List ℕ). IfOk c.refused_reply.result (λ text. text ≡ refused_text c.args.id.now t)) fault c.refused_reply.ensures
