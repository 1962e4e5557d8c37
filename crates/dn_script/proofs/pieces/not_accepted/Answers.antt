use Rattle.std.proofs.Common.{rules, ◌≡◌, ◌++◌, List, ℕ, IfOk, subst, codes}
use Rattle.std.specs.Fmt.{decimal}
use Rattle.dn_print.specs.Names.{address_text}
use Rattle.dn_script.specs.Changed.{refused_text}
use Rattle.dn_script.proofs.pieces.not_accepted.Goals as goal

pub returns : goal.returns
returns c =
    let fault : c.as_str.result.now ≡ codes "NotAccepted " ++ (decimal c.args.piece ++ (codes " " ++ address_text c.args.first)) = search rules in
    subst (λ (t : List ℕ). IfOk c.refused_reply.result (λ text. text ≡ refused_text (codes "gather") t)) fault c.refused_reply.ensures
