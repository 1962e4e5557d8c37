use Rattle.dn_print.proofs.Again.{given_back}
use Rattle.dn_print.proofs.Judged.{tree_good}
use Rattle.dn_print.proofs.Made.{made_from}
use Rattle.dn_print.proofs.laws.printed_net_is_read_back.Goals as goal

pub returns : goal.returns
returns c = λ kinds text tree made read expansion short.
    let from = made_from kinds tree made (tree_good text tree read) expansion in
    given_back kinds from.drafts made.net from.good from.grown from.nodes_are short
