use Rattle.dn_print.proofs.Judged.{tree_good}
use Rattle.dn_print.proofs.Made.{made_from}
use Rattle.dn_print.proofs.Printables.{from_printable}
use Rattle.dn_print.proofs.laws.net_of_a_text_is_printable.Goals as goal

pub returns : goal.returns
returns c = λ kinds text tree made read expansion.
    from_printable kinds made.net (made_from kinds tree made (tree_good text tree read) expansion)
