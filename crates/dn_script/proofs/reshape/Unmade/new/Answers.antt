-- Nothing is kept.
use Rattle.std.proofs.Common.{sym, subst}
use Rattle.std.specs.List.{All}
use Rattle.std.proofs.lemmas.List.Elements.{All-nil}
use Rattle.dn_script.specs.Unmade.{IsUnfit}
use Rattle.dn_script.proofs.reshape.Unmade.new.Goals as goal

pub returns : goal.returns
returns c net = record { split = tt; unfit = subst (λ l. All (IsUnfit net) l) (sym c.new.ensures) (All-nil (IsUnfit net)) }
