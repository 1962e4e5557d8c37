use Rattle.dn_kind.proofs.Allowed.{cleared_tables_allow}
use Rattle.dn_kind.proofs.laws.cleared_tables_allow.Goals as goal

pub returns : goal.returns
returns c = cleared_tables_allow
