use Rattle.dn_kind.proofs.Ways.{more_records_keep_names}
use Rattle.dn_kind.proofs.laws.more_records_keep_names.Goals as goal

pub returns : goal.returns
returns c = more_records_keep_names
