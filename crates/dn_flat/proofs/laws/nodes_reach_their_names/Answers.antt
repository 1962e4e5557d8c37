-- What the flattened nodes of a net tell of an address is what it resolves to, and its stops.
use Rattle.dn_flat.proofs.Shown.{nodes_reach_their_names}
use Rattle.dn_flat.proofs.laws.nodes_reach_their_names.Goals as goal

pub returns : goal.returns
returns c = nodes_reach_their_names
