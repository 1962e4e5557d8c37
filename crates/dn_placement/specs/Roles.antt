-- What a node may be in a request.
use Rattle.std.specs.Prelude.{Bool, false, Option, Some, None}
use Rattle.dn_net.specs.declared.node.NodeDecl.{NodeDecl}
use Rattle.dn_net.specs.Rules.{is_vectors}

-- a node is there, and its addresses are interrupt vectors
abbrev pub is_vectors_at : Option NodeDecl → Bool
is_vectors_at None = false
is_vectors_at (Some n) = is_vectors n.role
