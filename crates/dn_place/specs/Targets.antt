-- Whether a node may be asked for a buffer, and whether it accepts all of it.
use Rattle.std.specs.Prelude.{ℕ, zero, suc, ◌+◌, Bool, false, if◌then◌else◌, not, nat_eq, Option, Some, None}
use Rattle.dn_net.specs.declared.node.NodeDecl.{NodeDecl}
use Rattle.dn_net.specs.Decode.{is_accepted_at}
use Rattle.dn_net.specs.Rules.{is_vectors}

-- a node is there, and its addresses are no interrupt vectors
abbrev pub is_target_at : Option NodeDecl → Bool
is_target_at None = false
is_target_at (Some n) = not (is_vectors n.role)

-- the first of so many addresses from one on that the node does not accept
abbrev pub unaccepted_from : Option NodeDecl → ℕ → ℕ → Option ℕ
unaccepted_from n a zero = None
unaccepted_from n a (suc count) =
    if is_accepted_at a n then unaccepted_from n (a + 1) count else Some a

-- the address for which a buffer is refused: its base where it is empty, and else the first of its
-- addresses that the node does not accept
abbrev pub refused_address : Option NodeDecl → ℕ → ℕ → Option ℕ
refused_address n base size =
    if nat_eq size 0 then Some base else unaccepted_from n base size
