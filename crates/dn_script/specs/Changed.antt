-- The replies to the commands that change the book.
use Rattle.std.specs.Prelude.{ℕ, List, ◌++◌, codes}
use Rattle.std.specs.Fmt.{decimal}
use Rattle.dn_grant.specs.declared.refusal.GrantRefusal.{GrantRefusal}
use Rattle.dn_grant.specs.declared.refusal.GrantRefusal.TheVariants.{IdUsed, NoAgent, NoTarget, NotAccepted, BookFull, NoPlacement}
use Rattle.dn_gather.specs.declared.refusal.GatherRefusal.{GatherRefusal}
use Rattle.dn_gather.specs.declared.refusal.GatherRefusal.TheVariants as gather
use Rattle.dn_vector.specs.declared.refusal.RouteRefusal.{RouteRefusal}
use Rattle.dn_vector.specs.declared.refusal.RouteRefusal.TheVariants as route
use Rattle.dn_print.specs.Names.{address_text}

-- the reply that names an id and a refusal
abbrev pub refused_text : List ℕ → List ℕ → List ℕ
refused_text id refusal = id ++ (codes " refused: " ++ (refusal ++ codes "\n"))

-- the refusal of a grant as it is printed
abbrev pub grant_refusal_text : GrantRefusal → List ℕ
grant_refusal_text IdUsed = codes "IdUsed"
grant_refusal_text NoAgent = codes "NoAgent"
grant_refusal_text NoTarget = codes "NoTarget"
grant_refusal_text (NotAccepted first) = codes "NotAccepted " ++ address_text first
grant_refusal_text BookFull = codes "BookFull"
grant_refusal_text NoPlacement = codes "NoPlacement"

-- the reply to a grant, which has the first address of the buffer in its agent
abbrev pub granted_text : List ℕ → ℕ → List ℕ
granted_text id v = id ++ (codes " at " ++ (address_text v ++ codes "\n"))

-- the reply to a grant that is refused
abbrev pub grant_refused_text : List ℕ → GrantRefusal → List ℕ
grant_refused_text id why = refused_text id (grant_refusal_text why)

-- the reply to a route, which has the vector
abbrev pub routed_text : List ℕ → ℕ → List ℕ
routed_text id vector = id ++ (codes " vector " ++ (address_text vector ++ codes "\n"))

-- the refusal of a route as it is printed
abbrev pub route_refusal_text : RouteRefusal → List ℕ
route_refusal_text route.IdUsed = codes "IdUsed"
route_refusal_text route.NoAgent = codes "NoAgent"
route_refusal_text route.NoTarget = codes "NoTarget"
route_refusal_text route.BookFull = codes "BookFull"
route_refusal_text route.NoPlacement = codes "NoPlacement"

-- the reply to a route that is refused
abbrev pub route_refused_text : List ℕ → RouteRefusal → List ℕ
route_refused_text id why = refused_text id (route_refusal_text why)

-- the refusal of a piece as it is printed, which has the piece's number, counted from 0
abbrev pub piece_refusal_text : List ℕ → ℕ → List ℕ
piece_refusal_text refusal piece = refusal ++ (codes " " ++ decimal piece)

-- the refusal of a gather as it is printed
abbrev pub gather_refusal_text : GatherRefusal → List ℕ
gather_refusal_text (gather.IdUsed piece) = piece_refusal_text (codes "IdUsed") piece
gather_refusal_text gather.NoAgent = codes "NoAgent"
gather_refusal_text (gather.NoTarget piece) = piece_refusal_text (codes "NoTarget") piece
gather_refusal_text (gather.NotAccepted piece first) =
    codes "NotAccepted " ++ (decimal piece ++ (codes " " ++ address_text first))
gather_refusal_text gather.BookFull = codes "BookFull"
gather_refusal_text gather.NoPlacement = codes "NoPlacement"

-- the reply to a gather, which has the agent's first address and the number of pieces
abbrev pub gathered_text : ℕ → ℕ → List ℕ
gathered_text v count =
    codes "gather at " ++ (address_text v ++ (codes " pieces " ++ (decimal count ++ codes "\n")))

-- the reply to a gather that is refused for a piece
abbrev pub refused_piece_text : List ℕ → ℕ → List ℕ
refused_piece_text refusal piece = refused_text (codes "gather") (piece_refusal_text refusal piece)

-- the reply to a gather that is refused
abbrev pub gather_refused_text : GatherRefusal → List ℕ
gather_refused_text why = refused_text (codes "gather") (gather_refusal_text why)

-- the reply to a revoke
abbrev pub revoked_text : List ℕ → List ℕ
revoked_text id = id ++ codes " revoked\n"

-- the reply to a revoke that is refused
abbrev pub revoke_refused_text : List ℕ → List ℕ
revoke_refused_text id = refused_text id (codes "NoGrant")
