-- What the commands that change the book ask for.
use Rattle.std.specs.Prelude.{ℕ, List, [], ◌∷◌, Option, Some, None}
use Rattle.dn_parse.specs.declared.syntax.Mode.{Mode}
use Rattle.dn_parse.specs.declared.syntax.Mode.TheVariants.{Unsaid, Read, Write}
use Rattle.dn_kind.specs.declared.rights.Rights.{Rights}
use Rattle.dn_kind.specs.Rights.{both_rights}
use Rattle.dn_module.specs.declared.command.PieceTarget.{PieceTarget}
use Rattle.dn_module.specs.declared.command.Target.{Target}
use Rattle.dn_placement.specs.declared.request.Request.{Request}
use Rattle.dn_gather.specs.declared.piece.Piece.{Piece}
use Rattle.dn_script.specs.Ids.{id_number, with_id}

-- the number of a node that a command names, or one that no node has
abbrev pub number_or_none : Option ℕ → ℕ
number_or_none (Some n) = n
number_or_none None = 65535

-- the rights that a grant or a gather asks for: both, where it says none
abbrev pub rights_of : Mode → Rights
rights_of Unsaid = both_rights
rights_of Read = record { 0 = 1 }
rights_of Write = record { 0 = 2 }

-- what a grant asks for
abbrev pub request_of : Target → Target → ℕ → ℕ → Mode → Request
request_of agent node base size m = record {
  agent = number_or_none agent.node;
  node = number_or_none node.node;
  base = base;
  size = size;
  rights = rights_of m;
}

-- the ids that came, with those of pieces, in order
abbrev pub with_ids : List (List ℕ) → List PieceTarget → List (List ℕ)
with_ids ids [] = ids
with_ids ids (p ∷ ps) = with_ids (with_id ids p.id) ps

-- a piece that a gather asks for, under a number
abbrev pub piece_of : ℕ → PieceTarget → Piece
piece_of number p =
    record { id = number; node = number_or_none p.node.node; base = p.base; size = p.size }

-- the pieces that a gather asks for, each under the number of its id beside those that came before
abbrev pub numbered : List (List ℕ) → List PieceTarget → List Piece
numbered ids [] = []
numbered ids (p ∷ ps) = piece_of (id_number ids p.id) p ∷ numbered (with_id ids p.id) ps
