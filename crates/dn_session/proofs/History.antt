-- The changes of a session go on as the turns of a script do.
use Rattle.std.proofs.Common.{List, [], ◌∷◌, drop, map, take, take-append-drop}
use Rattle.std.specs.List.{All}
use Rattle.std.proofs.lemmas.List.Elements.{All-cons, All-nil}
use Rattle.dn_net.specs.declared.node.NodeDecl.{NodeDecl}
use Rattle.dn_kind.specs.Kind.{IsLawful}
use Rattle.dn_kinds.specs.Layouts.{pages, radix, remap, vectors}
use Rattle.dn_kinds.proofs.Lawful.{pages_are_lawful, radix_is_lawful, remap_is_lawful, vectors_are_lawful}
use Rattle.dn_script.specs.Turn.{State, Turn, events_of, start}
use Rattle.dn_script.proofs.Flown.{given_owed}
use Rattle.dn_script.proofs.Moments.{TurnsGoOn}
use Rattle.dn_session.specs.History.{AreChanges, Change, SessionLookupsAreGiven, turn_of}
use Rattle.dn_session.specs.Shipped.{shipped_kinds}

all_lawful : All IsLawful shipped_kinds
unfolding shipped_kinds
all_lawful =
    All-cons IsLawful pages (remap ∷ vectors ∷ radix ∷ []) pages_are_lawful
    (All-cons IsLawful remap (vectors ∷ radix ∷ []) remap_is_lawful
    (All-cons IsLawful vectors (radix ∷ []) vectors_are_lawful
    (All-cons IsLawful radix [] radix_is_lawful (All-nil IsLawful))))

changes_go_on : (net : List NodeDecl) (s : State) (changes : List Change) → AreChanges net s.book s.cleared changes → TurnsGoOn shipped_kinds net s (map turn_of changes)
changes_go_on net s [] are = tt
changes_go_on net s (c ∷ cs) are = (
  record { going = are.0.going; leaves = are.0.leaves; between = are.0.between; kept = record { sound = are.1; faithful = are.2 } },
  changes_go_on net (turn_of c).next cs are.3,
)

pub session_lookups_are_given : SessionLookupsAreGiven
session_lookups_are_given net changes legal are count events schedule n l names there ended =
    let turns : List Turn = map turn_of changes in
    given_owed shipped_kinds net all_lawful legal turns (changes_go_on net start changes are) (take count (events_of turns)) (drop count (events_of turns)) (take-append-drop count (events_of turns)) events schedule n l names there ended
