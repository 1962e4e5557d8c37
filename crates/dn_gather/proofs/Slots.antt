-- The slots that a hop takes.
use Rattle.std.proofs.Common.{◌≡◌, ℕ, ◌≤◌, Bool, true, false, if◌then◌else◌, ◌&&◌, nat_eq, nat_le, List, Option, Some, None, is_some, refl, ap, ◌∙◌}
use Rattle.std.proofs.lemmas.Bool.{eq-eqb, le-leb}
use Rattle.dn_net.specs.declared.node.NodeDecl.{NodeDecl}
use Rattle.dn_net.specs.declared.node.Unit.{Unit as UnitPart}
use Rattle.dn_net.specs.Decode.{unit_at}
use Rattle.dn_kind.specs.Rights.{both_rights}
use Rattle.dn_tables.specs.declared.placement.Hop.{Hop}
use Rattle.dn_placement.specs.Records.{first_slot, hop_record_by, last_slot, slot_record}
use Rattle.dn_book.specs.Book.{is_taken}

tests_hold : (u : UnitPart) (hop : Hop) (slot : ℕ) (b c d : Bool) → b ≡ true → c ≡ true → d ≡ true → is_some (if b && (c && d) then Some (slot_record u both_rights hop slot) else None) ≡ true
tests_hold u hop slot true true true x y z = refl
tests_hold u hop slot true true false x y z = cc
tests_hold u hop slot true false d x y z = cc
tests_hold u hop slot false c d x y z = cc

pub taken_in : (net : List NodeDecl) (u : UnitPart) (size : ℕ) (hop : Hop) (slot : ℕ) → unit_at net hop.unit ≡ Some u → first_slot u hop ≤ slot → slot ≤ last_slot u size hop → is_taken net size hop.unit slot hop ≡ true
taken_in net u size hop slot is low high =
    ap (λ (o : Option UnitPart). is_some (hop_record_by o size both_rights hop hop.unit slot)) is
    ∙ tests_hold u hop slot (nat_eq hop.unit hop.unit) (nat_le (first_slot u hop) slot) (nat_le slot (last_slot u size hop)) (eq-eqb hop.unit hop.unit refl) (le-leb (first_slot u hop) slot low) (le-leb slot (last_slot u size hop) high)
