-- A stop inside a grant or a revoke: each name resolves as before it or as after it.
use Rattle.std.proofs.Common.{◌≡◌, ◌<◌, ◌≤◌, inl, inr, refl, sym, subst, ℕ, Bool, true, false, List, length, Option, arith}
use Rattle.dn_base.specs.declared.device.TableEvent.{TableEvent}
use Rattle.dn_net.specs.declared.node.NodeDecl.{NodeDecl}
use Rattle.dn_net.specs.Legal.{IsLegalNet}
use Rattle.dn_kind.specs.Kind.{Meaning}
use Rattle.dn_kind.specs.Tables.{Held}
use Rattle.dn_book.specs.declared.grant.Grant.{Grant}
use Rattle.dn_book.specs.Between.{IsCaught, IsOneOrOther}
use Rattle.dn_book.specs.Book.{records_of}
use Rattle.dn_book.specs.Commands.{LeadsOver}
use Rattle.dn_book.specs.Events.{AreWritten, held_at}
use Rattle.dn_book.specs.Tables.{tables_of}
use Rattle.dn_book.proofs.Between.{between_is_one_or_other}

-- as the one or as the other is as the other or as the one
pub other_or_one : (net : List NodeDecl) (h a b : Held) → IsOneOrOther net h a b → IsOneOrOther net h b a
other_or_one net h a b f access x = elim (f access x) [ inl l ↦ inr l | inr r ↦ inl r ]

-- tables in which some of the events came
pub caught : (net : List NodeDecl) (kinds : List Meaning) (book next : List Grant) (cleared last : Bool) (less more : List Grant) (events : List TableEvent) → IsLegalNet net → LeadsOver net kinds book next cleared last less more events → (failed : Bool) (log log' : Option (List TableEvent)) (words : List (List ℕ)) → AreWritten events failed log log' (tables_of net kinds book) words → IsCaught net kinds words less more
caught net kinds book next cleared last less more events legal leads failed log log' words w =
    let here = leads.between w.made (some failed w.all w.less) in
    subst (λ ws. IsCaught net kinds ws less more) (sym w.kept)
    (between_is_one_or_other net (records_of net less) (held_at net kinds (tables_of net kinds book) events w.made) (records_of net more) legal here.0 here.1)
  where
    some : (b : Bool) → (b ≡ false → w.made ≡ length events) → (b ≡ true → w.made < length events) → w.made ≤ length events
    some true all few = let l = few refl in omega arith
    some false all few = let e = all refl in omega arith
