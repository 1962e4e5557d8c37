-- What the search beside the tables found is what is looked for beside the grants of the book.
use Rattle.std.proofs.Common.{◌≡◌, ℕ, List, Option, Some, None, Result, Ok, Err, IfOk, IfSome, IsTrue, refl, subst}
use Rattle.dn_net.specs.declared.node.NodeDecl.{NodeDecl}
use Rattle.dn_net.specs.Legal.{IsLegalNet}
use Rattle.dn_kind.specs.declared.unit_kind.Record.{Record}
use Rattle.dn_kind.specs.Kind.{Meaning}
use Rattle.dn_kind.specs.Rights.{are_rights}
use Rattle.dn_placement.specs.Slots.{Slots}
use Rattle.dn_book.specs.declared.grant.Grant.{Grant}
use Rattle.dn_book.specs.Book.{IsSound, slots_of}
use Rattle.dn_book.proofs.Begun.{book_is_proper}
use Rattle.dn_gather.specs.declared.scatter.Scatter.{Scatter}
use Rattle.dn_gather.specs.declared.wanted.Wanted.{Wanted}
use Rattle.dn_gather.specs.Firsts.{AreFirstHops, NoneAt}
use Rattle.dn_gather.specs.Grounds.{IsFoundFirst, NoneFor, wanted_slots}
use Rattle.dn_gather.specs.Scattered.{IsFirstScatter, NoneScattered}
use Rattle.dn_gather.proofs.Chosen.{first_hops_are_first}

module _ {K : Type 0} {V : K → Type 0} (means : (k : K) × V k → Meaning) (w : Wanted K V) (book : List Grant)
    (legal : IsLegalNet w.system.on.net.now) (sound : IsSound w.system.on.net.now book) (rights : IsTrue (are_rights w.rights))
    (same : ◌≡◌ {A = Slots} (wanted_slots means w) (slots_of w.system.on.net.now book)) where
  -- a slot that is free holds no record
  vacant : (node slot : ℕ) → IsTrue ((slots_of w.system.on.net.now book).is_free node slot) → (slots_of w.system.on.net.now book).held node slot ≡ None
  vacant node slot free = by ((slots_of w.system.on.net.now book).held node slot) (λ r e. (book_is_proper w.system.on.net.now book legal sound).empty node slot free r e)
    where
      by : (o : Option Record) → ((r : Record) → o ≡ Some r → ⊥) → o ≡ None
      by None f = refl
      by (Some r) f = absurd (f r refl)

  pub found_first : (s : Scatter) → IsFoundFirst means w s → IsFirstScatter w.system.on.net.now (slots_of w.system.on.net.now book) w.agent w.rights w.pieces.now s
  found_first s f =
      let net : List NodeDecl = w.system.on.net.now in
      first_hops_are_first.first net (slots_of net book) w.agent w.rights w.pieces.now s legal (book_is_proper net book legal sound).held vacant rights
      (subst (λ (slots : Slots). AreFirstHops net slots w.agent w.rights s.unit s.v w.pieces.now s.hops) same f.hops)
      (λ v l. subst (λ (slots : Slots). NoneAt net slots w.agent w.rights w.pieces.now s.unit v) same (f.lesser v l))
      (λ unit v l. subst (λ (slots : Slots). NoneAt net slots w.agent w.rights w.pieces.now unit v) same (f.others unit v l))

  pub found_none : ((unit v : ℕ) → NoneFor means w unit v) → NoneScattered w.system.on.net.now (slots_of w.system.on.net.now book) w.agent w.rights w.pieces.now
  found_none none =
      let net : List NodeDecl = w.system.on.net.now in
      first_hops_are_first.none net (slots_of net book) w.agent w.rights w.pieces.now legal (book_is_proper net book legal sound).held vacant rights
      (λ unit v. subst (λ (slots : Slots). NoneAt net slots w.agent w.rights w.pieces.now unit v) same (none unit v))

  -- so it is of an answer
  pub answer_first : {E : Type 0} (r : Result (Option Scatter) E) → IfOk r (λ found. IfSome found (λ s. IsFoundFirst means w s)) → IfOk r (λ found. IfSome found (λ s. IsFirstScatter w.system.on.net.now (slots_of w.system.on.net.now book) w.agent w.rights w.pieces.now s))
  answer_first (Ok (Some s)) f = found_first s f
  answer_first (Ok None) f = tt
  answer_first (Err e) f = tt

  pub answer_none : {E : Type 0} (r : Result (Option Scatter) E) → IfOk r (λ found. found ≡ None → (unit v : ℕ) → NoneFor means w unit v) → IfOk r (λ found. found ≡ None → NoneScattered w.system.on.net.now (slots_of w.system.on.net.now book) w.agent w.rights w.pieces.now)
  answer_none (Ok found) f = λ e. found_none (f e)
  answer_none (Err e) f = tt
