-- The first placement that is looked for is there, or none is; and so is the least vector with one.
use Rattle.std.proofs.Common.{◌≡◌, ◌∙◌, sym, ap, subst, refl, arith, ℕ, ◌+◌, ◌<◌, ◌≤◌, ◌⊎◌, inl, inr, Bool, true, false, not, nat_le, nat_lt, List, slice_get, Option, Some, None, IsTrue, leb-true, lt-ltb, ltb-true}
use Rattle.std.proofs.lemmas.Bool.{and_parts, le-ltb}
use Rattle.dn_base.specs.Members.{Member}
use Rattle.dn_base.proofs.Booleans.{false≢true, not_from_false}
use Rattle.dn_net.specs.declared.node.NodeDecl.{NodeDecl}
use Rattle.dn_net.specs.Decode.{is_accepted_at, in_some_block, top}
use Rattle.dn_tables.specs.Placement.{Place}
use Rattle.dn_placement.specs.declared.request.Request.{Request}
use Rattle.dn_placement.specs.Order.{IsFirst, IsSuited, NoneSuited, key_of, precedes}
use Rattle.dn_placement.specs.Slots.{Slots}
use Rattle.dn_placement.proofs.Keys.{before_both, not_itself}
use Rattle.dn_book.specs.declared.grant.Grant.{Grant}
use Rattle.dn_book.specs.Book.{slots_of}
use Rattle.dn_vector.specs.Route.{HasNoPlace, IsLeastVector, NoVector}
use Rattle.dn_vector.specs.Vectors.{is_free_vector, is_taken_vector, vector_request}
use Rattle.dn_script.proofs.Decided.{IsDecided, IsFirstOf, both, first_of, test_is}
use Rattle.dn_script.proofs.Listed.{all_places, in_numbers, numbers, place_is_listed}
use Rattle.dn_script.proofs.Suitable.{suited}

-- the first placement that is looked for, or that there is none
pub sought : (net : List NodeDecl) (slots : Slots) (rq : Request) (at : Option ℕ) → ((p : Place) × IsFirst net slots rq at p) ⊎ NoneSuited net slots rq at
sought net slots rq at = by (first_of (precedes net) (IsSuited net slots rq at) (λ p. not_itself (key_of net p)) (λ p q r. before_both (key_of net p) (key_of net q) (key_of net r)) (suited net slots rq at) (all_places net))
  where
    by : ((p : Place) × IsFirstOf (precedes net) (IsSuited net slots rq at) (all_places net) p) ⊎ ((p : Place) → Member p (all_places net) → IsSuited net slots rq at p → ⊥) → ((p : Place) × IsFirst net slots rq at p) ⊎ NoneSuited net slots rq at
    by (inl f) = inl (f.0, record { suited = f.1.has; least = λ q s. not_from_false (precedes net q f.0) (f.1.least q (place_is_listed net slots rq q s.is_placement) s) })
    by (inr none) = inr (λ p s. none p (place_is_listed net slots rq p s.is_placement) s)

-- a free vector is an address
vector_within : (net : List NodeDecl) (book : List Grant) (node vector : ℕ) → IsTrue (is_free_vector net book node vector) → vector ≤ top
vector_within net book node vector free = by (slice_get net node) (and_parts (is_accepted_at vector (slice_get net node)) (not (is_taken_vector book node vector)) free).0
  where
    by : (n : Option NodeDecl) → is_accepted_at vector n ≡ true → vector ≤ top
    by None e = cc
    by (Some n) e = leb-true vector top (and_parts (nat_le vector top) (in_some_block vector n.accepts) e).0

-- the least free vector with a placement at a line, or that there is none
pub sought_vector : (net : List NodeDecl) (book : List Grant) (agent line node : ℕ) → ((vector : ℕ) × (p : Place) × IsLeastVector net book agent line node vector p) ⊎ NoVector net book agent line node
sought_vector net book agent line node = by (first_of nat_lt Fits (λ v. le-ltb v v (omega arith)) below fits (numbers (top + 1)))
  where
    here : (vector : ℕ) → ((p : Place) × IsFirst net (slots_of net book) (vector_request agent node vector) (Some line) p) ⊎ HasNoPlace net book agent line node vector
    here vector = sought net (slots_of net book) (vector_request agent node vector) (Some line)

    Placed : ℕ → Type 0
    Placed vector = (p : Place) × IsFirst net (slots_of net book) (vector_request agent node vector) (Some line) p

    Fits : ℕ → Type 0
    Fits vector = IsTrue (is_free_vector net book node vector) × Placed vector

    placed : (vector : ℕ) → Placed vector ⊎ HasNoPlace net book agent line node vector → IsDecided (Placed vector)
    placed vector (inl p) = inl p
    placed vector (inr none) = inr (λ p. none p.0 p.1.suited)

    fits : (vector : ℕ) → IsDecided (Fits vector)
    fits vector = both (test_is (is_free_vector net book node vector)) (placed vector (here vector))

    below : (u v w : ℕ) → nat_lt u v ≡ true → nat_lt v w ≡ true → nat_lt u w ≡ true
    below u v w l m = let a = ltb-true u v l in let b = ltb-true v w m in lt-ltb u w (omega arith)

    none_at : (vector : ℕ) → (Placed vector → ⊥) → Placed vector ⊎ HasNoPlace net book agent line node vector → HasNoPlace net book agent line node vector
    none_at vector n (inl p) = absurd (n p)
    none_at vector n (inr none) = none

    listed : (vector : ℕ) → IsTrue (is_free_vector net book node vector) → Member vector (numbers (top + 1))
    listed vector free = in_numbers (top + 1) vector (let l = vector_within net book node vector free in omega arith)

    least : (vector : ℕ) → IsFirstOf nat_lt Fits (numbers (top + 1)) vector → (lesser : ℕ) → lesser < vector → IsTrue (is_free_vector net book node lesser) → HasNoPlace net book agent line node lesser
    least vector f lesser l free = none_at lesser (λ p. false≢true (sym (f.least lesser (listed lesser free) (free, p)) ∙ lt-ltb lesser vector l)) (here lesser)

    by : ((vector : ℕ) × IsFirstOf nat_lt Fits (numbers (top + 1)) vector) ⊎ ((vector : ℕ) → Member vector (numbers (top + 1)) → Fits vector → ⊥) → ((vector : ℕ) × (p : Place) × IsLeastVector net book agent line node vector p) ⊎ NoVector net book agent line node
    by (inl f) = inl (f.0, f.1.has.1.0, record { free = f.1.has.0; first = f.1.has.1.1; least = least f.0 f.1 })
    by (inr none) = inr (λ vector free. none_at vector (λ p. none vector (listed vector free) (free, p)) (here vector))
