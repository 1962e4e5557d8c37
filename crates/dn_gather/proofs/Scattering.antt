-- Pieces in different slots of one unit are admissible as a whole exactly where each is by itself.
use Rattle.std.proofs.Common.{suc, length, ◌≡◌, ℕ, ◌+◌, ◌-◌, ◌/◌, ◌^◌, ◌<◌, ◌≤◌, ◌⊎◌, ◌↔◌, inl, inr, Bool, true, false, if◌then◌else◌, ◌&&◌, nat_eq, List, [], ◌∷◌, Option, Some, None, is_some, IsTrue, refl, sym, ap, ◌∙◌, subst, arith, pow_pos}
use Rattle.std.proofs.Math.Nat.{div-mul-le_self}
use Rattle.std.proofs.lemmas.Nat.{le-div}
use Rattle.std.proofs.lemmas.List.Elements.{All-cons, All-nil}
use Rattle.std.proofs.lemmas.Option.{same_Some}
use Rattle.dn_net.specs.declared.node.Name.{Name}
use Rattle.dn_net.specs.declared.node.NodeDecl.{NodeDecl}
use Rattle.dn_net.specs.declared.node.Unit.{Unit as UnitPart}
use Rattle.dn_net.specs.Chain.{IsChain}
use Rattle.dn_net.specs.Decode.{unit_at, Step, StopsAt}
use Rattle.dn_net.specs.Legal.{IsLegalNet}
use Rattle.dn_kind.specs.declared.rights.Access.{Access}
use Rattle.dn_kind.specs.declared.rights.Rights.{Rights}
use Rattle.dn_kind.specs.declared.unit_kind.Record.{Record}
use Rattle.dn_kind.specs.Rights.{allows, are_rights, both_rights}
use Rattle.dn_kind.specs.Tables.{AreHeld, Extends, Held, IsHeld, ResolvesUnder, allowing}
use Rattle.dn_tables.specs.declared.placement.Hop.{Hop}
use Rattle.dn_placement.specs.declared.request.Request.{Request}
use Rattle.dn_placement.specs.Exposure.{Adds}
use Rattle.dn_placement.specs.Placement.{IsFreeHop, IsPlacement, Joins, name_on}
use Rattle.dn_placement.specs.Records.{first_slot, hop_record, hop_record_by, is_taken_by, joined_records, last_slot, or_record, placed_records, slot_record}
use Rattle.dn_placement.specs.Slots.{Slots}
use Rattle.dn_book.specs.Book.{is_taken}
use Rattle.dn_book.proofs.Changes.{taken_unit}
use Rattle.dn_view.specs.Records.{AreFitted, IsFitted}
use Rattle.dn_view.proofs.Taken.{placed_are_held}
use Rattle.dn_gather.specs.Parts.{AreParts, LeadsInto}
use Rattle.dn_gather.specs.declared.piece.Piece.{Piece}
use Rattle.dn_gather.specs.Scattered.{AddsPieces, AreAdmissible, AreEachAdmissible, ArePlaced, IsApart, WholeIsPieceByPiece, at_hop, piece_request, scattered_records}
use Rattle.dn_gather.proofs.Slots.{taken_in}
use Rattle.dn_gather.proofs.Whole.{IsPart, Showing, whole_shows}

-- records that are joined

or_none : (o : Option Record) → or_record o None ≡ o
or_none None = refl
or_none (Some r) = refl

or_first : (o s : Option Record) (r : Record) → o ≡ Some r → or_record o s ≡ Some r
or_first o s r e = ap (λ (t : Option Record). or_record t s) e

or_second : (o s : Option Record) → o ≡ None → or_record o s ≡ s
or_second o s e = ap (λ (t : Option Record). or_record t s) e

or_cases' : (o s : Option Record) (r : Record) → or_record o s ≡ Some r → (o ≡ Some r) ⊎ ((o ≡ None) × (s ≡ Some r))
or_cases' None s r e = inr (refl, e)
or_cases' (Some t) s r e = inl e

-- one hop

taken_by : (b : Bool) (u : UnitPart) (rights : Rights) (hop : Hop) (q : ℕ) (r : Record) → (if b then Some (slot_record u rights hop q) else None) ≡ Some r → is_some (if b then Some (slot_record u both_rights hop q) else None) ≡ true
taken_by true u rights hop q r e = refl
taken_by false u rights hop q r e = cc

-- a slot in which a hop has a record is taken
taken_of : (net : List NodeDecl) (size : ℕ) (rights : Rights) (hop : Hop) (n q : ℕ) (r : Record) → hop_record net size rights hop n q ≡ Some r → is_taken net size n q hop ≡ true
taken_of net size rights hop n q r e = by (unit_at net hop.unit) e
  where
    by : (o : Option UnitPart) → hop_record_by o size rights hop n q ≡ Some r → is_some (hop_record_by o size both_rights hop n q) ≡ true
    by None f = cc
    by (Some u) f = taken_by (nat_eq n hop.unit && is_taken_by u size hop q) u rights hop q r f

single_is : (net : List NodeDecl) (rq : Request) (v : ℕ) (hop : Hop) (n q : ℕ) → placed_records net rq (at_hop v hop) n q ≡ hop_record net rq.size rq.rights hop n q
single_is net rq v hop n q = or_none (hop_record net rq.size rq.rights hop n q)

single_taken : (net : List NodeDecl) (rq : Request) (v : ℕ) (hop : Hop) (n q : ℕ) (r : Record) → placed_records net rq (at_hop v hop) n q ≡ Some r → is_taken net rq.size n q hop ≡ true
single_taken net rq v hop n q r e = taken_of net rq.size rq.rights hop n q r (sym (single_is net rq v hop n q) ∙ e)

single_unit : (net : List NodeDecl) (rq : Request) (v : ℕ) (hop : Hop) (n q : ℕ) (r : Record) → placed_records net rq (at_hop v hop) n q ≡ Some r → n ≡ hop.unit
single_unit net rq v hop n q r e = taken_unit net rq.size hop n q (single_taken net rq v hop n q r e)

-- a slot in which nothing may stand holds nothing
none_by : (o : Option Record) → ((r : Record) → o ≡ Some r → ⊥) → o ≡ None
none_by None f = refl
none_by (Some r) f = absurd (f r refl)

-- a placement has a hop for each piece
pub placed_count : (net : List NodeDecl) (slots : Slots) (agent : ℕ) (rights : Rights) (unit v : ℕ) (ps : List Piece) (hops : List Hop) → ArePlaced net slots agent rights unit v ps hops → length ps ≡ length hops
placed_count net slots agent rights unit v [] [] a = refl
placed_count net slots agent rights unit v [] (k ∷ ks) a = absurd a
placed_count net slots agent rights unit v (p ∷ ps) [] a = absurd a
placed_count net slots agent rights unit v (p ∷ ps) (k ∷ ks) a = ap suc (placed_count net slots agent rights unit (v + p.size) ps ks a.3)

module _ (net : List NodeDecl) (legal : IsLegalNet net) (slots : Slots) (held : AreHeld net slots.held) (empty : (node slot : ℕ) → IsTrue (slots.is_free node slot) → slots.held node slot ≡ None) (agent : ℕ) (rights : Rights) (are : IsTrue (are_rights rights)) (unit : ℕ) where
  abbrev h : Held
  h = slots.held

  -- what a slot that a hop takes leaves to the pieces behind it
  apart_none : (size : ℕ) (hop : Hop) (n q v : ℕ) (ps : List Piece) (hops : List Hop) → IsApart net size hop ps hops → is_taken net size n q hop ≡ true → (r : Record) → scattered_records net agent rights v ps hops n q ≡ Some r → ⊥
  apart_none size hop n q v [] hops a t r e = cc
  apart_none size hop n q v (p ∷ ps) [] a t r e = cc
  apart_none size hop n q v (p ∷ ps) (k ∷ ks) a t r e = by (or_cases' (placed_records net (piece_request agent rights p) (at_hop v k) n q) (scattered_records net agent rights (v + p.size) ps ks n q) r e) (apart_none size hop n q (v + p.size) ps ks a.1 t r)
    where
      by : (placed_records net (piece_request agent rights p) (at_hop v k) n q ≡ Some r) ⊎ ((placed_records net (piece_request agent rights p) (at_hop v k) n q ≡ None) × (scattered_records net agent rights (v + p.size) ps ks n q ≡ Some r)) → (scattered_records net agent rights (v + p.size) ps ks n q ≡ Some r → ⊥) → ⊥
      by (inl f) ih = let x = single_taken net (piece_request agent rights p) v k n q r f in let y = a.0 n q t in let z : true ≡ false = sym x ∙ y in cc
      by (inr f) ih = ih f.1

  scattered_unit : (v : ℕ) (ps : List Piece) (hops : List Hop) → ArePlaced net slots agent rights unit v ps hops → (n q : ℕ) (r : Record) → scattered_records net agent rights v ps hops n q ≡ Some r → n ≡ unit
  scattered_unit v [] hops a n q r e = cc
  scattered_unit v (p ∷ ps) [] a n q r e = absurd a
  scattered_unit v (p ∷ ps) (k ∷ ks) a n q r e = by (or_cases' (placed_records net (piece_request agent rights p) (at_hop v k) n q) (scattered_records net agent rights (v + p.size) ps ks n q) r e) (scattered_unit (v + p.size) ps ks a.3 n q r)
    where
      by : (placed_records net (piece_request agent rights p) (at_hop v k) n q ≡ Some r) ⊎ ((placed_records net (piece_request agent rights p) (at_hop v k) n q ≡ None) × (scattered_records net agent rights (v + p.size) ps ks n q ≡ Some r)) → (scattered_records net agent rights (v + p.size) ps ks n q ≡ Some r → n ≡ unit) → n ≡ unit
      by (inl f) ih = single_unit net (piece_request agent rights p) v k n q r f ∙ a.1
      by (inr f) ih = ih f.1

  abbrev joins_of : (rq : Request) (v : ℕ) (hop : Hop) → IsPlacement net slots rq (at_hop v hop) → Joins net slots rq hop []
  joins_of rq v hop p = p.leads.0

  fitted : (rq : Request) (v : ℕ) (hop : Hop) → IsTrue (are_rights rq.rights) → IsPlacement net slots rq (at_hop v hop) → AreFitted net rq (at_hop v hop)
  fitted rq v hop ok p =
      let j = joins_of rq v hop p in
      record {
        some = p.some;
        rights = ok;
        hops = All-cons (IsFitted net rq.size) hop [] (record { unit = j.unit; is_unit = j.is_unit; fits = j.fits }) (All-nil (IsFitted net rq.size));
      }

  scattered_held : (v : ℕ) (ps : List Piece) (hops : List Hop) → ArePlaced net slots agent rights unit v ps hops → AreHeld net (scattered_records net agent rights v ps hops)
  scattered_held v [] hops a n q r e = cc
  scattered_held v (p ∷ ps) [] a n q r e = absurd a
  scattered_held v (p ∷ ps) (k ∷ ks) a n q r e = by (or_cases' (placed_records net (piece_request agent rights p) (at_hop v k) n q) (scattered_records net agent rights (v + p.size) ps ks n q) r e) (scattered_held (v + p.size) ps ks a.3 n q r)
    where
      by : (placed_records net (piece_request agent rights p) (at_hop v k) n q ≡ Some r) ⊎ ((placed_records net (piece_request agent rights p) (at_hop v k) n q ≡ None) × (scattered_records net agent rights (v + p.size) ps ks n q ≡ Some r)) → (scattered_records net agent rights (v + p.size) ps ks n q ≡ Some r → IsHeld net n q r) → IsHeld net n q r
      by (inl f) ih = placed_are_held net (piece_request agent rights p) (at_hop v k) legal.shapes (fitted (piece_request agent rights p) v k are a.0) n q r f
      by (inr f) ih = ih f.1

  -- where a name of a piece leads
  record Led (size : ℕ) (hop : Hop) (x : Name) : Type 0 where
    slot : ℕ
    into : LeadsInto net x unit slot
    taken : is_taken net size unit slot hop ≡ true
    free : h unit slot ≡ None

  led : (rq : Request) (v : ℕ) (hop : Hop) (x y : Name) → IsPlacement net slots rq (at_hop v hop) → hop.unit ≡ unit → Adds rq v x y → Led rq.size hop x
  led rq v hop x y p is a = record {
    slot = slot;
    into = record { stop = name_on hop.unit hop.x a.i; is_stop = stop.0; reaches = (stop.1.0, subst (λ (z : Name). IsChain (Step net) stop.1.0 z (name_on hop.unit hop.x a.i)) (sym a.from) stop.1.2); in_unit = is; part = u; is_part = ap (unit_at net) (sym is) ∙ j.is_unit; in_slot = refl };
    taken = subst (λ (n : ℕ). is_taken net rq.size n slot hop ≡ true) is here;
    free = subst (λ (n : ℕ). h n slot ≡ None) is (empty hop.unit slot vacant);
  }
    where
      j : Joins net slots rq hop []
      j = joins_of rq v hop p

      u : UnitPart
      u = j.unit

      slot : ℕ
      slot = (hop.x + a.i) / 2 ^ u.page

      stop : StopsAt net (name_on rq.agent v a.i) (name_on hop.unit hop.x a.i)
      stop = p.meets a.i a.below

      page : 0 < 2 ^ u.page
      page = pow_pos u.page

      low : first_slot u hop ≤ slot
      low = let d = div-mul-le_self hop.x (2 ^ u.page) in le-div (hop.x / 2 ^ u.page) (hop.x + a.i) (2 ^ u.page) page (omega (arith, d))

      high : slot ≤ last_slot u rq.size hop
      high = let d = div-mul-le_self (hop.x + a.i) (2 ^ u.page) in let b = a.below in le-div ((hop.x + a.i) / 2 ^ u.page) (hop.x + rq.size - 1) (2 ^ u.page) page (omega (arith, d, b))

      here : is_taken net rq.size hop.unit slot hop ≡ true
      here = taken_in net u rq.size hop slot j.is_unit low high

      own : p.own ≡ hop
      own = sym (same_Some hop p.own p.is_own)

      vacant : IsTrue (slots.is_free hop.unit slot)
      vacant = subst (λ (k : Hop). IsFreeHop net slots rq k) own p.free u j.is_unit slot low high

  -- where a name of one of the pieces leads, and which slot is not that of a hop before them
  rest_led : (size : ℕ) (hop : Hop) (v : ℕ) (ps : List Piece) (hops : List Hop) (x y : Name) → IsApart net size hop ps hops → ArePlaced net slots agent rights unit v ps hops → AddsPieces agent rights v ps x y → (slot : ℕ) × LeadsInto net x unit slot × (h unit slot ≡ None) × (is_taken net size unit slot hop ≡ true → ⊥)
  rest_led size hop v [] hops x y a p add = absurd add
  rest_led size hop v (q ∷ qs) [] x y a p add = absurd p
  rest_led size hop v (q ∷ qs) (k ∷ ks) x y a p (inl add) =
      let l = led (piece_request agent rights q) v k x y p.0 p.1 add in
      (l.slot, l.into, l.free, (λ t. let z : true ≡ false = sym l.taken ∙ a.0 unit l.slot t in cc))
  rest_led size hop v (q ∷ qs) (k ∷ ks) x y a p (inr add) = rest_led size hop (v + q.size) qs ks x y a.1 p.3 add

  -- what is added of one of two, for an access that the rights allow
  parted : {P T A B : Type 0} → P ⊎ (T × (A ⊎ B)) → P ⊎ ((T × A) ⊎ (T × B))
  parted (inl p) = inl p
  parted (inr (t, inl a)) = inr (inl (t, a))
  parted (inr (t, inr b)) = inr (inr (t, b))

  joined : {P T A B : Type 0} → P ⊎ ((T × A) ⊎ (T × B)) → P ⊎ (T × (A ⊎ B))
  joined (inl p) = inl p
  joined (inr (inl (t, a))) = inr (t, inl a)
  joined (inr (inr (t, b))) = inr (t, inr b)

  joined_nothing : (none : Held) → ((n q : ℕ) → none n q ≡ None) → ◌≡◌ {A = Held} (joined_records h none) h
  joined_nothing none f = λ i n q. same n q i
    where
      same : (n q : ℕ) → or_record (h n q) (none n q) ≡ h n q
      same n q = ap (or_record (h n q)) (f n q) ∙ or_none (h n q)

  each_is_whole : (v : ℕ) (ps : List Piece) (hops : List Hop) → ArePlaced net slots agent rights unit v ps hops → AreAdmissible net h agent rights v ps hops ↔ AreEachAdmissible net h agent rights v ps hops
  each_is_whole v [] [] a = (
    (λ adm. tt),
    (λ none access x y ag. (
      (λ r. inl (subst (λ (g : Held). ResolvesUnder net (allowing access g) x y) (joined_nothing (scattered_records net agent rights v [] []) (λ n q. refl)) r)),
      (λ s. back access x y s),
    )),
  )
    where
      back : (access : Access) (x y : Name) → ResolvesUnder net (allowing access h) x y ⊎ (IsTrue (allows rights access) × AddsPieces agent rights v [] x y) → ResolvesUnder net (allowing access (joined_records h (scattered_records net agent rights v [] []))) x y
      back access x y (inl r) = subst (λ (g : Held). ResolvesUnder net (allowing access g) x y) (sym (joined_nothing (scattered_records net agent rights v [] []) (λ n q. refl))) r
      back access x y (inr s) = absurd s.1
  each_is_whole v [] (k ∷ ks) a = absurd a
  each_is_whole v (p ∷ ps) [] a = absurd a
  each_is_whole v (p ∷ ps) (k ∷ ks) a = by (each_is_whole (v + p.size) ps ks a.3)
    where
      rq : Request
      rq = piece_request agent rights p

      A : Held
      A = placed_records net rq (at_hop v k)

      B : Held
      B = scattered_records net agent rights (v + p.size) ps ks

      ha : Held
      ha = joined_records h A

      hb : Held
      hb = joined_records h B

      all : Held
      all = joined_records h (scattered_records net agent rights v (p ∷ ps) (k ∷ ks))

      one : Access → Name → Name → Type 0
      one access x y = IsTrue (allows rights access) × Adds rq v x y

      two : Access → Name → Name → Type 0
      two access x y = IsTrue (allows rights access) × AddsPieces agent rights (v + p.size) ps x y

      clash : (n q : ℕ) (r s : Record) → A n q ≡ Some r → B n q ≡ Some s → ⊥
      clash n q r s e f = apart_none p.size k n q (v + p.size) ps ks a.2 (single_taken net rq v k n q r e) s f

      first_stands : Extends ha all
      first_stands n q r e = pick (or_cases' (h n q) (A n q) r e)
        where
          pick : (h n q ≡ Some r) ⊎ ((h n q ≡ None) × (A n q ≡ Some r)) → all n q ≡ Some r
          pick (inl f) = or_first (h n q) (or_record (A n q) (B n q)) r f
          pick (inr f) = or_second (h n q) (or_record (A n q) (B n q)) f.0 ∙ or_first (A n q) (B n q) r f.1

      second_stands : Extends hb all
      second_stands n q r e = pick (or_cases' (h n q) (B n q) r e)
        where
          pick : (h n q ≡ Some r) ⊎ ((h n q ≡ None) × (B n q ≡ Some r)) → all n q ≡ Some r
          pick (inl f) = or_first (h n q) (or_record (A n q) (B n q)) r f
          pick (inr f) = or_second (h n q) (or_record (A n q) (B n q)) f.0 ∙ or_second (A n q) (B n q) (none_by (A n q) (λ t s. clash n q t r s f.1)) ∙ f.1

      either : (n q : ℕ) (r : Record) → all n q ≡ Some r → (ha n q ≡ Some r) ⊎ (hb n q ≡ Some r)
      either n q r e = pick (or_cases' (h n q) (or_record (A n q) (B n q)) r e)
        where
          further : h n q ≡ None → (A n q ≡ Some r) ⊎ ((A n q ≡ None) × (B n q ≡ Some r)) → (ha n q ≡ Some r) ⊎ (hb n q ≡ Some r)
          further none (inl f) = inl (or_second (h n q) (A n q) none ∙ f)
          further none (inr f) = inr (or_second (h n q) (B n q) none ∙ f.1)

          pick : (h n q ≡ Some r) ⊎ ((h n q ≡ None) × (or_record (A n q) (B n q) ≡ Some r)) → (ha n q ≡ Some r) ⊎ (hb n q ≡ Some r)
          pick (inl f) = inl (or_first (h n q) (A n q) r f)
          pick (inr f) = further f.0 (or_cases' (A n q) (B n q) r f.1)

      elsewhere : (n q : ℕ) (r : Record) → (n ≡ unit → ⊥) → all n q ≡ Some r → (ha n q ≡ Some r) × (hb n q ≡ Some r)
      elsewhere n q r ne e = pick (or_cases' (h n q) (or_record (A n q) (B n q)) r e)
        where
          further : (A n q ≡ Some r) ⊎ ((A n q ≡ None) × (B n q ≡ Some r)) → (ha n q ≡ Some r) × (hb n q ≡ Some r)
          further (inl f) = absurd (ne (single_unit net rq v k n q r f ∙ a.1))
          further (inr f) = absurd (ne (scattered_unit (v + p.size) ps ks a.3 n q r f.1))

          pick : (h n q ≡ Some r) ⊎ ((h n q ≡ None) × (or_record (A n q) (B n q) ≡ Some r)) → (ha n q ≡ Some r) × (hb n q ≡ Some r)
          pick (inl f) = (or_first (h n q) (A n q) r f, or_first (h n q) (B n q) r f)
          pick (inr f) = further (or_cases' (A n q) (B n q) r f.1)

      parts : AreParts unit ha hb all
      parts = record { first_stands = first_stands; second_stands = second_stands; either = either; elsewhere = elsewhere }

      held_all : AreHeld net all
      held_all n q r e = pick (or_cases' (h n q) (or_record (A n q) (B n q)) r e)
        where
          further : (A n q ≡ Some r) ⊎ ((A n q ≡ None) × (B n q ≡ Some r)) → IsHeld net n q r
          further (inl f) = placed_are_held net rq (at_hop v k) legal.shapes (fitted rq v k are a.0) n q r f
          further (inr f) = scattered_held (v + p.size) ps ks a.3 n q r f.1

          pick : (h n q ≡ Some r) ⊎ ((h n q ≡ None) × (or_record (A n q) (B n q) ≡ Some r)) → IsHeld net n q r
          pick (inl f) = held n q r f
          pick (inr f) = further (or_cases' (A n q) (B n q) r f.1)

      part_one : IsPart net unit h ha hb one
      part_one = record {
        more = (λ n q r e. or_first (h n q) (A n q) r e);
        place = (λ access x y add. let l = led rq v k x y a.0 a.1 add.1 in
            (l.slot, l.into, or_second (h unit l.slot) (B unit l.slot) l.free ∙ none_by (B unit l.slot) (λ r e. apart_none p.size k unit l.slot (v + p.size) ps ks a.2 l.taken r e)));
      }

      part_two : IsPart net unit h hb ha two
      part_two = record {
        more = (λ n q r e. or_first (h n q) (B n q) r e);
        place = (λ access x y add. let l = rest_led p.size k (v + p.size) ps ks x y a.2 a.3 add.1 in
            (l.0, l.1, or_second (h unit l.0) (A unit l.0) l.2 ∙ none_by (A unit l.0) (λ r e. l.3 (single_taken net rq v k unit l.0 r e))));
      }

      whole : Showing net h all (λ access x y. one access x y ⊎ two access x y) ↔ (Showing net h ha one × Showing net h hb two)
      whole = whole_shows net unit h ha hb all one two legal held_all parts part_one part_two

      by : AreAdmissible net h agent rights (v + p.size) ps ks ↔ AreEachAdmissible net h agent rights (v + p.size) ps ks → AreAdmissible net h agent rights v (p ∷ ps) (k ∷ ks) ↔ AreEachAdmissible net h agent rights v (p ∷ ps) (k ∷ ks)
      by ih = (
        (λ adm. let e = whole.0 (λ access x y ag. ((λ r. parted ((adm access x y ag).0 r)), (λ s. (adm access x y ag).1 (joined s)))) in (e.0, ih.0 e.1)),
        (λ each access x y ag. let e = whole.1 (each.0, ih.1 each.1) access x y ag in ((λ r. joined (e.0 r)), (λ s. e.1 (parted s)))),
      )

pub whole_is_piece_by_piece : WholeIsPieceByPiece
whole_is_piece_by_piece net slots agent rights unit v ps hops legal held empty are placed = each_is_whole net legal slots held empty agent rights are unit v ps hops placed
