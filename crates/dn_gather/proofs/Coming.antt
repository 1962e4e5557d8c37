-- The grants of pieces come into a book one after another; the book stays sound, and faithful.
use Rattle.std.proofs.Common.{◌≡◌, ◌≢◌, ℕ, zero, suc, ◌+◌, ◌≤◌, ◌⊎◌, inl, inr, Bool, true, false, ◌||◌, ◌==◌, not, List, [], ◌∷◌, ◌++◌, length, take, Option, Some, None, IsTrue, refl, sym, ap, ◌∙◌, subst, arith, append_assoc}
use Rattle.std.specs.List.{list_any}
use Rattle.std.proofs.lemmas.Bool.{eqb-true}
use Rattle.std.proofs.lemmas.List.Folds.{list_any-append}
use Rattle.std.proofs.lemmas.Option.{same_Some}
use Rattle.dn_net.specs.declared.node.Name.{Name}
use Rattle.dn_net.specs.declared.node.NodeDecl.{NodeDecl}
use Rattle.dn_net.specs.declared.node.Unit.{Unit as UnitPart}
use Rattle.dn_net.specs.Chain.{Member}
use Rattle.dn_net.specs.Decode.{unit_at}
use Rattle.dn_net.specs.Legal.{IsLegalNet}
use Rattle.dn_kind.specs.declared.rights.Access.{Access}
use Rattle.dn_kind.specs.declared.rights.Rights.{Rights}
use Rattle.dn_kind.specs.declared.unit_kind.Record.{Record}
use Rattle.dn_kind.specs.Rights.{allows}
use Rattle.dn_kind.specs.Tables.{Extends, Held, ResolvesUnder, allowing}
use Rattle.dn_tables.specs.declared.placement.Hop.{Hop}
use Rattle.dn_placement.specs.Exposure.{Adds}
use Rattle.dn_placement.specs.Placement.{IsFreeHop, IsPlacement, Joins, is_free}
use Rattle.dn_placement.specs.Records.{first_slot, joined_records, last_slot, or_record}
use Rattle.dn_book.specs.declared.grant.Grant.{Grant}
use Rattle.dn_book.specs.Between.{IsOneOrOther, ResolvesAlike}
use Rattle.dn_book.specs.Book.{IsFaithful, IsGrantedName, IsSound, Owes, grant_records, has_id, is_taken, records_of, slots_of, uses_slot}
use Rattle.dn_book.specs.Laws.{IsGrantFor}
use Rattle.dn_book.proofs.Between.{between_is_one_or_other}
use Rattle.dn_book.proofs.Faithful.{grant_keeps_book}
use Rattle.dn_gather.specs.declared.piece.Piece.{Piece}
use Rattle.dn_gather.specs.Grants.{AreGrantsFor, AreNewIds, AreOtherIds, PiecesAreCaught, PiecesComeInTurn, PiecesKeepBook, piece_grant, grants_at}
use Rattle.dn_gather.specs.Scattered.{AddsPieces, AreAdmissible, ArePlaced, IsApart, at_hop, piece_request, scattered_records}
use Rattle.dn_gather.proofs.Scattering.{placed_count}
use Rattle.dn_gather.proofs.Slots.{taken_in}

-- the records of a book with grants behind it are those of both

or_more : (a b d : Option Record) → or_record (or_record a b) d ≡ or_record a (or_record b d)
or_more None b d = refl
or_more (Some r) b d = refl

pub records_append : (net : List NodeDecl) (book gs : List Grant) (n q : ℕ) → records_of net (book ++ gs) n q ≡ or_record (records_of net book n q) (records_of net gs n q)
records_append net [] gs n q = refl
records_append net (g ∷ book) gs n q = ap (or_record (grant_records net g n q)) (records_append net book gs n q) ∙ sym (or_more (grant_records net g n q) (records_of net book n q) (records_of net gs n q))

records_extend : (net : List NodeDecl) (book gs : List Grant) → Extends (records_of net book) (records_of net (book ++ gs))
records_extend net book gs n q r e = records_append net book gs n q ∙ ap (λ (o : Option Record). or_record o (records_of net gs n q)) e

-- the records of pieces are those of their grants
pub records_pieces : (net : List NodeDecl) (agent : ℕ) (rights : Rights) (v : ℕ) (ps : List Piece) (hops : List Hop) (n q : ℕ) → records_of net (grants_at agent rights v ps hops) n q ≡ scattered_records net agent rights v ps hops n q
records_pieces net agent rights v [] hops n q = refl
records_pieces net agent rights v (p ∷ ps) [] n q = refl
records_pieces net agent rights v (p ∷ ps) (hop ∷ hops) n q = ap (or_record (grant_records net (piece_grant agent rights v p hop) n q)) (records_pieces net agent rights (v + p.size) ps hops n q)

-- the first of the pieces, and those behind it

false_or : (a b : Bool) → a ≡ false → b ≡ false → (a || (b || false)) ≡ false
false_or false false e f = refl
false_or false true e f = cc
false_or true b e f = cc

not_same : (a b : ℕ) → a ≢ b → (a == b) ≡ false
not_same a b n = by (a == b) refl
  where
    by : (t : Bool) → (a == b) ≡ t → t ≡ false
    by false e = refl
    by true e = absurd (n (eqb-true a b e))

new_more : (book : List Grant) (g : Grant) (ps : List Piece) → AreNewIds book ps → AreOtherIds g.id ps → AreNewIds (book ++ g ∷ []) ps
new_more book g [] new others = tt
new_more book g (p ∷ ps) new others = (
  list_any-append (λ (k : Grant). k.id == p.id) book (g ∷ []) ∙ false_or (has_id p.id book) (g.id == p.id) new.0 (not_same g.id p.id others.0),
  new.1,
  new_more book g ps new.2 others.1,
)

length_more : (book : List Grant) (g : Grant) → length (book ++ g ∷ []) ≡ suc (length book)
length_more [] g = refl
length_more (k ∷ book) g = ap suc (length_more book g)

-- a placement of one hop in free slots is one where a hop that takes none of these is in
stays_placed : (net : List NodeDecl) (book : List Grant) (agent : ℕ) (rights : Rights) (v w : ℕ) (p q : Piece) (hop k : Hop) → ((node slot : ℕ) → is_taken net p.size node slot hop ≡ true → is_taken net q.size node slot k ≡ false) → IsPlacement net (slots_of net book) (piece_request agent rights q) (at_hop w k) → IsPlacement net (slots_of net (book ++ piece_grant agent rights v p hop ∷ [])) (piece_request agent rights q) (at_hop w k)
stays_placed net book agent rights v w p q hop k apart pl = record {
  some = pl.some;
  fits = pl.fits;
  least = pl.least;
  most = pl.most;
  meets = pl.meets;
  leads = (record { unit = j.unit; is_unit = j.is_unit; fits = j.fits; usable = λ slot a b. is_free (vacant slot a b); meets = j.meets }, tt);
  own = pl.own;
  is_own = pl.is_own;
  free = λ u at slot a b. subst (λ (h : Hop). IsTrue ((slots_of net next).is_free h.unit slot)) own_is (vacant slot (subst (λ (x : UnitPart). first_slot x k ≤ slot) (unit_is u at) (subst (λ (h : Hop). first_slot u h ≤ slot) (sym own_is) a)) (subst (λ (x : UnitPart). slot ≤ last_slot x q.size k) (unit_is u at) (subst (λ (h : Hop). slot ≤ last_slot u q.size h) (sym own_is) b)));
}
  where
    next : List Grant
    next = book ++ piece_grant agent rights v p hop ∷ []

    j : Joins net (slots_of net book) (piece_request agent rights q) k []
    j = pl.leads.0

    own_is : k ≡ pl.own
    own_is = same_Some k pl.own pl.is_own

    unit_is : (u : UnitPart) → unit_at net pl.own.unit ≡ Some u → u ≡ j.unit
    unit_is u at = same_Some u j.unit (sym at ∙ ap (λ (h : Hop). unit_at net h.unit) (sym own_is) ∙ j.is_unit)

    free_of : (b : Bool) → IsTrue (not b) → b ≡ false
    free_of false e = refl
    free_of true e = cc

    free_to : (b : Bool) → b ≡ false → IsTrue (not b)
    free_to false e = refl
    free_to true e = cc

    not_hop : (slot : ℕ) → is_taken net q.size k.unit slot k ≡ true → is_taken net p.size k.unit slot hop ≡ false
    not_hop slot t = by (is_taken net p.size k.unit slot hop) refl
      where
        never : true ≡ false → ⊥
        never e = cc

        by : (b : Bool) → is_taken net p.size k.unit slot hop ≡ b → b ≡ false
        by false e = refl
        by true e = absurd (never (sym t ∙ apart k.unit slot e))

    vacant : (slot : ℕ) → first_slot j.unit k ≤ slot → slot ≤ last_slot j.unit q.size k → IsTrue ((slots_of net next).is_free k.unit slot)
    vacant slot a b =
        let before : list_any (uses_slot net k.unit slot) book ≡ false = free_of (list_any (uses_slot net k.unit slot) book) (subst (λ (h : Hop). IsFreeHop net (slots_of net book) (piece_request agent rights q) h) (sym own_is) pl.free j.unit j.is_unit slot a b) in
        free_to (list_any (uses_slot net k.unit slot) next) (
        list_any-append (uses_slot net k.unit slot) book (piece_grant agent rights v p hop ∷ [])
        ∙ false_or (list_any (uses_slot net k.unit slot) book) (uses_slot net k.unit slot (piece_grant agent rights v p hop)) before (ap (λ t. t || false) (not_hop slot (taken_in net j.unit q.size k slot j.is_unit a b))))

stay_placed : (net : List NodeDecl) (book : List Grant) (agent : ℕ) (rights : Rights) (unit v w : ℕ) (p : Piece) (hop : Hop) (ps : List Piece) (hops : List Hop) → IsApart net p.size hop ps hops → ArePlaced net (slots_of net book) agent rights unit w ps hops → ArePlaced net (slots_of net (book ++ piece_grant agent rights v p hop ∷ [])) agent rights unit w ps hops
stay_placed net book agent rights unit v w p hop [] [] apart pl = tt
stay_placed net book agent rights unit v w p hop [] (k ∷ ks) apart pl = absurd pl
stay_placed net book agent rights unit v w p hop (q ∷ qs) [] apart pl = absurd pl
stay_placed net book agent rights unit v w p hop (q ∷ qs) (k ∷ ks) apart pl =
    (stays_placed net book agent rights v w p q hop k apart.0 pl.0, pl.1, pl.2, stay_placed net book agent rights unit v (w + q.size) p hop qs ks apart.1 pl.3)

pub first_comes : (net : List NodeDecl) (book : List Grant) (agent : ℕ) (rights : Rights) (unit v : ℕ) (p : Piece) (ps : List Piece) (hop : Hop) (hops : List Hop) → AreGrantsFor net book agent rights unit v (p ∷ ps) (hop ∷ hops) → IsGrantFor net book (piece_grant agent rights v p hop)
first_comes net book agent rights unit v p ps hop hops a = record { few = (let f = a.few in omega (arith, f)); new = a.new.0; agent = a.by_agent; rights = a.with_rights; placed = a.placed.0 }

pub others_come : (net : List NodeDecl) (book : List Grant) (agent : ℕ) (rights : Rights) (unit v : ℕ) (p : Piece) (ps : List Piece) (hop : Hop) (hops : List Hop) → AreGrantsFor net book agent rights unit v (p ∷ ps) (hop ∷ hops) → AreGrantsFor net (book ++ piece_grant agent rights v p hop ∷ []) agent rights unit (v + p.size) ps hops
others_come net book agent rights unit v p ps hop hops a = record {
  few = (let f = a.few in omega (arith, f, length_more book (piece_grant agent rights v p hop)));
  new = new_more book (piece_grant agent rights v p hop) ps a.new.2 a.new.1;
  by_agent = a.by_agent;
  with_rights = a.with_rights;
  placed = stay_placed net book agent rights unit v (v + p.size) p hop ps hops a.placed.2 a.placed.3;
}

pub pieces_come_in_turn : PiecesComeInTurn
pieces_come_in_turn = record { first = first_comes; others = others_come }

-- the book stays sound
stays_sound : (net : List NodeDecl) → IsLegalNet net → (ps : List Piece) (hops : List Hop) (book : List Grant) (agent : ℕ) (rights : Rights) (unit v : ℕ) → IsSound net book → AreGrantsFor net book agent rights unit v ps hops → IsSound net (book ++ grants_at agent rights v ps hops)
stays_sound net legal [] hops book agent rights unit v sound a = subst (λ (l : List Grant). IsSound net l) (sym (none_behind book)) sound
  where
    none_behind : (xs : List Grant) → xs ++ [] ≡ xs
    none_behind [] = refl
    none_behind (x ∷ xs) = ap (λ l. x ∷ l) (none_behind xs)
stays_sound net legal (p ∷ ps) [] book agent rights unit v sound a = absurd a.placed
stays_sound net legal (p ∷ ps) (hop ∷ hops) book agent rights unit v sound a =
    let g : Grant = piece_grant agent rights v p hop in
    subst (λ (l : List Grant). IsSound net l) (append_assoc book (g ∷ []) (grants_at agent rights (v + p.size) ps hops))
    (stays_sound net legal ps hops (book ++ g ∷ []) agent rights unit (v + p.size) (grant_keeps_book net book g legal sound (first_comes net book agent rights unit v p ps hop hops a)).0 (others_come net book agent rights unit v p ps hop hops a))

-- what the grants of pieces give

named_to : (agent : ℕ) (rights : Rights) (access : Access) (x y : Name) (v : ℕ) (ps : List Piece) (hops : List Hop) (g : Grant) → Member g (grants_at agent rights v ps hops) → IsTrue (allows g.request.rights access) → Adds g.request g.placement.v x y → IsTrue (allows rights access) × AddsPieces agent rights v ps x y
named_to agent rights access x y v [] hops g m ok adds = absurd m
named_to agent rights access x y v (p ∷ ps) [] g m ok adds = absurd m
named_to agent rights access x y v (p ∷ ps) (hop ∷ hops) g (inl e) ok adds = (subst (λ (k : Grant). IsTrue (allows k.request.rights access)) (sym e) ok, inl (subst (λ (k : Grant). Adds k.request k.placement.v x y) (sym e) adds))
named_to agent rights access x y v (p ∷ ps) (hop ∷ hops) g (inr m) ok adds = let r = named_to agent rights access x y (v + p.size) ps hops g m ok adds in (r.0, inr r.1)

named_from : (agent : ℕ) (rights : Rights) (access : Access) (x y : Name) (v : ℕ) (ps : List Piece) (hops : List Hop) → length ps ≡ length hops → IsTrue (allows rights access) → AddsPieces agent rights v ps x y → IsGrantedName (grants_at agent rights v ps hops) access x y
named_from agent rights access x y v [] hops same ok adds = absurd adds
named_from agent rights access x y v (p ∷ ps) [] same ok adds = absurd (omega arith)
named_from agent rights access x y v (p ∷ ps) (hop ∷ hops) same ok (inl a) = record { grant = piece_grant agent rights v p hop; is_grant = inl refl; allowed = ok; adds = a }
named_from agent rights access x y v (p ∷ ps) (hop ∷ hops) same ok (inr a) = let r = named_from agent rights access x y (v + p.size) ps hops (omega arith) ok a in record { grant = r.grant; is_grant = inr r.is_grant; allowed = r.allowed; adds = r.adds }

member_left : (g : Grant) (xs ys : List Grant) → Member g xs → Member g (xs ++ ys)
member_left g [] ys m = absurd m
member_left g (x ∷ xs) ys (inl e) = inl e
member_left g (x ∷ xs) ys (inr m) = inr (member_left g xs ys m)

member_right : (g : Grant) (xs ys : List Grant) → Member g ys → Member g (xs ++ ys)
member_right g [] ys m = m
member_right g (x ∷ xs) ys m = inr (member_right g xs ys m)

member_of : (g : Grant) (xs ys : List Grant) → Member g (xs ++ ys) → Member g xs ⊎ Member g ys
member_of g [] ys m = inr m
member_of g (x ∷ xs) ys (inl e) = inl (inl e)
member_of g (x ∷ xs) ys (inr m) = by (member_of g xs ys m)
  where
    by : Member g xs ⊎ Member g ys → Member g (x ∷ xs) ⊎ Member g ys
    by (inl k) = inl (inr k)
    by (inr k) = inr k

-- and faithful, where all is admissible
stays_faithful : (net : List NodeDecl) (book : List Grant) (agent : ℕ) (rights : Rights) (unit v : ℕ) (ps : List Piece) (hops : List Hop) → AreGrantsFor net book agent rights unit v ps hops → IsFaithful net book → AreAdmissible net (records_of net book) agent rights v ps hops → IsFaithful net (book ++ grants_at agent rights v ps hops)
stays_faithful net book agent rights unit v ps hops a faithful admissible access x y is_agent = (
  (λ r. owed ((admissible access x y is_agent).0 (subst (λ (h : Held). ResolvesUnder net (allowing access h) x y) same r))),
  (λ o. subst (λ (h : Held). ResolvesUnder net (allowing access h) x y) (sym same) ((admissible access x y is_agent).1 (shown o))),
)
  where
    gs : List Grant
    gs = grants_at agent rights v ps hops

    same : ◌≡◌ {A = Held} (records_of net (book ++ gs)) (joined_records (records_of net book) (scattered_records net agent rights v ps hops))
    same = λ i n q. one n q i
      where
        one : (n q : ℕ) → records_of net (book ++ gs) n q ≡ or_record (records_of net book n q) (scattered_records net agent rights v ps hops n q)
        one n q = records_append net book gs n q ∙ ap (or_record (records_of net book n q)) (records_pieces net agent rights v ps hops n q)

    more : Owes net book access x y → Owes net (book ++ gs) access x y
    more (inl r) = inl r
    more (inr g) = inr (record { grant = g.grant; is_grant = member_left g.grant book gs g.is_grant; allowed = g.allowed; adds = g.adds })

    owed : ResolvesUnder net (allowing access (records_of net book)) x y ⊎ (IsTrue (allows rights access) × AddsPieces agent rights v ps x y) → Owes net (book ++ gs) access x y
    owed (inl r) = more ((faithful access x y is_agent).0 r)
    owed (inr s) = let g = named_from agent rights access x y v ps hops (placed_count net (slots_of net book) agent rights unit v ps hops a.placed) s.0 s.1 in inr (record { grant = g.grant; is_grant = member_right g.grant book gs g.is_grant; allowed = g.allowed; adds = g.adds })

    shown : Owes net (book ++ gs) access x y → ResolvesUnder net (allowing access (records_of net book)) x y ⊎ (IsTrue (allows rights access) × AddsPieces agent rights v ps x y)
    shown (inl r) = inl ((faithful access x y is_agent).1 (inl r))
    shown (inr g) = by (member_of g.grant book gs g.is_grant)
      where
        by : Member g.grant book ⊎ Member g.grant gs → ResolvesUnder net (allowing access (records_of net book)) x y ⊎ (IsTrue (allows rights access) × AddsPieces agent rights v ps x y)
        by (inl m) = inl ((faithful access x y is_agent).1 (inr (record { grant = g.grant; is_grant = m; allowed = g.allowed; adds = g.adds })))
        by (inr m) = inr (named_to agent rights access x y v ps hops g.grant m g.allowed g.adds)

pub pieces_keep_book : PiecesKeepBook
pieces_keep_book net book agent rights unit v ps hops legal sound a = (stays_sound net legal ps hops book agent rights unit v sound a, stays_faithful net book agent rights unit v ps hops a)

-- what a fault between two of them leaves

alike_then : (net : List NodeDecl) (h a b : Held) (access : Access) (x : Name) → ResolvesAlike net h a access x → ResolvesAlike net a b access x → ResolvesAlike net h b access x
alike_then net h a b access x p q = λ y. ((λ r. (q y).0 ((p y).0 r)), (λ r. (p y).1 ((q y).1 r)))

taken_behind : (gs : List Grant) (count : ℕ) → (rest : List Grant) × (gs ≡ take count gs ++ rest)
taken_behind gs zero = (gs, refl)
taken_behind [] (suc count) = ([], refl)
taken_behind (g ∷ gs) (suc count) = let r = taken_behind gs count in (r.0, ap (λ l. g ∷ l) r.1)

pub pieces_are_caught : PiecesAreCaught
pieces_are_caught net book gs count h legal one access x = by (one access x)
  where
    partly : (k : ℕ) → IsOneOrOther net (records_of net (book ++ take k gs)) (records_of net book) (records_of net (book ++ gs))
    partly k =
        let r = taken_behind gs k in
        let all : (book ++ take k gs) ++ r.0 ≡ book ++ gs = append_assoc book (take k gs) r.0 ∙ ap (λ l. book ++ l) (sym r.1) in
        between_is_one_or_other net (records_of net book) (records_of net (book ++ take k gs)) (records_of net (book ++ gs)) legal (records_extend net book (take k gs))
        (subst (λ (l : List Grant). Extends (records_of net (book ++ take k gs)) (records_of net l)) all (records_extend net (book ++ take k gs) r.0))

    on : (k : ℕ) → ResolvesAlike net h (records_of net (book ++ take k gs)) access x → ResolvesAlike net (records_of net (book ++ take k gs)) (records_of net book) access x ⊎ ResolvesAlike net (records_of net (book ++ take k gs)) (records_of net (book ++ gs)) access x → ResolvesAlike net h (records_of net book) access x ⊎ ResolvesAlike net h (records_of net (book ++ gs)) access x
    on k a (inl p) = inl (alike_then net h (records_of net (book ++ take k gs)) (records_of net book) access x a p)
    on k a (inr p) = inr (alike_then net h (records_of net (book ++ take k gs)) (records_of net (book ++ gs)) access x a p)

    by : ResolvesAlike net h (records_of net (book ++ take count gs)) access x ⊎ ResolvesAlike net h (records_of net (book ++ take (suc count) gs)) access x → ResolvesAlike net h (records_of net book) access x ⊎ ResolvesAlike net h (records_of net (book ++ gs)) access x
    by (inl a) = on count a (partly count access x)
    by (inr a) = on (suc count) a (partly (suc count) access x)
