-- The outputs of a piece that agree with its input, tried in turn.
use Rattle.std.proofs.Common.{◌≡◌, ℕ, zero, suc, ◌+◌, ◌*◌, ◌%◌, ◌^◌, ◌<◌, ◌≤◌, ◌⊎◌, inl, inr, true, false, ◌&&◌, nat_eq, List, [], ◌∷◌, length, get_or, slice_get, Option, Some, None, IsTrue, refl, sym, ap, ◌∙◌, subst, arith}
use Rattle.std.proofs.lemmas.Bool.{and_parts, cases_lt, cases_order, eq-eqb, eqb-true, or_cases}
use Rattle.std.proofs.lemmas.Option.{get_or_from_slice_get, same_Some, slice_get_within}
use Rattle.dn_net.specs.declared.node.NodeDecl.{NodeDecl}
use Rattle.dn_net.specs.declared.node.Unit.{Unit as UnitPart}
use Rattle.dn_net.specs.Decode.{is_agent_at, unit_at}
use Rattle.dn_net.specs.Legal.{IsLegalNet}
use Rattle.dn_kind.specs.declared.rights.Rights.{Rights}
use Rattle.dn_kind.specs.Kind.{Meaning}
use Rattle.dn_kind.specs.Rights.{are_rights}
use Rattle.dn_kind.specs.Tables.{AreHeld}
use Rattle.dn_tables.specs.declared.placement.Hop.{Hop}
use Rattle.dn_tables.specs.declared.table.NodeTable.{NodeTable}
use Rattle.dn_placement.specs.declared.request.Request.{Request}
use Rattle.dn_placement.specs.Keys.{comes_before}
use Rattle.dn_placement.specs.Placement.{IsPlacement}
use Rattle.dn_placement.specs.Slots.{Slots, slots_of_set}
use Rattle.dn_placement.proofs.Keys.{not_before, same_front}
use Rattle.dn_place.specs.declared.exits.Exit.{Exit}
use Rattle.dn_place.specs.Exits.{AreExits, has_exit, IsExit}
use Rattle.dn_place.specs.Sought.{HasUnitBounds}
use Rattle.dn_view.proofs.Ways.{one_stop}
use Rattle.dn_gather.specs.declared.piece.Piece.{Piece}
use Rattle.dn_gather.specs.Grounds.{IsSized}
use Rattle.dn_gather.specs.Firsts.{IsFirstHop, IsSuitedHop, hop_key}
use Rattle.dn_gather.specs.Outputs.{AgreeFrom, AreRanked, IsRanked, agrees_at}
use Rattle.dn_gather.specs.Scattered.{at_hop, piece_request}
use Rattle.dn_gather.specs.Stands.{CanStand, Stands}
use Rattle.dn_gather.proofs.Choosing.{joins_of, stands_placed, suited_lone, suited_stands}
use Rattle.dn_gather.proofs.Entering.{one_input}
use Rattle.dn_gather.proofs.Ranked.{exits_ranked, places_ascend}

-- an output that is listed, at its place
pub listed_at : (port y : ℕ) (exits : List Exit) → has_exit port y exits ≡ true → (j : ℕ) × (e : Exit) × (slice_get exits j ≡ Some e) × (e.port ≡ port) × (e.y ≡ y)
listed_at port y [] h = cc
listed_at port y (e ∷ es) h = by (λ t. listed_at port y es t) (or_cases (nat_eq e.port port && nat_eq e.y y) (has_exit port y es) h)
  where
    by : (has_exit port y es ≡ true → (j : ℕ) × (x : Exit) × (slice_get es j ≡ Some x) × (x.port ≡ port) × (x.y ≡ y)) → ((nat_eq e.port port && nat_eq e.y y) ≡ true) ⊎ (has_exit port y es ≡ true) → (j : ℕ) × (x : Exit) × (slice_get (e ∷ es) j ≡ Some x) × (x.port ≡ port) × (x.y ≡ y)
    by rest (inl t) = let w = and_parts (nat_eq e.port port) (nat_eq e.y y) t in (0, e, refl, eqb-true e.port port w.0, eqb-true e.y y w.1)
    by rest (inr t) = let r = rest t in (suc r.0, r.1, r.2, r.3, r.4)

-- an output that has the place of another, and no lesser rank, does not come before it
not_lesser : (page x : ℕ) (a b : Exit) → IsRanked page a → IsRanked page b → a.y % 2 ^ page ≡ b.y % 2 ^ page → a.rank ≤ b.rank → comes_before (b.port ∷ b.y ∷ x ∷ []) (a.port ∷ a.y ∷ x ∷ []) ≡ false
not_lesser page x a b r s same l = by (cases_order a.port b.port) (cases_order a.y b.y)
  where
    less : a.port * 72057594037927936 + a.y ≤ b.port * 72057594037927936 + b.y
    less = omega (arith, r.rank, s.rank, same, l)

    both : a.port ≡ b.port → a.y ≡ b.y → comes_before (b.port ∷ b.y ∷ x ∷ []) (a.port ∷ a.y ∷ x ∷ []) ≡ false
    both e f = subst (λ (n : ℕ). comes_before (b.port ∷ b.y ∷ x ∷ []) (n ∷ a.y ∷ x ∷ []) ≡ false) (sym e) (subst (λ (n : ℕ). comes_before (b.port ∷ b.y ∷ x ∷ []) (b.port ∷ n ∷ x ∷ []) ≡ false) (sym f) (same_front (b.port ∷ b.y ∷ x ∷ []) [] []))

    by : (a.port ≡ b.port) ⊎ ((a.port < b.port) ⊎ (b.port < a.port)) → (a.y ≡ b.y) ⊎ ((a.y < b.y) ⊎ (b.y < a.y)) → comes_before (b.port ∷ b.y ∷ x ∷ []) (a.port ∷ a.y ∷ x ∷ []) ≡ false
    by (inr (inl m)) o = not_before b.port a.port (b.y ∷ x ∷ []) (a.y ∷ x ∷ []) m
    by (inr (inr m)) o = absurd (omega (arith, less, r.reached, s.reached, m))
    by (inl e) (inl f) = both e f
    by (inl e) (inr (inl m)) = subst (λ (n : ℕ). comes_before (b.port ∷ b.y ∷ x ∷ []) (n ∷ a.y ∷ x ∷ []) ≡ false) (sym e) (same_front (b.port ∷ []) (b.y ∷ x ∷ []) (a.y ∷ x ∷ []) ∙ not_before b.y a.y (x ∷ []) (x ∷ []) m)
    by (inl e) (inr (inr m)) = absurd (omega (arith, less, e, m))

-- how far the outputs are tried, from a place of the list on: none before this place is admissible
pub record Tried (net : List NodeDecl) (slots : Slots) (rq : Request) (unit v x : ℕ) (exits : List Exit) (from k : ℕ) : Type 0 where
  pub past : from ≤ k
  pub none : (j : ℕ) (e : Exit) → j < k → slice_get exits j ≡ Some e → IsSuitedHop net slots rq unit v (record { unit = unit; port = e.port; x = x; y = e.y }) → ⊥

module _ (net : List NodeDecl) (kinds : List Meaning) (set : List NodeTable) (u : UnitPart) (agent unit : ℕ) (rights : Rights) (p : Piece) (v x : ℕ) (exits : List Exit) (legal : IsLegalNet net) (held : AreHeld net (slots_of_set kinds set).held) (empty : (node slot : ℕ) → IsTrue ((slots_of_set kinds set).is_free node slot) → (slots_of_set kinds set).held node slot ≡ None) (are : IsTrue (are_rights rights)) (is_agent : IsTrue (is_agent_at (slice_get net agent))) (is : unit_at net unit ≡ Some u) (bounds : HasUnitBounds net u) (sized : IsSized p) (outputs : AreExits net u (piece_request agent rights p) exits) (stands : Stands net set u agent unit v p.size x) where
  abbrev suited : Hop → Type 0
  suited hop = IsSuitedHop net (slots_of_set kinds set) (piece_request agent rights p) unit v hop

  abbrev by_exit : Exit → Hop
  by_exit e = record { unit = unit; port = e.port; x = x; y = e.y }

  abbrev TriedTo : ℕ → ℕ → Type 0
  TriedTo from k = Tried net (slots_of_set kinds set) (piece_request agent rights p) unit v x exits from k

  ranked : AreRanked u.page exits
  ranked = exits_ranked net u (piece_request agent rights p) exits sized.some bounds outputs

  item : (j : ℕ) (e : Exit) → slice_get exits j ≡ Some e → IsRanked u.page e
  item j e at = subst (λ (q : Exit). IsRanked u.page q) (get_or_from_slice_get exits j e e at) (ranked.each j e (slice_get_within exits j e at))

  -- an admissible hop is one of the outputs, and agrees
  pub record Listed (hop : Hop) : Type 0 where
    pub j : ℕ
    pub e : Exit
    pub at : slice_get exits j ≡ Some e
    pub hop_is : hop ≡ by_exit e
    pub agree : e.y % 2 ^ u.page ≡ x % 2 ^ u.page

  pub listed : (hop : Hop) → suited hop → Listed hop
  listed hop s =
      let c : CanStand net set u agent unit rights p v hop.x = suited_stands net kinds set u agent unit rights p v hop legal held empty are is_agent sized.buffer is s in
      let same : hop.x ≡ x = one_input net agent unit v p.size p.size hop.x x (one_stop net legal) sized.some sized.some c.stands.enters stands.enters in
      let r = listed_at hop.port hop.y exits (outputs.all hop.port hop.y (gives hop s) (suited_lone net (slots_of_set kinds set) u agent unit rights p v hop legal held empty are is_agent sized.buffer is s)) in
      record { j = r.0; e = r.1; at = r.2; hop_is = made hop.unit unit hop.port r.1.port hop.x x hop.y r.1.y s.in_unit (sym r.3) same (sym r.4); agree = ap (λ n. n % 2 ^ u.page) r.4 ∙ sym (agree hop s) ∙ ap (λ n. n % 2 ^ u.page) same }
    where
      made : (a a' b b' c c' d d' : ℕ) → a ≡ a' → b ≡ b' → c ≡ c' → d ≡ d' → ◌≡◌ {A = Hop} (record { unit = a; port = b; x = c; y = d }) (record { unit = a'; port = b'; x = c'; y = d' })
      made a a' b b' c c' d d' e f g h = cc

      unit_same : (hop : Hop) → (s : suited hop) → (joins_of net (slots_of_set kinds set) (piece_request agent rights p) v hop s.placed).unit ≡ u
      unit_same hop s = let j = joins_of net (slots_of_set kinds set) (piece_request agent rights p) v hop s.placed in same_Some j.unit u (sym j.is_unit ∙ ap (unit_at net) s.in_unit ∙ is)

      gives : (hop : Hop) → suited hop → IsExit net u (piece_request agent rights p) hop.port hop.y
      gives hop s =
          let j = joins_of net (slots_of_set kinds set) (piece_request agent rights p) v hop s.placed in
          let same = unit_same hop s in
          record { node = j.fits.node; is_port = subst (λ (w : UnitPart). slice_get w.ports hop.port ≡ Some j.fits.node) same j.fits.is_port; reached = subst (λ (w : UnitPart). hop.y + p.size ≤ 2 ^ w.reach) same j.fits.reached; meets = j.meets }

      agree : (hop : Hop) → suited hop → hop.x % 2 ^ u.page ≡ hop.y % 2 ^ u.page
      agree hop s =
          let j = joins_of net (slots_of_set kinds set) (piece_request agent rights p) v hop s.placed in
          subst (λ (w : UnitPart). hop.x % 2 ^ w.page ≡ hop.y % 2 ^ w.page) (unit_same hop s) j.fits.agree

  pub tried_begun : (from : ℕ) → AgreeFrom u.page (x % 2 ^ u.page) exits from → from ≤ length exits → TriedTo from from
  tried_begun from a within = record { past = omega arith; none = λ j e l at s. by j e l at (listed (by_exit e) s) }
    where
      by : (j : ℕ) (e : Exit) → j < from → slice_get exits j ≡ Some e → Listed (by_exit e) → ⊥
      by j e l at w =
          let same : e.y ≡ w.e.y = ap (λ (h : Hop). h.y) w.hop_is in
          let low : e.y % 2 ^ u.page < x % 2 ^ u.page = subst (λ (q : Exit). q.y % 2 ^ u.page < x % 2 ^ u.page) (get_or_from_slice_get exits j e e at) (a.before j e (omega arith) l) in
          omega (arith, low, ap (λ n. n % 2 ^ u.page) same ∙ w.agree)

  -- one that is not admissible
  pub tried_on : (from k : ℕ) (e : Exit) → slice_get exits k ≡ Some e → (suited (by_exit e) → ⊥) → TriedTo from k → TriedTo from (k + 1)
  tried_on from k e at not t = record { past = (let a = t.past in omega (arith, a)); none = λ j d l is s. by j d is s (cases_order j k) l }
    where
      by : (j : ℕ) (d : Exit) → slice_get exits j ≡ Some d → suited (by_exit d) → (j ≡ k) ⊎ ((j < k) ⊎ (k < j)) → j < k + 1 → ⊥
      by j d is s (inl m) l = not (subst (λ (q : Exit). suited (by_exit q)) (same_Some d e (sym is ∙ ap (slice_get exits) m ∙ at)) s)
      by j d is s (inr (inl m)) l = t.none j d m is s
      by j d is s (inr (inr m)) l = omega arith

  -- the first that is admissible
  pub tried_found : (from k : ℕ) (e : Exit) → slice_get exits k ≡ Some e → e.y % 2 ^ u.page ≡ x % 2 ^ u.page → suited (by_exit e) → TriedTo from k → IsFirstHop net (slots_of_set kinds set) (piece_request agent rights p) unit v (by_exit e)
  tried_found from k e at agree s t = record { suited = s; least = λ hop is. by hop is (listed hop is) }
    where
      by : (hop : Hop) → suited hop → Listed hop → comes_before (hop_key hop) (hop_key (by_exit e)) ≡ false
      by hop is w = subst (λ (h : Hop). comes_before (hop_key h) (hop_key (by_exit e)) ≡ false) (sym w.hop_is) (order (cases_lt w.j k))
        where
          order : (w.j < k) ⊎ (k ≤ w.j) → comes_before (hop_key (by_exit w.e)) (hop_key (by_exit e)) ≡ false
          order (inl l) = absurd (t.none w.j w.e l w.at (subst suited w.hop_is is))
          order (inr l) =
              let up : e.rank ≤ w.e.rank = subst (λ (q : Exit). q.rank ≤ w.e.rank) (get_or_from_slice_get exits k e e at) (subst (λ (q : Exit). (get_or exits k e).rank ≤ q.rank) (get_or_from_slice_get exits w.j w.e e w.at) (ranked.order k w.j e l (slice_get_within exits w.j w.e w.at))) in
              not_lesser u.page x e w.e (item k e at) (item w.j w.e w.at) (agree ∙ sym w.agree) up

  -- no further output agrees
  pub tried_done : (from k : ℕ) → AgreeFrom u.page (x % 2 ^ u.page) exits from → agrees_at u.page (x % 2 ^ u.page) (slice_get exits k) ≡ false → TriedTo from k → (hop : Hop) → suited hop → ⊥
  tried_done from k a ends t hop s = by (listed hop s)
    where
      never : true ≡ false → ⊥
      never e = cc

      by : Listed hop → ⊥
      by w = order (cases_lt w.j k)
        where
          past : (o : Option Exit) → slice_get exits k ≡ o → agrees_at u.page (x % 2 ^ u.page) o ≡ false → k ≤ w.j → ⊥
          past None e f l = absurd (beyond exits k w.j w.e e l w.at)
            where
              beyond : (xs : List Exit) (k j : ℕ) (d : Exit) → slice_get xs k ≡ None → k ≤ j → slice_get xs j ≡ Some d → ⊥
              beyond [] k j d e l f = cc
              beyond (q ∷ xs) zero j d e l f = cc
              beyond (q ∷ xs) (suc k) zero d e l f = omega arith
              beyond (q ∷ xs) (suc k) (suc j) d e l f = beyond xs k j d e (omega arith) f
          past (Some e) at f l =
              let from_here : x % 2 ^ u.page ≤ e.y % 2 ^ u.page = subst (λ (q : Exit). x % 2 ^ u.page ≤ q.y % 2 ^ u.page) (get_or_from_slice_get exits k e e at) (a.after k e t.past (slice_get_within exits k e at)) in
              let up : e.y % 2 ^ u.page ≤ w.e.y % 2 ^ u.page = places_ascend u.page e w.e (item k e at) (item w.j w.e w.at) (subst (λ (q : Exit). q.rank ≤ w.e.rank) (get_or_from_slice_get exits k e e at) (subst (λ (q : Exit). (get_or exits k e).rank ≤ q.rank) (get_or_from_slice_get exits w.j w.e e w.at) (ranked.order k w.j e l (slice_get_within exits w.j w.e w.at)))) in
              never (sym (eq-eqb (e.y % 2 ^ u.page) (x % 2 ^ u.page) (omega (arith, from_here, up, w.agree))) ∙ f)

          order : (w.j < k) ⊎ (k ≤ w.j) → ⊥
          order (inl l) = t.none w.j w.e l w.at (subst suited w.hop_is s)
          order (inr l) = past (slice_get exits k) refl ends l

  -- an output that agrees is a placement
  pub agrees_placed : (k : ℕ) (e : Exit) → slice_get exits k ≡ Some e → e.y % 2 ^ u.page ≡ x % 2 ^ u.page → IsPlacement net (slots_of_set kinds set) (piece_request agent rights p) (at_hop v (by_exit e))
  agrees_placed k e at agree = stands_placed net kinds set u agent unit rights p v x e.port e.y is sized.some stands (subst (λ (q : Exit). IsExit net u (piece_request agent rights p) q.port q.y) (get_or_from_slice_get exits k e e at) (outputs.each k e (slice_get_within exits k e at)).gives) (sym agree)
