-- The walk over the agent's rows.
use Rattle.std.proofs.Common.{◌≡◌, ℕ, ◌+◌, ◌-◌, ◌<◌, ◌≤◌, ◌↔◌, List, [], ◌∷◌, ◌++◌, length, drop, get_or, slice_get, sym, ap, ◌∙◌, subst, arith}
use Rattle.std.proofs.Math.ListN.{drop_of_length-le}
use Rattle.dn_base.proofs.Lists.{drop_at}
use Rattle.dn_interval.specs.declared.row.End.{End}
use Rattle.dn_interval.specs.declared.row.Row.{Row}
use Rattle.dn_net.specs.Decode.{top}
use Rattle.dn_tables.specs.declared.placement.Hop.{Hop}
use Rattle.dn_tables.specs.Placement.{Place}
use Rattle.dn_place.specs.Sought.{IsSearchReady, Sought}
use Rattle.dn_placement.specs.Keys.{Begins}
use Rattle.dn_placement.specs.Order.{IsAt, hop_page, key_of}
use Rattle.dn_placement.specs.Placement.{Meets}
use Rattle.dn_placement.proofs.Keys.{append_none, one_more}
use Rattle.dn_placement.specs.declared.request.Request.{Request}
use Rattle.dn_place.specs.Rows.{AreToward, InRow, IsClear, wanted_name}
use Rattle.dn_place.specs.Candidates.{IsUnder, NoneUnder, IsFirstUnder, key_of_hops, to_address}
use Rattle.dn_place.proofs.Walks.{Walked, Stretches, walked_on, walk_found, walk_done, one_in_row}
use Rattle.dn_place.proofs.Meetings.{meets_gives, walk_meets}
use Rattle.dn_place.proofs.Wholes.{Whole, whole}

-- its address, and its hops
pub v_of : (s : Sought) (hops : List Hop) (q : Place) (j : ℕ) → IsUnder s (key_of_hops (length hops) hops ++ j ∷ []) q → (q.v ≡ j) × (q.hops ≡ hops)
v_of s hops q j u = (heads q.v j (hop_page s.net (slice_get hops q.own) ∷ (length hops - q.own) ∷ []) w.rest w.tail, w.same)
  where
    w : Whole s hops q (j ∷ [])
    w = whole s hops q (j ∷ []) u

    heads : (a d : ℕ) (m r : List ℕ) → (a ∷ m) ≡ (d ∷ r) → a ≡ d
    heads a d m r p = cc

-- a placement goes on with an address from which the agent meets the hops
pub agent_stretches : (s : Sought) (hops : List Hop) (rows : List Row) → IsSearchReady s → AreToward s.net s.request hops s.request.agent rows → Stretches s (key_of_hops (length hops) hops) rows (wanted_name s.request hops)
agent_stretches s hops rows ready f = λ q j u.
    let w = v_of s hops q j u in
    let p = u.is.is_placement in
    meets_gives s s.request.agent j hops rows f ready.one_stop (subst (λ (n : ℕ). n + s.request.size ≤ top + 1) w.0 p.fits) (subst (λ (n : ℕ). Meets s.net s.request s.request.agent n hops) w.0 (subst (λ (l : List Hop). Meets s.net s.request s.request.agent q.v l) w.1 p.meets))

pub agent_goes : (s : Sought) (hops : List Hop) (q : Place) → IsUnder s (key_of_hops (length hops) hops) q → (j : ℕ) × Begins (key_of_hops (length hops) hops ++ j ∷ []) (key_of s.net q)
agent_goes s hops q u = (q.v, (hop_page s.net (slice_get hops q.own) ∷ (length hops - q.own) ∷ [], w.key ∙ sym (one_more (key_of_hops (length hops) hops) q.v (hop_page s.net (slice_get hops q.own) ∷ (length hops - q.own) ∷ []))))
  where
    w : Whole s hops q []
    w = whole s hops q [] (subst (λ f. IsUnder s f q) (sym (append_none (key_of_hops (length hops) hops))) u)

-- an address that is not asked for
pub not_asked : (s : Sought) (hops : List Hop) (v : ℕ) → (IsAt s.at v → ⊥) → NoneUnder s (to_address (length hops) hops v)
not_asked s hops v other = record { none = λ q u. absurd (other (subst (IsAt s.at) (v_of s hops q v u).0 u.is.is_at)) }

-- a step of a walk over the rows

pub step : (s : Sought) (front : List ℕ) (rows : List Row) (i : ℕ) (r : Row) (t : End) → i < length rows → r ≡ get_or rows i r → 1 ≤ s.request.size → Stretches s front rows t → Walked s front rows (drop i rows) → ((j : ℕ) → InRow r t s.request.size j → NoneUnder s (front ++ j ∷ [])) → Walked s front rows (drop (i + 1) rows)
step s front rows i r t l g some st w n = walked_on s front rows r (drop (i + 1) rows) t some st (subst (Walked s front rows) (drop_at rows i r l g) w) n

pub step_found : (s : Sought) (front : List ℕ) (rows : List Row) (i : ℕ) (r : Row) (t : End) (y : ℕ) (p : Place) → i < length rows → r ≡ get_or rows i r → 1 ≤ s.request.size → Stretches s front rows t → Walked s front rows (drop i rows) → InRow r t s.request.size y → IsFirstUnder s (front ++ y ∷ []) p → IsFirstUnder s front p
step_found s front rows i r t y p l g some st w here f = walk_found s front rows r (drop (i + 1) rows) t y p some st (subst (Walked s front rows) (drop_at rows i r l g) w) here f

pub step_done : (s : Sought) (front : List ℕ) (rows : List Row) (i : ℕ) (t : End) → length rows ≤ i → 1 ≤ s.request.size → Stretches s front rows t → ((q : Place) → IsUnder s front q → (j : ℕ) × Begins (front ++ j ∷ []) (key_of s.net q)) → Walked s front rows (drop i rows) → NoneUnder s front
step_done s front rows i t l some st goes w = walk_done s front rows t some st goes (subst (Walked s front rows) (drop_of_length-le rows l) w)

-- the row's one address
pub only_there : (s : Sought) (front : List ℕ) (r : Row) (t : End) (y : ℕ) → InRow r t s.request.size y → NoneUnder s (front ++ y ∷ []) → (j : ℕ) → InRow r t s.request.size j → NoneUnder s (front ++ j ∷ [])
only_there s front r t y w n j v = subst (λ k. NoneUnder s (front ++ k ∷ [])) (one_in_row r t s.request.size y j w v) n

-- a stretch in the row to which the walk has come meets what is wanted
pub step_meets : (s : Sought) (front : List ℕ) (n : ℕ) (hops : List Hop) (rows : List Row) (i : ℕ) (r : Row) (y : ℕ) → AreToward s.net s.request hops n rows → y + s.request.size ≤ top + 1 → i < length rows → r ≡ get_or rows i r → Walked s front rows (drop i rows) → InRow r (wanted_name s.request hops) s.request.size y → IsClear s.net n hops y s.request.size → Meets s.net s.request n y hops
step_meets s front n hops rows i r y f fits l g w here c = walk_meets s front n hops rows r (drop (i + 1) rows) y f fits (subst (Walked s front rows) (drop_at rows i r l g) w) here c

-- what a row gives, asked by a copy of the request
pub row_asked : (s : Sought) (hops : List Hop) (r : Row) (t : End) (rq other : Request) (a : ℕ) → t ≡ wanted_name rq hops → rq ≡ s.request → other ≡ s.request → InRow r t other.size a ↔ InRow r (wanted_name s.request hops) s.request.size a
row_asked s hops r t rq other a e f h =
    let same : t ≡ wanted_name s.request hops = e ∙ ap (λ (q : Request). wanted_name q hops) f in (
      (λ w. subst (λ (q : Request). InRow r (wanted_name s.request hops) q.size a) h (subst (λ (z : End). InRow r z other.size a) same w)),
      (λ w. subst (λ (z : End). InRow r z other.size a) (sym same) (subst (λ (q : Request). InRow r (wanted_name s.request hops) q.size a) (sym h) w)),
    )

-- where a hop follows, nothing is asked of stops beside it
pub clear_of : (s : Sought) (node : ℕ) (hops : List Hop) (a size : ℕ) → 1 ≤ length hops → IsClear s.net node hops a size
clear_of s node [] a size l = absurd (omega arith)
clear_of s node (hop ∷ hops) a size l = tt

-- a stretch in a row ends at the last address or before
pub row_fits : (r : Row) (t : End) (size a : ℕ) → InRow r t size a → a + size ≤ top + 1
row_fits r t size a w = let h : r.span.hi ≤ top = r.span.within in omega (arith, w.to)
