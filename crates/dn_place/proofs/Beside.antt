-- What an agent's address beside the buffer would see through a lone hop of an admissible placement: nothing.
use Rattle.std.proofs.Common.{◌≡◌, ℕ, zero, suc, ◌+◌, ◌-◌, ◌*◌, ◌/◌, ◌%◌, ◌^◌, ◌<◌, ◌≤◌, inl, inr, List, [], ◌∷◌, length, get_or, slice_get, Some, sym, ap, ◌∙◌, subst, arith, pow_pos, mod-lt}
use Rattle.std.proofs.Math.Nat.{div-add-mod', mod-le}
use Rattle.std.proofs.lemmas.Option.{same_Some}
use Rattle.dn_interval.specs.declared.row.End.{End}
use Rattle.dn_interval.specs.declared.row.Row.{Row}
use Rattle.dn_interval.specs.Rows.{GivenBy}
use Rattle.dn_interval.specs.declared.span.TheConstants.{TOP}
use Rattle.dn_interval.proofs.Membership.{hi_of}
use Rattle.dn_net.specs.declared.node.Unit.{Unit as UnitPart}
use Rattle.dn_net.specs.Decode.{unit_at, Resolves, StopsAt}
use Rattle.dn_tables.specs.declared.placement.Hop.{Hop}
use Rattle.dn_tables.specs.Placement.{Place}
use Rattle.dn_placement.specs.Placement.{Joins}
use Rattle.dn_view.proofs.Pages.{in_page, output_of_hop, page_is}
use Rattle.dn_walk.specs.Ends.{name_of_end}
use Rattle.dn_flat.specs.Views.{ResolvesFrom}
use Rattle.dn_place.specs.Blocks.{ShowsWithin}
use Rattle.dn_place.specs.Candidates.{IsAddressed, IsUnder, NoneUnder, to_address}
use Rattle.dn_place.specs.declared.preimages.Way.{Way}
use Rattle.dn_place.specs.Preimages.{IsWayTo}
use Rattle.dn_place.specs.Rows.{AreToward, GivesStops, wanted_name}
use Rattle.dn_place.specs.Sought.{IsSearchReady, Sought}
use Rattle.dn_place.proofs.Agents.{v_of}

-- a name so many on from another, in its page
next_slot : (w x k : ℕ) → 0 < w → x % w + k < w → (x + k) / w ≡ x / w
next_slot w x k pos small =
    let p = in_page w x pos in
    let from = p.from in
    let rest = p.rest in
    page_is w (x + k) (x / w) pos (omega (arith, from)) (omega (arith, from, rest, small))

-- a name so many before another, in its page: its slot, and where the slot's record sends it
record IsBefore (w x y k : ℕ) : Type 0 where
  slot : (x - k) / w ≡ x / w
  sent : (y / w + ((x - k) / w - x / w)) * w + (x - k) % w ≡ y - k

before_it : (w x y k : ℕ) → 0 < w → x % w ≡ y % w → k ≤ x % w → IsBefore w x y k
before_it w x y k pos agree small =
    let p = in_page w x pos in
    let q = in_page w y pos in
    let from = p.from in
    let to = p.to in
    let rest = p.rest in
    let other = q.rest in
    let own = q.from in
    let same : (x - k) / w ≡ x / w = page_is w (x - k) (x / w) pos (omega (arith, from, rest, small)) (omega (arith, to)) in
    let at : (x - k) / w * w + (x - k) % w ≡ x - k = div-add-mod' (x - k) w in
    let none : (x - k) / w - x / w ≡ 0 = omega (arith, same) in
    let page : (y / w + ((x - k) / w - x / w)) * w ≡ y / w * w = ap (λ n. n * w) (let e : y / w + ((x - k) / w - x / w) ≡ y / w = omega (arith, none) in e) in
    let there : (x - k) / w * w ≡ x / w * w = ap (λ n. n * w) same in
    record { slot = same; sent = omega (arith, page, at, there, agree, rest, other, own, from, small) }

-- no more names than the rest of the page are in it
pub rest_small : (page x w more : ℕ) → w ≡ 2 ^ page → more ≤ w - 1 - x % w → x % 2 ^ page + more < 2 ^ page
rest_small page x w more is l = subst (λ n. x % n + more < n) is (let some : 0 < w = subst (λ n. 0 < n) (sym is) (pow_pos page) in let b : x % w < w = mod-lt x some in omega (arith, l, b, some))

-- what one of the rows gives all of them give
row_given : (rows : List Row) (i : ℕ) (r : Row) (a : ℕ) (z : End) → i < length rows → r ≡ get_or rows i r → GivenBy (r ∷ []) a z → GivenBy rows a z
row_given [] i r a z l e g = absurd (omega arith)
row_given (x ∷ rows) i r a z l e (inr g) = absurd g
row_given (x ∷ rows) zero r a z l e (inl g) = subst (λ (k : Row). GivenBy (k ∷ rows) a z) e (inl g)
row_given (x ∷ rows) (suc i) r a z l e (inl g) = inr (row_given rows i r a z (omega arith) e (inl g))

-- a row of those that give what hops want gives stops, where a hop follows
pub row_stops : (s : Sought) (hops : List Hop) (rows : List Row) (i : ℕ) (r : Row) → 1 ≤ length hops → i < length rows → r ≡ get_or rows i r → AreToward s.net s.request hops s.request.agent rows → GivesStops s.net s.request.agent r
row_stops s [] rows i r some l e f = absurd (omega arith)
row_stops s (hop ∷ hops) rows i r some l e f = λ a z g. f.given a z (low a z g) (row_given rows i r a z l e g)
  where
    low : (a : ℕ) (z : End) → GivenBy (r ∷ []) a z → a ≤ TOP
    low a z (inr g) = absurd g
    low a z (inl g) = let h = hi_of r.span a g.0 in omega (arith, h, r.span.within)

module _ (s : Sought) (ready : IsSearchReady s) (hop : Hop) (u : UnitPart) (node : ℕ) (way : Way) (e : unit_at s.net hop.unit ≡ Some u) (port : slice_get u.ports hop.port ≡ Some node) (agree : hop.x % 2 ^ u.page ≡ hop.y % 2 ^ u.page) (g : IsWayTo s.net s.request.agent (wanted_name s.request (hop ∷ [])) s.request.size way) where
  -- so many addresses on from the buffer's first, past its last
  after : (j : ℕ) (z : End) → s.request.size ≤ j → (hop.x + j) / 2 ^ u.page ≡ (hop.x + (s.request.size - 1)) / 2 ^ u.page → way.v + j ≤ way.last → ResolvesFrom s.net node (hop.y + j) z → NoneUnder s (to_address 1 (hop ∷ []) way.v)
  after j z past slot to res = record { none = λ q under. absurd (go q under) }
    where
      stop : StopsAt s.net (record { node = s.request.agent; addr = way.v + j }) (record { node = hop.unit; addr = hop.x + j })
      stop = subst (λ m. StopsAt s.net (record { node = s.request.agent; addr = way.v + j }) (record { node = hop.unit; addr = m })) (let f : g.base + ((way.v + j) - way.first) ≡ hop.x + j = omega (arith, g.wanted, g.from) in f) (g.stops (way.v + j) (omega (arith, g.from)) to)

      sent : Resolves s.net (record { node = node; addr = (hop.y / 2 ^ u.page + ((hop.x + j) / 2 ^ u.page - hop.x / 2 ^ u.page)) * 2 ^ u.page + (hop.x + j) % 2 ^ u.page }) (name_of_end z)
      sent = subst (λ m. Resolves s.net (record { node = node; addr = m }) (name_of_end z)) (sym (output_of_hop (2 ^ u.page) hop.x hop.y j (pow_pos u.page) agree)) res

      go : (q : Place) → IsUnder s (to_address 1 (hop ∷ []) way.v) q → ⊥
      go q under =
          let w = v_of s (hop ∷ []) q way.v under in
          ready.none_beside q hop u node (s.request.size - 1) (way.v + j) (hop.x + j) (name_of_end z) under.is w.1 e port (omega (arith, ready.some)) slot stop (λ i l f. omega (arith, f, w.0, l, past)) sent

  -- so many addresses before its first
  before : (k : ℕ) (z : End) → 1 ≤ k → k ≤ hop.x % 2 ^ u.page → way.first + k ≤ way.v → ResolvesFrom s.net node (hop.y - k) z → NoneUnder s (to_address 1 (hop ∷ []) way.v)
  before k z some small from res = record { none = λ q under. absurd (go q under) }
    where
      low : k ≤ hop.x
      low = omega (arith, small, mod-le hop.x (2 ^ u.page))

      is : IsBefore (2 ^ u.page) hop.x hop.y k
      is = before_it (2 ^ u.page) hop.x hop.y k (pow_pos u.page) agree small

      slot : (hop.x - k) / 2 ^ u.page ≡ (hop.x + 0) / 2 ^ u.page
      slot = is.slot ∙ ap (λ m. m / 2 ^ u.page) (let f : hop.x ≡ hop.x + 0 = omega arith in f)

      stop : StopsAt s.net (record { node = s.request.agent; addr = way.v - k }) (record { node = hop.unit; addr = hop.x - k })
      stop = subst (λ m. StopsAt s.net (record { node = s.request.agent; addr = way.v - k }) (record { node = hop.unit; addr = m })) (let f : g.base + ((way.v - k) - way.first) ≡ hop.x - k = omega (arith, g.wanted, from, low) in f) (g.stops (way.v - k) (omega (arith, from)) (omega (arith, g.to, ready.some)))

      sent : Resolves s.net (record { node = node; addr = (hop.y / 2 ^ u.page + ((hop.x - k) / 2 ^ u.page - hop.x / 2 ^ u.page)) * 2 ^ u.page + (hop.x - k) % 2 ^ u.page }) (name_of_end z)
      sent = subst (λ m. Resolves s.net (record { node = node; addr = m }) (name_of_end z)) (sym is.sent) res

      go : (q : Place) → IsUnder s (to_address 1 (hop ∷ []) way.v) q → ⊥
      go q under =
          let w = v_of s (hop ∷ []) q way.v under in
          ready.none_beside q hop u node 0 (way.v - k) (hop.x - k) (name_of_end z) under.is w.1 e port (omega (arith, ready.some)) slot stop (λ i l f. omega (arith, f, w.0, some, from)) sent

  -- so where such an address resolves to a name, no placement that is looked for stands there
  pub beside_after : (last more : ℕ) → last ≡ hop.y + (s.request.size - 1) → (hop.x + (s.request.size - 1)) % 2 ^ u.page + more < 2 ^ u.page → way.v + (s.request.size - 1) + more ≤ way.last → ShowsWithin s.net node (last + 1) (last + more) → NoneUnder s (to_address 1 (hop ∷ []) way.v)
  beside_after last more is small to shows =
      after (shows.address - hop.y) shows.name (omega (arith, shows.from, is, ready.some))
      (ap (λ m. m / 2 ^ u.page) (let f : hop.x + (shows.address - hop.y) ≡ (hop.x + (s.request.size - 1)) + (shows.address - last) = omega (arith, shows.from, is) in f) ∙ next_slot (2 ^ u.page) (hop.x + (s.request.size - 1)) (shows.address - last) (pow_pos u.page) (omega (arith, small, shows.from, shows.to)))
      (omega (arith, to, shows.from, shows.to, is))
      (subst (λ m. ResolvesFrom s.net node m shows.name) (let f : shows.address ≡ hop.y + (shows.address - hop.y) = omega (arith, shows.from, is) in f) shows.resolves)

  pub beside_before : (fewer : ℕ) → fewer ≤ hop.x % 2 ^ u.page → way.first + fewer ≤ way.v → ShowsWithin s.net node (hop.y - fewer) (hop.y - 1) → 1 ≤ fewer → NoneUnder s (to_address 1 (hop ∷ []) way.v)
  beside_before fewer small from shows some =
      let low : hop.y % 2 ^ u.page ≤ hop.y = mod-le hop.y (2 ^ u.page) in
      let fits : fewer ≤ hop.y = omega (arith, small, agree, low) in
      before (hop.y - shows.address) shows.name (omega (arith, shows.to, fits, some)) (omega (arith, small, shows.from)) (omega (arith, from, shows.from))
      (subst (λ m. ResolvesFrom s.net node m shows.name) (let f : shows.address ≡ hop.y - (hop.y - shows.address) = omega (arith, shows.to, fits, some) in f) shows.resolves)

-- the agent meets a lone hop of this unit from the address of a way; the hop leads through a port to this node
pub record IsLoneHop (s : Sought) (u : UnitPart) (node : ℕ) (hop : Hop) (way : Way) : Type 0 where
  pub unit : unit_at s.net hop.unit ≡ Some u
  pub port : slice_get u.ports hop.port ≡ Some node
  pub agree : hop.x % 2 ^ u.page ≡ hop.y % 2 ^ u.page
  pub within : hop.x + s.request.size ≤ u.slots * 2 ^ u.page
  pub reached : hop.y + s.request.size ≤ 2 ^ u.reach
  pub leads : IsWayTo s.net s.request.agent (wanted_name s.request (hop ∷ [])) s.request.size way

-- a hop that the agent meets alone
pub lone_hop : (s : Sought) (hop : Hop) (u : UnitPart) (node : ℕ) (way : Way) → unit_at s.net hop.unit ≡ Some u → slice_get u.ports hop.port ≡ Some node → IsAddressed s (hop ∷ []) way.v → IsWayTo s.net s.request.agent (wanted_name s.request (hop ∷ [])) s.request.size way → IsLoneHop s u node hop way
lone_hop s hop u node way e port a leads = subst (λ (k : UnitPart). slice_get k.ports hop.port ≡ Some node → unit_at s.net hop.unit ≡ Some k → IsLoneHop s k node hop way) same (λ f h. record {
  unit = h;
  port = f;
  agree = j.fits.agree;
  within = j.fits.within;
  reached = j.fits.reached;
  leads = leads;
}) port e
  where
    j : Joins s.net s.slots s.request hop []
    j = a.chosen.leads.0

    same : j.unit ≡ u
    same = same_Some j.unit u (sym j.is_unit ∙ e)
