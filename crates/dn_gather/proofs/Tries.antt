-- The outputs of a piece tried in turn at its input, in a unit of which a search knows the outputs.
use Rattle.std.proofs.Common.{◌≡◌, ℕ, ◌+◌, ◌%◌, ◌^◌, ◌≤◌, false, List, length, Some, slice_get, sym, subst}
use Rattle.dn_kind.specs.Kind.{Meaning}
use Rattle.dn_kind.specs.Kinded.{kinds_of}
use Rattle.dn_tables.specs.declared.placement.Hop.{Hop}
use Rattle.dn_placement.specs.Placement.{IsPlacement}
use Rattle.dn_place.specs.declared.exits.Exit.{Exit}
use Rattle.dn_view.proofs.Ways.{one_stop}
use Rattle.dn_gather.specs.declared.ground.Ground.{Ground}
use Rattle.dn_gather.specs.declared.piece.Piece.{Piece}
use Rattle.dn_gather.specs.Firsts.{IsFirstHop, IsSuitedHop}
use Rattle.dn_gather.specs.Grounds.{AreExitsOn, CanStandOn, IsGround, IsSized, StandsOn, request_for, wanted_slots}
use Rattle.dn_gather.specs.Outputs.{AgreeFrom, agrees_at}
use Rattle.dn_gather.specs.Scattered.{at_hop}
use Rattle.dn_gather.specs.Stands.{Enters}
use Rattle.dn_gather.proofs.Entering.{one_input}
use Rattle.dn_gather.proofs.Grounded.{known}
use Rattle.dn_gather.proofs.Trying.{Tried, agrees_placed, tried_begun, tried_done, tried_found, tried_on}

-- the hop of an output at an input
abbrev pub hop_by : {K : Type 0} {V : K → Type 0} → Ground K V → ℕ → Exit → Hop
hop_by g x e = record { unit = g.unit; port = e.port; x = x; y = e.y }

-- the hop serves the piece
abbrev pub Serves : {K : Type 0} {V : K → Type 0} → ((k : K) × V k → Meaning) → Ground K V → Piece → ℕ → Hop → Type 0
Serves means g p a hop = IsSuitedHop g.wanted.system.on.net.now (wanted_slots means g.wanted) (request_for g.wanted p) g.unit a hop

-- how far the outputs are tried
abbrev pub TriedOn : {K : Type 0} {V : K → Type 0} → ((k : K) × V k → Meaning) → Ground K V → Piece → ℕ → ℕ → List Exit → ℕ → ℕ → Type 0
TriedOn means g p a x exits from k = Tried g.wanted.system.on.net.now (wanted_slots means g.wanted) (request_for g.wanted p) g.unit a x exits from k

module _ {K : Type 0} {V : K → Type 0} (means : (k : K) × V k → Meaning) (g : Ground K V) (is : IsGround means g) (p : Piece) (a x : ℕ) (exits : List Exit) (sized : IsSized p) (outs : AreExitsOn g p exits) (stands : StandsOn g p a x) where
  pub tries_begun : (from : ℕ) → AgreeFrom g.translator.now.page (x % 2 ^ g.translator.now.page) exits from → from ≤ length exits → TriedOn means g p a x exits from from
  tries_begun from agree within =
      let k = known means g.wanted is.wanted in
      tried_begun g.wanted.system.on.net.now (kinds_of means g.wanted.system.on.kinds.now) g.wanted.tables.now g.translator.now g.wanted.agent g.unit g.wanted.rights p a x exits k.legal k.held k.empty is.wanted.rights is.wanted.agent is.is_unit is.bounds sized outs stands from agree within

  pub tries_on : (from k : ℕ) (e : Exit) → slice_get exits k ≡ Some e → (Serves means g p a (hop_by g x e) → ⊥) → TriedOn means g p a x exits from k → TriedOn means g p a x exits from (k + 1)
  tries_on from j e at not t =
      let k = known means g.wanted is.wanted in
      tried_on g.wanted.system.on.net.now (kinds_of means g.wanted.system.on.kinds.now) g.wanted.tables.now g.translator.now g.wanted.agent g.unit g.wanted.rights p a x exits k.legal k.held k.empty is.wanted.rights is.wanted.agent is.is_unit is.bounds sized outs stands from j e at not t

  pub tries_found : (from k : ℕ) (e : Exit) → slice_get exits k ≡ Some e → e.y % 2 ^ g.translator.now.page ≡ x % 2 ^ g.translator.now.page → Serves means g p a (hop_by g x e) → TriedOn means g p a x exits from k → IsFirstHop g.wanted.system.on.net.now (wanted_slots means g.wanted) (request_for g.wanted p) g.unit a (hop_by g x e)
  tries_found from j e at agree s t =
      let k = known means g.wanted is.wanted in
      tried_found g.wanted.system.on.net.now (kinds_of means g.wanted.system.on.kinds.now) g.wanted.tables.now g.translator.now g.wanted.agent g.unit g.wanted.rights p a x exits k.legal k.held k.empty is.wanted.rights is.wanted.agent is.is_unit is.bounds sized outs stands from j e at agree s t

  pub tries_done : (from k : ℕ) → AgreeFrom g.translator.now.page (x % 2 ^ g.translator.now.page) exits from → agrees_at g.translator.now.page (x % 2 ^ g.translator.now.page) (slice_get exits k) ≡ false → TriedOn means g p a x exits from k → (hop : Hop) → Serves means g p a hop → ⊥
  tries_done from j agree ends t =
      let k = known means g.wanted is.wanted in
      tried_done g.wanted.system.on.net.now (kinds_of means g.wanted.system.on.kinds.now) g.wanted.tables.now g.translator.now g.wanted.agent g.unit g.wanted.rights p a x exits k.legal k.held k.empty is.wanted.rights is.wanted.agent is.is_unit is.bounds sized outs stands from j agree ends t

  pub tries_placed : (k : ℕ) (e : Exit) → slice_get exits k ≡ Some e → e.y % 2 ^ g.translator.now.page ≡ x % 2 ^ g.translator.now.page → IsPlacement g.wanted.system.on.net.now (wanted_slots means g.wanted) (request_for g.wanted p) (at_hop a (hop_by g x e))
  tries_placed j e at agree =
      let k = known means g.wanted is.wanted in
      agrees_placed g.wanted.system.on.net.now (kinds_of means g.wanted.system.on.kinds.now) g.wanted.tables.now g.translator.now g.wanted.agent g.unit g.wanted.rights p a x exits k.legal k.held k.empty is.wanted.rights is.wanted.agent is.is_unit is.bounds sized outs stands j e at agree

-- a piece that can stand does so at the input that its address has
pub can_here : {K : Type 0} {V : K → Type 0} (means : (k : K) × V k → Meaning) (g : Ground K V) (is : IsGround means g) (p : Piece) (a x z : ℕ) → IsSized p → Enters g.wanted.system.on.net.now g.wanted.agent a p.size g.unit x → CanStandOn g p a z → CanStandOn g p a x
can_here means g is p a x z sized enters c = subst (λ (n : ℕ). CanStandOn g p a n) (sym (one_input g.wanted.system.on.net.now g.wanted.agent g.unit a p.size p.size x z (one_stop g.wanted.system.on.net.now (known means g.wanted is.wanted).legal) sized.some sized.some enters c.stands.enters)) c
