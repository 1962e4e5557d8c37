-- Pieces in a unit of which a search knows the windows, the free slots and the outputs: where no hops serve them.
use Rattle.std.proofs.Common.{◌≡◌, ◌∙◌, ℕ, zero, suc, ◌+◌, ◌-◌, ◌%◌, ◌^◌, ◌<◌, ◌≤◌, ◌⊎◌, inl, inr, List, [], ◌∷◌, ◌++◌, length, take, get_or, Some, None, refl, sym, ap, subst, arith, true, IsTrue}
use Rattle.std.specs.List.{Contains}
use Rattle.std.proofs.lemmas.Bool.{cases_lt, cases_order}
use Rattle.std.proofs.lemmas.Option.{slice_get_past}
use Rattle.dn_base.proofs.Lists.{nil_from_length}
use Rattle.dn_interval.specs.declared.row.End.{End}
use Rattle.dn_interval.specs.declared.row.Row.{Row}
use Rattle.dn_interval.specs.Rows.{GivenBy}
use Rattle.dn_interval.specs.Spans.{in_span}
use Rattle.dn_interval.proofs.Membership.{in_from}
use Rattle.dn_net.specs.declared.node.NodeDecl.{NodeDecl}
use Rattle.dn_net.specs.declared.node.Unit.{Unit as UnitPart}
use Rattle.dn_net.specs.Decode.{unit_at, unit_of}
use Rattle.dn_kind.specs.declared.rights.Rights.{Rights}
use Rattle.dn_kind.specs.Kind.{Meaning}
use Rattle.dn_kind.specs.Kinded.{kinds_of}
use Rattle.dn_tables.specs.declared.placement.Hop.{Hop}
use Rattle.dn_place.specs.declared.exits.Exit.{Exit}
use Rattle.dn_place.specs.Exits.{AreExits, has_exit}
use Rattle.dn_place.specs.Rows.{InRow}
use Rattle.dn_place.proofs.Pages.{input_bound}
use Rattle.dn_view.proofs.Ways.{one_stop}
use Rattle.dn_gather.specs.declared.ground.Ground.{Ground}
use Rattle.dn_gather.specs.declared.piece.Piece.{Piece}
use Rattle.dn_gather.specs.declared.scatter.Scatter.{Scatter}
use Rattle.dn_gather.specs.declared.wanted.Wanted.{Wanted}
use Rattle.dn_gather.specs.Firsts.{AreSuitedHops, IsSuitedHop}
use Rattle.dn_gather.specs.Grounds.{AreExitsOfPieces, AreExitsOn, CanStandOn, FirstFor, IsFoundFirst, IsFoundFrom, IsGround, IsWanted, NoneFor, StandsOn, request_for, total, wanted_slots}
use Rattle.dn_gather.specs.Outputs.{AreRanked, NoneAgree}
use Rattle.dn_gather.specs.Scattered.{piece_request}
use Rattle.dn_gather.specs.Stands.{AreAt, AreWindows, inputs}
use Rattle.dn_gather.proofs.Choosing.{have_sizes, hop_inputs, joins_of, suited_at, suited_item, suited_stands}
use Rattle.dn_gather.proofs.Entering.{entered_given, entered_row, one_input}
use Rattle.dn_gather.proofs.Grounded.{known}
use Rattle.dn_gather.proofs.Ranked.{exits_ranked}
use Rattle.dn_gather.proofs.Searching.{agrees_none, first_base, row_inputs, row_leads}
use Rattle.dn_gather.proofs.Standing.{IsItem, exits_at, exits_count, item_at, item_there}

-- one of the pieces can stand
pub record ItemStands {K : Type 0} {V : K → Type 0} (g : Ground K V) (p : Piece) (a : ℕ) : Type 0 where
  pub x : ℕ
  pub can : CanStandOn g p a x

-- where a hop serves one of the pieces, it can stand
pub hop_stands : {K : Type 0} {V : K → Type 0} (means : (k : K) × V k → Meaning) (g : Ground K V) (is : IsGround means g) (i a : ℕ) (d : Piece) (hop : Hop) → i < length g.wanted.pieces.now → IsSuitedHop g.wanted.system.on.net.now (wanted_slots means g.wanted) (request_for g.wanted (get_or g.wanted.pieces.now i d)) g.unit a hop → CanStandOn g (get_or g.wanted.pieces.now i d) a hop.x
hop_stands means g is i a d hop l s =
    let k = known means g.wanted is.wanted in
    suited_stands g.wanted.system.on.net.now (kinds_of means g.wanted.system.on.kinds.now) g.wanted.tables.now g.translator.now g.wanted.agent g.unit g.wanted.rights (get_or g.wanted.pieces.now i d) a hop k.legal k.held k.empty is.wanted.rights is.wanted.agent (is.wanted.pieces.each i d l).buffer is.is_unit s

-- so can each of them where hops serve all
pub item_stands : {K : Type 0} {V : K → Type 0} (means : (k : K) × V k → Meaning) (g : Ground K V) (is : IsGround means g) (v i : ℕ) (d : Piece) (hops : List Hop) → i < length g.wanted.pieces.now → AreSuitedHops g.wanted.system.on.net.now (wanted_slots means g.wanted) g.wanted.agent g.wanted.rights g.unit v g.wanted.pieces.now hops → ItemStands g (get_or g.wanted.pieces.now i d) (v + total (take i g.wanted.pieces.now))
item_stands means g is v i d hops l s =
    let r = suited_item g.wanted.system.on.net.now (wanted_slots means g.wanted) g.wanted.agent g.wanted.rights g.unit v g.wanted.pieces.now hops i d s l in
    record { x = r.hop.x; can = hop_stands means g is i (v + total (take i g.wanted.pieces.now)) d r.hop l r.suited }

-- none where no hop serves one of them
pub none_of_hop : {K : Type 0} {V : K → Type 0} (means : (k : K) × V k → Meaning) (w : Wanted K V) (unit v i a : ℕ) (p : Piece) → IsItem w.pieces.now i p → a ≡ v + total (take i w.pieces.now) → ((hop : Hop) → IsSuitedHop w.system.on.net.now (wanted_slots means w) (request_for w p) unit a hop → ⊥) → NoneFor means w unit v
none_of_hop means w unit v i a p item at none = λ hops s.
    let r = suited_item w.system.on.net.now (wanted_slots means w) w.agent w.rights unit v w.pieces.now hops i p s (item_there w.pieces.now i p item) in
    none r.hop (subst (λ (q : Piece). IsSuitedHop w.system.on.net.now (wanted_slots means w) (request_for w q) unit a r.hop) (item_at w.pieces.now i p p item) (subst (λ (n : ℕ). IsSuitedHop w.system.on.net.now (wanted_slots means w) (request_for w (get_or w.pieces.now i p)) unit n r.hop) (sym at) r.suited))

-- none where they cannot stand at any inputs
pub none_standing : {K : Type 0} {V : K → Type 0} (means : (k : K) × V k → Meaning) (g : Ground K V) (is : IsGround means g) (v : ℕ) → ((xs : List ℕ) → AreAt (CanStandOn g) g.translator.now.page v g.wanted.pieces.now xs → ⊥) → NoneFor means g.wanted g.unit v
none_standing means g is v none = λ hops s.
    let k = known means g.wanted is.wanted in
    none (hop_inputs hops) (suited_at g.wanted.system.on.net.now (kinds_of means g.wanted.system.on.kinds.now) g.wanted.tables.now g.translator.now g.wanted.agent g.unit g.wanted.rights g.wanted.pieces.now v hops k.legal k.held k.empty is.wanted.rights is.wanted.agent is.is_unit (have_sizes g.wanted.pieces.now is.wanted.pieces.each) s)

-- a piece stands at one input
pub stands_once : {K : Type 0} {V : K → Type 0} (means : (k : K) × V k → Meaning) (g : Ground K V) (is : IsGround means g) (p : Piece) (a x z : ℕ) → StandsOn g p a x → CanStandOn g p a z → x ≡ z
stands_once means g is p a x z s c = one_input g.wanted.system.on.net.now g.wanted.agent g.unit a p.size p.size x z (one_stop g.wanted.system.on.net.now (known means g.wanted is.wanted).legal) s.some s.some s.enters c.stands.enters

-- the inputs of a piece that stands are few
pub stands_few : {K : Type 0} {V : K → Type 0} (means : (k : K) × V k → Meaning) (g : Ground K V) (is : IsGround means g) (p : Piece) (a x : ℕ) → StandsOn g p a x → (1 ≤ p.size) × (x + p.size ≤ 2 ^ 60)
stands_few means g is p a x s = (s.some, omega (arith, s.within, input_bound g.translator.now.slots g.translator.now.page is.bounds.page is.bounds.few))

-- the first of the pieces

no_piece : Piece
no_piece = record { id = 0; node = 0; base = 0; size = 0 }

record FirstStands {K : Type 0} {V : K → Type 0} (means : (k : K) × V k → Meaning) (g : Ground K V) (v : ℕ) : Type 0 where
  x : ℕ
  can : CanStandOn g (get_or g.wanted.pieces.now 0 no_piece) v x

first_stands : {K : Type 0} {V : K → Type 0} (means : (k : K) × V k → Meaning) (g : Ground K V) (is : IsGround means g) (v : ℕ) (hops : List Hop) → AreSuitedHops g.wanted.system.on.net.now (wanted_slots means g.wanted) g.wanted.agent g.wanted.rights g.unit v g.wanted.pieces.now hops → FirstStands means g v
first_stands means g is v hops s =
    let r = item_stands means g is v 0 no_piece hops (let f = is.wanted.pieces.some in omega (arith, f)) s in
    record { x = r.x; can = subst (λ (n : ℕ). CanStandOn g (get_or g.wanted.pieces.now 0 no_piece) n r.x) (none v) r.can }
  where
    none : (v : ℕ) → v + 0 ≡ v
    none v = omega arith

-- the row of the windows that has an address leads it to the input of the first piece
led_there : {K : Type 0} {V : K → Type 0} (means : (k : K) × V k → Meaning) (g : Ground K V) (is : IsGround means g) (r : Row) (v : ℕ) → Contains g.windows.now r → IsTrue (in_span r.span v) → (f : FirstStands means g v) → InRow r (record { node = g.unit; base = f.x }) (get_or g.wanted.pieces.now 0 no_piece).size v
led_there means g is r v c at f =
    let s = f.can.stands in
    entered_row g.wanted.system.on.net.now g.wanted.agent g.unit (inputs g.translator.now) v (get_or g.wanted.pieces.now 0 no_piece).size f.x g.windows.now r (one_stop g.wanted.system.on.net.now (known means g.wanted is.wanted).legal) is.windows c at s.some s.fits s.within s.enters

-- an address that no window has
pub none_unentered : {K : Type 0} {V : K → Type 0} (means : (k : K) × V k → Meaning) (g : Ground K V) (is : IsGround means g) (v : ℕ) → ((z : End) → GivenBy g.windows.now v z → ⊥) → NoneFor means g.wanted g.unit v
none_unentered means g is v none = λ hops s.
    let f = first_stands means g is v hops s in
    let t = f.can.stands in
    none (record { node = g.unit; base = f.x }) (entered_given g.wanted.system.on.net.now g.wanted.agent g.unit (inputs g.translator.now) v (get_or g.wanted.pieces.now 0 no_piece).size f.x g.windows.now is.windows t.some t.fits t.within t.enters)

-- an address of a window that does not lead to the unit
pub none_unled : {K : Type 0} {V : K → Type 0} (means : (k : K) × V k → Meaning) (g : Ground K V) (is : IsGround means g) (r : Row) (v : ℕ) → Contains g.windows.now r → IsTrue (in_span r.span v) → ((x : ℕ) → InRow r (record { node = g.unit; base = x }) 1 r.span.lo → ⊥) → NoneFor means g.wanted g.unit v
none_unled means g is r v c at none = λ hops s.
    let f = first_stands means g is v hops s in
    none (first_base r.ends) (row_leads r g.unit f.x (get_or g.wanted.pieces.now 0 no_piece).size v (led_there means g is r v c at f))

-- an address of a window with whose input no output of the first piece agrees
pub none_agreeing : {K : Type 0} {V : K → Type 0} (means : (k : K) × V k → Meaning) (g : Ground K V) (is : IsGround means g) (r : Row) (base v : ℕ) (e : List Exit) → Contains g.windows.now r → IsTrue (in_span r.span v) → InRow r (record { node = g.unit; base = base }) 1 r.span.lo → NoneAgree g.translator.now.page ((base + (v - r.span.lo)) % 2 ^ g.translator.now.page) (get_or g.exits.now 0 e) → NoneFor means g.wanted g.unit v
none_agreeing means g is r base v e c at led none = λ hops s.
    let f = first_stands means g is v hops s in
    let same : f.x ≡ base + (v - r.span.lo) = row_inputs r g.unit base r.span.lo f.x (get_or g.wanted.pieces.now 0 no_piece).size v led refl (led_there means g is r v c at f) in
    let outs : AreExitsOn g (get_or g.wanted.pieces.now 0 no_piece) (get_or g.exits.now 0 e) = exits_at g.wanted.system.on.net.now g.translator.now g.wanted.agent g.wanted.rights g.wanted.pieces.now g.exits.now 0 no_piece e is.exits (let l = is.wanted.pieces.some in omega (arith, l)) in
    agrees_none g.translator.now.page ((base + (v - r.span.lo)) % 2 ^ g.translator.now.page) f.can.port f.can.y (get_or g.exits.now 0 e) none (outs.all f.can.port f.can.y f.can.gives f.can.lone) (sym f.can.agree ∙ ap (λ n. n % 2 ^ g.translator.now.page) same)

-- addresses of a window from one on, up to that of the next input that may agree
pub none_skipped : {K : Type 0} {V : K → Type 0} (means : (k : K) × V k → Meaning) (g : Ground K V) (is : IsGround means g) (r : Row) (base v next : ℕ) (e : List Exit) → Contains g.windows.now r → InRow r (record { node = g.unit; base = base }) 1 r.span.lo → r.span.lo ≤ v → ((w : ℕ) → r.span.lo ≤ w → w < v → NoneFor means g.wanted g.unit w) → ((z : ℕ) → base + (v - r.span.lo) ≤ z → z < next → NoneAgree g.translator.now.page (z % 2 ^ g.translator.now.page) (get_or g.exits.now 0 e)) → (w : ℕ) → r.span.lo ≤ w → w ≤ r.span.hi → w < v + (next - (base + (v - r.span.lo))) → NoneFor means g.wanted g.unit w
none_skipped means g is r base v next e c led low before none w from to less = by (cases_lt w v)
  where
    by : (w < v) ⊎ (v ≤ w) → NoneFor means g.wanted g.unit w
    by (inl l) = before w from l
    by (inr l) = none_agreeing means g is r base w e c (in_from r.span w from to) led (none (base + (w - r.span.lo)) (omega (arith, l, low)) (omega (arith, l, low, less)))

-- and that address itself
pub none_tried : {K : Type 0} {V : K → Type 0} (means : (k : K) × V k → Meaning) (g : Ground K V) (r : Row) (v : ℕ) → v ≤ r.span.hi → ((w : ℕ) → r.span.lo ≤ w → w ≤ r.span.hi → w < v → NoneFor means g.wanted g.unit w) → NoneFor means g.wanted g.unit v → (w : ℕ) → r.span.lo ≤ w → w < v + 1 → NoneFor means g.wanted g.unit w
none_tried means g r v top before here w from less = by (cases_order w v)
  where
    by : (w ≡ v) ⊎ ((w < v) ⊎ (v < w)) → NoneFor means g.wanted g.unit w
    by (inl e) = subst (λ (n : ℕ). NoneFor means g.wanted g.unit n) (sym e) here
    by (inr (inl l)) = before w from (omega (arith, l, top)) l
    by (inr (inr l)) = absurd (omega (arith, l, less))

-- a node that is no unit
pub none_in_node : {K : Type 0} {V : K → Type 0} (means : (k : K) × V k → Meaning) (w : Wanted K V) → IsWanted means w → (unit v : ℕ) → unit_at w.system.on.net.now unit ≡ None → NoneFor means w unit v
none_in_node means w is unit v none = λ hops s.
    let r = suited_item w.system.on.net.now (wanted_slots means w) w.agent w.rights unit v w.pieces.now hops 0 no_piece s (let l = is.pieces.some in omega (arith, l)) in
    let j = joins_of w.system.on.net.now (wanted_slots means w) (request_for w (get_or w.pieces.now 0 no_piece)) (v + total (take 0 w.pieces.now)) r.hop r.suited.placed in
    never j.unit (sym none ∙ sym (ap (unit_at w.system.on.net.now) r.suited.in_unit) ∙ j.is_unit)
  where
    never : (u : UnitPart) → None ≡ Some u → ⊥
    never u e = cc

-- a number that no node has
pub no_unit_past : (net : List NodeDecl) (unit : ℕ) → length net ≤ unit → unit_at net unit ≡ None
no_unit_past net unit l = ap unit_of (slice_get_past net unit l)

-- the outputs of one more piece
pub exits_more : (net : List NodeDecl) (u : UnitPart) (agent : ℕ) (rights : Rights) (ps : List Piece) (i : ℕ) (d : Piece) (all : List (List Exit)) (es : List Exit) → i < length ps → AreExitsOfPieces net u agent rights (take i ps) all → AreExits net u (piece_request agent rights (get_or ps i d)) es → AreExitsOfPieces net u agent rights (take (i + 1) ps) (all ++ es ∷ [])
exits_more net u agent rights ps i d all es l are here = subst (λ (n : ℕ). AreExitsOfPieces net u agent rights (take n ps) (all ++ es ∷ [])) (next i) (more ps i all l are here)
  where
    next : (i : ℕ) → suc i ≡ i + 1
    next i = omega arith

    more : (ps : List Piece) (i : ℕ) (all : List (List Exit)) → i < length ps → AreExitsOfPieces net u agent rights (take i ps) all → AreExits net u (piece_request agent rights (get_or ps i d)) es → AreExitsOfPieces net u agent rights (take (suc i) ps) (all ++ es ∷ [])
    more [] i all l are here = absurd (omega arith)
    more (p ∷ ps) zero [] l are here = (here, tt)
    more (p ∷ ps) zero (a ∷ all) l are here = absurd are
    more (p ∷ ps) (suc i) [] l are here = absurd are
    more (p ∷ ps) (suc i) (a ∷ all) l are here = (are.0, more ps i all (omega arith) are.1 here)

-- what is found from an address on is so from 0, where nothing serves before
pub found_from : {K : Type 0} {V : K → Type 0} (means : (k : K) × V k → Meaning) (w : Wanted K V) (unit from : ℕ) (s : Scatter) → IsFoundFrom means w unit from s → ((v : ℕ) → v < from → NoneFor means w unit v) → IsFoundFrom means w unit 0 s
found_from means w unit from s f before = record { in_unit = f.in_unit; past = omega arith; hops = f.hops; lesser = λ v l m. by v m (cases_lt v from) }
  where
    by : (v : ℕ) → v < s.v → (v < from) ⊎ (from ≤ v) → NoneFor means w unit v
    by v m (inl l) = before v l
    by v m (inr l) = f.lesser v l m

-- and it is the first of all, where nothing serves in a lesser unit
pub found_first : {K : Type 0} {V : K → Type 0} (means : (k : K) × V k → Meaning) (w : Wanted K V) (unit : ℕ) (s : Scatter) → IsFoundFrom means w unit 0 s → ((k v : ℕ) → k < unit → NoneFor means w k v) → IsFoundFirst means w s
found_first means w unit s f before = record {
  hops = subst (λ (n : ℕ). FirstFor means w n s.v s.hops) (sym f.in_unit) f.hops;
  lesser = λ v l. subst (λ (n : ℕ). NoneFor means w n v) (sym f.in_unit) (f.lesser v (omega arith) l);
  others = λ k v l. before k v (let e = f.in_unit in omega (arith, l, e));
}

-- one unit more in which nothing serves
pub none_more : {K : Type 0} {V : K → Type 0} (means : (k : K) × V k → Meaning) (w : Wanted K V) (unit : ℕ) → ((k v : ℕ) → k < unit → NoneFor means w k v) → ((v : ℕ) → NoneFor means w unit v) → (k v : ℕ) → k < unit + 1 → NoneFor means w k v
none_more means w unit before here k v l = by (cases_order k unit)
  where
    by : (k ≡ unit) ⊎ ((k < unit) ⊎ (unit < k)) → NoneFor means w k v
    by (inl e) = subst (λ (n : ℕ). NoneFor means w n v) (sym e) (here v)
    by (inr (inl m)) = before k v m
    by (inr (inr m)) = absurd (omega (arith, l, m))

-- and none in all
pub none_in_all : {K : Type 0} {V : K → Type 0} (means : (k : K) × V k → Meaning) (w : Wanted K V) → IsWanted means w → (unit : ℕ) → length w.system.on.net.now ≤ unit → ((k v : ℕ) → k < unit → NoneFor means w k v) → (k v : ℕ) → NoneFor means w k v
none_in_all means w is unit all before k v = by (cases_lt k unit)
  where
    by : (k < unit) ⊎ (unit ≤ k) → NoneFor means w k v
    by (inl l) = before k v l
    by (inr l) = none_in_node means w is k v (no_unit_past w.system.on.net.now k (omega (arith, l, all)))

-- the outputs of the first piece
pub first_exits : {K : Type 0} {V : K → Type 0} (means : (k : K) × V k → Meaning) (g : Ground K V) → IsGround means g → (e : List Exit) → AreRanked g.translator.now.page (get_or g.exits.now 0 e)
first_exits means g is e =
    let l = is.wanted.pieces.some in
    let outs = exits_at g.wanted.system.on.net.now g.translator.now g.wanted.agent g.wanted.rights g.wanted.pieces.now g.exits.now 0 no_piece e is.exits (omega (arith, l)) in
    exits_ranked g.wanted.system.on.net.now g.translator.now (request_for g.wanted (get_or g.wanted.pieces.now 0 no_piece)) (get_or g.exits.now 0 e) (is.wanted.pieces.each 0 no_piece (omega (arith, l))).some is.bounds outs

-- none in a unit that the agent does not enter
pub none_unwindowed : {K : Type 0} {V : K → Type 0} (means : (k : K) × V k → Meaning) (w : Wanted K V) → IsWanted means w → (u : UnitPart) (unit : ℕ) (rows : List Row) → unit_at w.system.on.net.now unit ≡ Some u → length rows ≡ 0 → AreWindows w.system.on.net.now w.agent unit (inputs u) rows → (v : ℕ) → NoneFor means w unit v
none_unwindowed means w is u unit rows is_unit none are v = λ hops s. out hops s (subst (λ (rs : List Row). AreWindows w.system.on.net.now w.agent unit (inputs u) rs) (nil_from_length rows none) are)
  where
    out : (hops : List Hop) → AreSuitedHops w.system.on.net.now (wanted_slots means w) w.agent w.rights unit v w.pieces.now hops → AreWindows w.system.on.net.now w.agent unit (inputs u) [] → ⊥
    out hops s are =
        let k = known means w is in
        let l : 0 < length w.pieces.now = (let n = is.pieces.some in omega (arith, n)) in
        let r = suited_item w.system.on.net.now (wanted_slots means w) w.agent w.rights unit v w.pieces.now hops 0 no_piece s l in
        let t = (suited_stands w.system.on.net.now (kinds_of means w.system.on.kinds.now) w.tables.now u w.agent unit w.rights (get_or w.pieces.now 0 no_piece) (v + total (take 0 w.pieces.now)) r.hop k.legal k.held k.empty is.rights is.agent (is.pieces.each 0 no_piece l).buffer is_unit r.suited).stands in
        entered_given w.system.on.net.now w.agent unit (inputs u) (v + total (take 0 w.pieces.now)) (get_or w.pieces.now 0 no_piece).size r.hop.x [] are t.some t.fits t.within t.enters

-- none in a unit of which no output gives one of the pieces
pub none_unserved : {K : Type 0} {V : K → Type 0} (means : (k : K) × V k → Meaning) (w : Wanted K V) → IsWanted means w → (u : UnitPart) (unit : ℕ) (exits : List (List Exit)) → unit_at w.system.on.net.now unit ≡ Some u → AreExitsOfPieces w.system.on.net.now u w.agent w.rights w.pieces.now exits → Contains exits [] → (v : ℕ) → NoneFor means w unit v
none_unserved means w is u unit exits is_unit are (i, l, empty) v = λ hops s.
    let net = w.system.on.net.now in
    let k = known means w is in
    let there : i < length w.pieces.now = (let n = exits_count net u w.agent w.rights w.pieces.now exits are in omega (arith, n, l)) in
    let p = get_or w.pieces.now i no_piece in
    let r = suited_item net (wanted_slots means w) w.agent w.rights unit v w.pieces.now hops i no_piece s there in
    let t = suited_stands net (kinds_of means w.system.on.kinds.now) w.tables.now u w.agent unit w.rights p (v + total (take i w.pieces.now)) r.hop k.legal k.held k.empty is.rights is.agent (is.pieces.each i no_piece there).buffer is_unit r.suited in
    let outs = exits_at net u w.agent w.rights w.pieces.now exits i no_piece [] are there in
    never t.port t.y (get_or exits i []) empty (outs.all t.port t.y t.gives t.lone)
  where
    never : (port y : ℕ) (es : List Exit) → es ≡ [] → has_exit port y es ≡ true → ⊥
    never port y [] e h = cc
    never port y (x ∷ es) e h = cc
