-- Rows whose bounds and names are on the edges of blocks send whole blocks.
use Rattle.std.proofs.Common.{◌≡◌, ℕ, suc, ◌+◌, ◌-◌, ◌*◌, ◌/◌, ◌%◌, ◌^◌, ◌<◌, ◌≤◌, ◌⊎◌, inl, inr, ◌==◌, Bool, true, false, ◌&&◌, ◌||◌, nat_eq, List, [], ◌∷◌, length, drop, get_or, add-one, Some, refl, sym, ap, ◌∙◌, subst, arith, pow_pos, mod-lt, eq-eqb, eqb-true}
use Rattle.std.specs.Int.Bits.{bit_or}
use Rattle.std.specs.List.{list_all}
use Rattle.std.proofs.Math.ListN.{drop_of_length-le}
use Rattle.std.proofs.Math.Nat.{add-mul, div-add-mod', div-lt_iff_lt-mul, le-div_iff_mul-le, mod-one, mul-le-mul_right}
use Rattle.std.proofs.Math.Seq.{drop-cons}
use Rattle.std.proofs.lemmas.Bool.{and_from, and_parts, or_left}
use Rattle.std.proofs.lemmas.Nat.{le_or_l, le_or_r, or_mod}
use Rattle.dn_base.proofs.Members.{any_member, member_any}
use Rattle.dn_interval.specs.declared.row.End.{End}
use Rattle.dn_interval.specs.declared.row.Row.{Row}
use Rattle.dn_interval.specs.declared.row.Seg.{Seg}
use Rattle.dn_interval.specs.declared.span.Span.{Span}
use Rattle.dn_interval.specs.Spans.{in_span}
use Rattle.dn_interval.specs.Strands.{ends_give, row_gives, rows_give, seg_gives, segs_give}
use Rattle.dn_interval.proofs.Membership.{hi_of, in_from, lo_of}
use Rattle.dn_net.specs.declared.node.NodeDecl.{NodeDecl}
use Rattle.dn_net.specs.declared.node.Unit.{Unit as UnitPart}
use Rattle.dn_net.specs.Chain.{Member}
use Rattle.dn_net.specs.Decode.{unit_at}
use Rattle.dn_walk.specs.Ends.{name_of_end}
use Rattle.dn_flat.specs.declared.levels.Levels.{Levels}
use Rattle.dn_flat.specs.Levels.{AreFlats, FlatsView, IsLevels, levels_give, shows}
use Rattle.dn_flat.specs.Views.{StopsFrom}
use Rattle.dn_flat.proofs.Shown.{nodes_reach_their_names}
use Rattle.dn_view.proofs.Exposed.{stop_low}
use Rattle.dn_view.proofs.Pages.{page_is, pages_between}
use Rattle.dn_place.specs.Blocks.{HasBeside, HasBlocks, SendsBlocks, ShowsWithin, Tells, end_fits, is_whole, layers_fit, moved_in_block, row_fits, rows_fit}

-- What divides a number that has the bits of two divides both.

pub or_whole : (a b block : ℕ) → bit_or a b % 2 ^ block ≡ 0 → (a % 2 ^ block ≡ 0) × (b % 2 ^ block ≡ 0)
or_whole a b block e =
    let none : bit_or (a % 2 ^ block) (b % 2 ^ block) ≡ 0 = sym (or_mod a b block) ∙ e in
    let l = le_or_l (a % 2 ^ block) (b % 2 ^ block) in
    let r = le_or_r (a % 2 ^ block) (b % 2 ^ block) in
    (omega (arith, none, l), omega (arith, none, r))

-- What is told of each item of a list.

module _ {X : Type 0} (p : ℕ → X → Bool) (xs : List X) where
  -- of those before the place
  abbrev pub Left : ℕ → ℕ → ℕ → Type 0
  Left i now was = Tells now was (λ block. list_all (p block) (drop i xs) ≡ true → list_all (p block) xs ≡ true)

  pub left_first : (n : ℕ) → Left 0 n n
  left_first n block e = (e, (λ a. a))

  pub left_next : (i : ℕ) (d : X) (now next was : ℕ) → i < length xs → Tells next now (λ block. p block (get_or xs i d) ≡ true) → Left i now was → Left (i + 1) next was
  left_next i d now next was less t l block e =
      let a = t block e in
      let b = l block a.0 in
      (b.0, (λ rest. b.1 (subst (λ ys. list_all (p block) ys ≡ true) (sym (drop-cons xs i d less)) (and_from (p block (get_or xs i d)) (list_all (p block) (drop (suc i) xs)) a.1 (subst (λ n. list_all (p block) (drop n xs) ≡ true) (add-one i) rest)))))

  pub left_none : (i now was : ℕ) → length xs ≤ i → Left i now was → Tells now was (λ block. list_all (p block) xs ≡ true)
  left_none i now was over l block e =
      let b = l block e in
      (b.0, b.1 (subst (λ ys. list_all (p block) ys ≡ true) (sym (drop_of_length-le xs over)) refl))

-- A row, by its bounds and then its names.

pub row_told : (r : Row) (span : Span) (ends : List End) (bits all : ℕ) → span ≡ r.span → ends ≡ r.ends → Tells all (bit_or (bit_or bits span.lo) (span.hi + 1)) (λ block. list_all (end_fits (2 ^ block)) ends ≡ true) → Tells all bits (λ block. row_fits (2 ^ block) r ≡ true)
row_told r span ends bits all is es t block e =
    let k = t block e in
    let o = or_whole (bit_or bits span.lo) (span.hi + 1) block k.0 in
    let q = or_whole bits span.lo block o.0 in
    let lo : is_whole (2 ^ block) r.span.lo ≡ true = subst (λ (s : Span). is_whole (2 ^ block) s.lo ≡ true) is (eq-eqb (span.lo % 2 ^ block) 0 q.1) in
    let hi : is_whole (2 ^ block) (r.span.hi + 1) ≡ true = subst (λ (s : Span). is_whole (2 ^ block) (s.hi + 1) ≡ true) is (eq-eqb ((span.hi + 1) % 2 ^ block) 0 o.1) in
    (q.0, and_from (is_whole (2 ^ block) r.span.lo && is_whole (2 ^ block) (r.span.hi + 1)) (list_all (end_fits (2 ^ block)) r.ends) (and_from (is_whole (2 ^ block) r.span.lo) (is_whole (2 ^ block) (r.span.hi + 1)) lo hi) (subst (λ (l : List End). list_all (end_fits (2 ^ block)) l ≡ true) es k.1))

all_member : {X : Type 0} (p : X → Bool) (xs : List X) (x : X) → Member x xs → list_all p xs ≡ true → p x ≡ true
all_member p [] x m e = absurd m
all_member p (y ∷ xs) x (inl s) e = ap p (sym s) ∙ (and_parts (p y) (list_all p xs) e).0
all_member p (y ∷ xs) x (inr m) e = all_member p xs x m (and_parts (p y) (list_all p xs) e).1

-- A row of whole blocks.

record IsMoved (m lo hi base a b : ℕ) : Type 0 where
  from : lo ≤ b
  to : b ≤ hi
  name : base + (b - lo) ≡ moved_in_block m (base + (a - lo)) b

moved_row : (m lo hi base a b : ℕ) → 0 < m → lo % m ≡ 0 → (hi + 1) % m ≡ 0 → base % m ≡ 0 → lo ≤ a → a ≤ hi → a / m ≡ b / m → IsMoved m lo hi base a b
moved_row m lo hi base a b pos el eh eb from to same =
    let dl : lo / m * m + lo % m ≡ lo = div-add-mod' lo m in
    let dh : (hi + 1) / m * m + (hi + 1) % m ≡ hi + 1 = div-add-mod' (hi + 1) m in
    let db : base / m * m + base % m ≡ base = div-add-mod' base m in
    let da : a / m * m + a % m ≡ a = div-add-mod' a m in
    let dn : b / m * m + b % m ≡ b = div-add-mod' b m in
    let ra : a % m < m = mod-lt a pos in
    let rb : b % m < m = mod-lt b pos in
    let at : a / m * m ≡ b / m * m = ap (λ n. n * m) same in
    let first : lo / m ≤ a / m = (le-div_iff_mul-le pos).1 (omega (arith, dl, from)) in
    let d = pages_between m (lo / m) (a / m) first in
    let last : a / m < (hi + 1) / m = (div-lt_iff_lt-mul pos).1 (omega (arith, dh, eh, to)) in
    let past : (a / m + 1) * m ≤ (hi + 1) / m * m = mul-le-mul_right m (let l : a / m + 1 ≤ (hi + 1) / m = omega (arith, last) in l) in
    let next : (a / m + 1) * m ≡ a / m * m + 1 * m = add-mul (a / m) 1 m in
    let sum : (base / m + d.0) * m ≡ base / m * m + d.0 * m = add-mul (base / m) d.0 m in
    let dd = d.2 in
    let name : (base + (a - lo)) / m ≡ base / m + d.0 = page_is m (base + (a - lo)) (base / m + d.0) pos (omega (arith, sum, db, eb, da, dl, el, dd, from)) (omega (arith, sum, db, eb, da, dl, el, dd, from, ra)) in
    let names : (base + (a - lo)) / m * m ≡ base / m * m + d.0 * m = ap (λ n. n * m) name ∙ sum in
    record {
      from = omega (arith, dn, at, dd, dl, el);
      to = omega (arith, dn, at, rb, past, next, dh, eh);
      name = omega (arith, names, dn, at, dd, dl, el, db, eb);
    }

-- levels of such rows send whole blocks
pub levels_send : (net : List NodeDecl) (node block : ℕ) (levels : Levels) → IsLevels net node levels → layers_fit (2 ^ block) levels.stops ≡ true → SendsBlocks net (2 ^ block) node
levels_send net node block levels is fit a b z same st = (is.stops b y (omega (arith, k.to, r.span.within))).0 (member_any (λ (rows : List Row). rows_give rows b y) levels.stops rows l.1 (member_any (λ (r : Row). row_gives r b y) rows r q.1 here))
  where
    m : ℕ
    m = 2 ^ block

    y : End
    y = record { node = z.node; base = moved_in_block (2 ^ block) z.base b }

    given : levels_give levels.stops a z ≡ true
    given = (is.stops a z (stop_low net (record { node = node; addr = a }) (name_of_end z) st)).1 st

    l : (rows : List Row) × Member rows levels.stops × (rows_give rows a z ≡ true)
    l = any_member (λ (rows : List Row). rows_give rows a z) levels.stops given

    rows : List Row
    rows = l.0

    q : (r : Row) × Member r rows × (row_gives r a z ≡ true)
    q = any_member (λ (r : Row). row_gives r a z) rows l.2

    r : Row
    r = q.0

    halves : (in_span r.span a ≡ true) × (ends_give r.ends r.span.lo a z ≡ true)
    halves = and_parts (in_span r.span a) (ends_give r.ends r.span.lo a z) q.2

    e : (e : End) × Member e r.ends × ((nat_eq e.node z.node && nat_eq (e.base + (a - r.span.lo)) z.base) ≡ true)
    e = any_member (λ (e : End). nat_eq e.node z.node && nat_eq (e.base + (a - r.span.lo)) z.base) r.ends halves.1

    names : (nat_eq e.0.node z.node ≡ true) × (nat_eq (e.0.base + (a - r.span.lo)) z.base ≡ true)
    names = and_parts (nat_eq e.0.node z.node) (nat_eq (e.0.base + (a - r.span.lo)) z.base) e.2

    row : row_fits (2 ^ block) r ≡ true
    row = all_member (row_fits (2 ^ block)) rows r q.1 (all_member (rows_fit (2 ^ block)) levels.stops rows l.1 fit)

    bounds : ((is_whole (2 ^ block) r.span.lo && is_whole (2 ^ block) (r.span.hi + 1)) ≡ true) × (list_all (end_fits (2 ^ block)) r.ends ≡ true)
    bounds = and_parts (is_whole (2 ^ block) r.span.lo && is_whole (2 ^ block) (r.span.hi + 1)) (list_all (end_fits (2 ^ block)) r.ends) row

    edges : (is_whole (2 ^ block) r.span.lo ≡ true) × (is_whole (2 ^ block) (r.span.hi + 1) ≡ true)
    edges = and_parts (is_whole (2 ^ block) r.span.lo) (is_whole (2 ^ block) (r.span.hi + 1)) bounds.0

    k : IsMoved (2 ^ block) r.span.lo r.span.hi e.0.base a b
    k = moved_row (2 ^ block) r.span.lo r.span.hi e.0.base a b (pow_pos block) (eqb-true (r.span.lo % 2 ^ block) 0 edges.0) (eqb-true ((r.span.hi + 1) % 2 ^ block) 0 edges.1) (eqb-true (e.0.base % 2 ^ block) 0 (all_member (end_fits (2 ^ block)) r.ends e.0 e.1 bounds.1)) (lo_of r.span a halves.0) (hi_of r.span a halves.0) same

    name : e.0.base + (b - r.span.lo) ≡ moved_in_block (2 ^ block) z.base b
    name = k.name ∙ ap (λ n. moved_in_block (2 ^ block) n b) (eqb-true (e.0.base + (a - r.span.lo)) z.base names.1)

    here : row_gives r b y ≡ true
    here = and_from (in_span r.span b) (ends_give r.ends r.span.lo b y) (in_from r.span b k.from k.to) (member_any (λ (e : End). nat_eq e.node y.node && nat_eq (e.base + (b - r.span.lo)) y.base) r.ends e.0 e.1 (and_from (nat_eq e.0.node z.node) (nat_eq (e.0.base + (b - r.span.lo)) (moved_in_block (2 ^ block) z.base b)) names.0 (eq-eqb (e.0.base + (b - r.span.lo)) (moved_in_block (2 ^ block) z.base b) name)))

-- Blocks of one address are whole.

whole_ones : (n : ℕ) → n / 1 * 1 + n % 1 ≡ n
whole_ones n = div-add-mod' n 1

ones : (net : List NodeDecl) (node : ℕ) → SendsBlocks net (2 ^ 0) node
ones net node a b z e st =
    let da : a / 1 * 1 + a % 1 ≡ a = whole_ones a in
    let db : b / 1 * 1 + b % 1 ≡ b = whole_ones b in
    let dz : z.base / 1 * 1 + z.base % 1 ≡ z.base = whole_ones z.base in
    let ma : a % 1 ≡ 0 = mod-one a in
    let mb : b % 1 ≡ 0 = mod-one b in
    let mz : z.base % 1 ≡ 0 = mod-one z.base in
    let same : a ≡ b = omega (arith, da, db, ma, mb, e) in
    let name : z.base ≡ moved_in_block 1 z.base b = omega (arith, dz, mz, mb) in
    subst (λ n. StopsFrom net node n (record { node = z.node; base = moved_in_block 1 z.base b })) same (subst (λ n. StopsFrom net node a (record { node = z.node; base = n })) name st)

pub one_blocks : (net : List NodeDecl) → HasBlocks net 0
one_blocks net = record {
  sends = λ node l. ones net node;
  pages = λ node u e. omega arith;
}

-- Of all nodes.

pub send_more : (net : List NodeDecl) (node bits all : ℕ) → Tells all bits (λ block. SendsBlocks net (2 ^ block) node) → ((block : ℕ) → bits % 2 ^ block ≡ 0 → (n : ℕ) → n < node → SendsBlocks net (2 ^ block) n) → (block : ℕ) → all % 2 ^ block ≡ 0 → (n : ℕ) → n < node + 1 → SendsBlocks net (2 ^ block) n
send_more net node bits all told below block e n l = by (cases l)
  where
    now : (bits % 2 ^ block ≡ 0) × SendsBlocks net (2 ^ block) node
    now = told block e

    cases : n < node + 1 → (n < node) ⊎ (n ≡ node)
    cases l = grind arith

    by : (n < node) ⊎ (n ≡ node) → SendsBlocks net (2 ^ block) n
    by (inl k) = below block now.0 n k
    by (inr s) = subst (SendsBlocks net (2 ^ block)) (sym s) now.1

-- No page is smaller than a bound, of the units before a node and of the node's.

pub least_more : (net : List NodeDecl) (node least page next : ℕ) → next ≤ least → next ≤ page → ((n : ℕ) (u : UnitPart) → n < node → unit_at net n ≡ Some u → least ≤ u.page) → ((u : UnitPart) → unit_at net node ≡ Some u → page ≤ u.page) → (n : ℕ) (u : UnitPart) → n < node + 1 → unit_at net n ≡ Some u → next ≤ u.page
least_more net node least page next a b below here n u l e = by (cases l)
  where
    cases : n < node + 1 → (n < node) ⊎ (n ≡ node)
    cases l = grind arith

    by : (n < node) ⊎ (n ≡ node) → next ≤ u.page
    by (inl k) = omega (arith, a, below n u k e)
    by (inr s) = omega (arith, b, here u (ap (unit_at net) (sym s) ∙ e))

-- Beside a stretch.

pub beside_before : (net : List NodeDecl) (node y size block : ℕ) → 1 ≤ size → 0 < 2 ^ block → ShowsWithin net node (y - y % 2 ^ block) (y - 1) → y - y % 2 ^ block < y → HasBeside net node y size block
beside_before net node y size block some pos s less =
    let a : ℕ = s.address in
    let d : y / 2 ^ block * 2 ^ block + y % 2 ^ block ≡ y = div-add-mod' y (2 ^ block) in
    let r : y % 2 ^ block < 2 ^ block = mod-lt y pos in
    let f = s.from in
    let t = s.to in
    let at : a / 2 ^ block ≡ y / 2 ^ block = page_is (2 ^ block) a (y / 2 ^ block) pos (omega (arith, d, f)) (omega (arith, d, r, t, less)) in
    record {
      place = 0;
      below = some;
      address = a;
      name = s.name;
      inside = at ∙ ap (λ n. n / 2 ^ block) (let e : y ≡ y + 0 = omega arith in e);
      apart = λ j l e. omega (arith, e, t, less);
      resolves = s.resolves;
    }

pub beside_behind : (net : List NodeDecl) (node y size block last : ℕ) → 1 ≤ size → 0 < 2 ^ block → last ≡ y + (size - 1) → ShowsWithin net node (last + 1) (last - last % 2 ^ block + (2 ^ block - 1)) → HasBeside net node y size block
beside_behind net node y size block last some pos is s =
    let a : ℕ = s.address in
    let d : last / 2 ^ block * 2 ^ block + last % 2 ^ block ≡ last = div-add-mod' last (2 ^ block) in
    let f = s.from in
    let t = s.to in
    let at : a / 2 ^ block ≡ last / 2 ^ block = page_is (2 ^ block) a (last / 2 ^ block) pos (omega (arith, d, f)) (omega (arith, d, t, pos)) in
    record {
      place = size - 1;
      below = omega arith;
      address = a;
      name = s.name;
      inside = at ∙ ap (λ n. n / 2 ^ block) is;
      apart = λ j l e. omega (arith, e, f, is, l);
      resolves = s.resolves;
    }

-- What the segments of a span show.

pub shown_within : (net : List NodeDecl) (flats : FlatsView) → AreFlats net flats → (node : ℕ) → node < length flats.nodes → (span : Span) (old segs : List Seg) → old ≡ [] → ((a : ℕ) (z : End) → segs_give segs a z ≡ (segs_give old a z || (in_span span a && shows flats node (span.lo + (a - span.lo)) z))) → (length segs == 0) ≡ false → ShowsWithin net node span.lo span.hi
shown_within net flats are node l span old [] none gives some = cc
shown_within net flats are node l span old (s ∷ segs) none gives some =
    let a : ℕ = s.span.lo in
    let z : End = record { node = s.node; base = s.base } in
    let at : s.base + (s.span.lo - s.span.lo) ≡ s.base = omega arith in
    let name : (nat_eq s.node s.node && nat_eq (s.base + (s.span.lo - s.span.lo)) s.base) ≡ true = and_from (nat_eq s.node s.node) (nat_eq (s.base + (s.span.lo - s.span.lo)) s.base) (eq-eqb s.node s.node refl) (eq-eqb (s.base + (s.span.lo - s.span.lo)) s.base at) in
    let first : seg_gives s a z ≡ true = and_from (in_span s.span s.span.lo) (nat_eq s.node s.node && nat_eq (s.base + (s.span.lo - s.span.lo)) s.base) (in_from s.span s.span.lo (omega arith) s.span.ordered) name in
    let given : segs_give (s ∷ segs) a z ≡ true = or_left (seg_gives s a z) (segs_give segs a z) first in
    let made : (in_span span a && shows flats node (span.lo + (a - span.lo)) z) ≡ true = subst (λ (o : List Seg). (segs_give o a z || (in_span span a && shows flats node (span.lo + (a - span.lo)) z)) ≡ true) none (sym (gives a z) ∙ given) in
    let both = and_parts (in_span span a) (shows flats node (span.lo + (a - span.lo)) z) made in
    let lo : span.lo ≤ a = lo_of span a both.0 in
    let hi : a ≤ span.hi = hi_of span a both.0 in
    let back : span.lo + (a - span.lo) ≡ a = omega (arith, lo) in
    record {
      address = a;
      name = z;
      from = lo;
      to = hi;
      resolves = ((nodes_reach_their_names net flats are).accepted node a z (subst (λ n. node < n) are.every l) (omega (arith, hi, span.within))).0 (subst (λ n. shows flats node n z ≡ true) back both.1);
    }
