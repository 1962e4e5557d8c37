-- What one name comes to, alone.
use Rattle.std.proofs.Common.{◌≡◌, ◌∙◌, ℕ, zero, suc, ◌+◌, ◌-◌, ◌<◌, ◌≤◌, ◌==◌, ◌⊎◌, ◌↔◌, inl, inr, Bool, true, false, ◌&&◌, ◌||◌, nat_le, nat_eq, ◌/◌, ◌^◌, if◌then◌else◌, List, [], ◌∷◌, ◌++◌, length, slice_get, Option, Some, None, refl, sym, ap, subst, arith, eqb-true}
use Rattle.std.proofs.lemmas.Bool.{lt-leb, le-leb, eq-eqb, or_cases}
use Rattle.std.proofs.lemmas.List.Folds.{list_any-append}
use Rattle.dn_base.proofs.Booleans.{or-false, or_left, or_right}
use Rattle.dn_interval.specs.declared.row.End.{End}
use Rattle.dn_interval.specs.declared.row.Seg.{Seg}
use Rattle.dn_interval.specs.declared.span.TheConstants.{TOP}
use Rattle.dn_interval.specs.Spans.{in_span}
use Rattle.dn_interval.specs.Strands.{seg_gives, segs_give}
use Rattle.dn_interval.proofs.Membership.{in_from}
use Rattle.dn_net.specs.declared.node.Name.{Name}
use Rattle.dn_net.specs.declared.node.NodeDecl.{NodeDecl}
use Rattle.dn_net.specs.declared.node.Unit.{Unit as UnitPart}
use Rattle.dn_net.specs.Chain.{Member, IsChain, Ends}
use Rattle.dn_net.specs.Decode.{top, decode, in_some_block, by_entries, sent_names, is_accepted, is_accepted_at, is_stop, is_stop_at, steps, step_limit, unit_at, Resolves, StopsAt}
use Rattle.dn_net.specs.Names.{name_eq, passing_names, reached_names, sorted_names}
use Rattle.dn_net.proofs.Resolution.{end_names_are_ends, found_by_test, names_in, test_finds}
use Rattle.dn_kind.specs.Tables.{Held, output, steps_by_unit, steps_under, step_limit_under, ResolvesUnder, resolved_names_under}
use Rattle.dn_kind.proofs.Sets.{sorted_same}
use Rattle.dn_walk.specs.Ends.{end_of}
use Rattle.dn_flat.specs.Levels.{AreFlats, FlatsView, levels_give, shows}
use Rattle.dn_view.specs.declared.part.FlatPart.{FlatPart}
use Rattle.dn_view.specs.declared.part.FlatPart.TheVariants.{Accepts, Stops}
use Rattle.dn_view.specs.Named.{has_name, ComesTo, IsAtName}
use Rattle.dn_view.specs.Passes.{part_gives, stops_of}
use Rattle.dn_view.specs.Views.{ResolvesFromUnder}
use Rattle.dn_view.proofs.Viewed.{node_accepts, node_stops}

-- the name that a segment gives to an address

eq_turned : (x y : ℕ) → nat_eq x y ≡ (y == x)
eq_turned x y = by (nat_eq x y) refl (y == x) refl
  where
    by : (p : Bool) → nat_eq x y ≡ p → (q : Bool) → (y == x) ≡ q → p ≡ q
    by true e true f = refl
    by false e false f = refl
    by true e false f = let g : true ≡ false = sym (eq-eqb y x (sym (eqb-true x y e))) ∙ f in cc
    by false e true f = let g : true ≡ false = sym (eq-eqb x y (sym (eqb-true y x f))) ∙ e in cc

pub off_low : (s : Seg) (a : ℕ) (y : End) → a < s.span.lo → seg_gives s a y ≡ false
off_low s a y l = ap (λ b. (b && nat_le a s.span.hi) && (nat_eq s.node y.node && nat_eq (s.base + (a - s.span.lo)) y.base)) (lt-leb s.span.lo a l)

pub off_high : (s : Seg) (a : ℕ) (y : End) → s.span.lo ≤ a → s.span.hi < a → seg_gives s a y ≡ false
off_high s a y l h =
    ap (λ b. (b && nat_le a s.span.hi) && (nat_eq s.node y.node && nat_eq (s.base + (a - s.span.lo)) y.base)) (le-leb s.span.lo a l)
    ∙ ap (λ b. b && (nat_eq s.node y.node && nat_eq (s.base + (a - s.span.lo)) y.base)) (lt-leb a s.span.hi h)

on_span : (s : Seg) (a : ℕ) (z : Name) → s.span.lo ≤ a → a ≤ s.span.hi → seg_gives s a (end_of z) ≡ name_eq z (record { node = s.node; addr = s.base + (a - s.span.lo) })
on_span s a z l h =
    ap (λ b. (b && nat_le a s.span.hi) && (nat_eq s.node z.node && nat_eq (s.base + (a - s.span.lo)) z.addr)) (le-leb s.span.lo a l)
    ∙ ap (λ b. b && (nat_eq s.node z.node && nat_eq (s.base + (a - s.span.lo)) z.addr)) (le-leb a s.span.hi h)
    ∙ ap (λ b. b && nat_eq (s.base + (a - s.span.lo)) z.addr) (eq_turned s.node z.node)
    ∙ ap (λ b. (z.node == s.node) && b) (eq_turned (s.base + (a - s.span.lo)) z.addr)

-- it is put behind the others
pub name_put : (old : List Name) (s : Seg) (a : ℕ) (z : Name) → s.span.lo ≤ a → a ≤ s.span.hi → has_name (old ++ record { node = s.node; addr = s.base + (a - s.span.lo) } ∷ []) z ≡ (has_name old z || seg_gives s a (end_of z))
name_put old s a z l h =
    let n : Name = record { node = s.node; addr = s.base + (a - s.span.lo) } in
    list_any-append (name_eq z) old (n ∷ [])
    ∙ ap (λ t. has_name old z || t) (or-false (name_eq z n) ∙ sym (on_span s a z l h))

pub none_put : (old given : Bool) → given ≡ false → old ≡ (old || given)
none_put old given e = sym (ap (λ t. old || t) e ∙ or-false old)

-- what a segment leads to at its first address, where nothing was found before
pub at_first : (old new : List Seg) (s : Seg) (next : ℕ → End → Bool) → old ≡ [] → ((a : ℕ) (z : End) → segs_give new a z ≡ (segs_give old a z || (in_span s.span a && next (s.base + (a - s.span.lo)) z))) → (z : End) → segs_give new s.span.lo z ≡ next s.base z
at_first old new s next none e z =
    let lo = s.span.lo in
    let first : s.base + (lo - lo) ≡ s.base = omega arith in
    e lo z
    ∙ ap (λ l. segs_give l lo z || (in_span s.span lo && next (s.base + (lo - lo)) z)) none
    ∙ ap (λ b. b && next (s.base + (lo - lo)) z) (in_from s.span lo (omega arith) s.span.ordered)
    ∙ ap (λ n. next n z) first

-- a test of a list of names and what stands in it

pub had : (xs : List Name) (z : Name) → (has_name xs z ≡ true) ↔ Member z xs
had xs z = ((λ e. found_by_test z xs e), (λ m. test_finds z xs m))

-- names are added for which a test is true
pub more_had : (P : Name → Type 0) (old new : List Name) (given : Name → Bool) → ((z : Name) → has_name new z ≡ (has_name old z || given z)) → ((z : Name) → (given z ≡ true) ↔ P z) → (z : Name) → Member z new ↔ (Member z old ⊎ P z)
more_had P old new given e is z = (into, back)
  where
    into : Member z new → Member z old ⊎ P z
    into m = elim (or_cases (has_name old z) (given z) (sym (e z) ∙ (had new z).1 m)) [ inl h ↦ inl ((had old z).0 h) | inr h ↦ inr ((is z).0 h) ]

    back : Member z old ⊎ P z → Member z new
    back (inl m) = (had new z).0 (e z ∙ or_left (has_name old z) (given z) ((had old z).1 m))
    back (inr p) = (had new z).0 (e z ∙ or_right (has_name old z) (given z) ((is z).1 p))

pub none_more : (P : Name → Type 0) (xs : List Name) → ((z : Name) → P z → ⊥) → (z : Name) → Member z xs ↔ (Member z xs ⊎ P z)
none_more P xs none z = ((λ m. inl m), (λ o. elim o [ inl m ↦ m | inr p ↦ absurd (none z p) ]))

-- what a name comes to, given by segments

pub is_low : (x : Name) (s : Seg) → IsAtName x s → x.addr ≤ TOP
is_low x s is = let f = s.fits in let b = is.base in omega (arith, f, b)

alone_there : (x : Name) (s : Seg) → IsAtName x s → (P : ℕ → ℕ → ℕ → Type 0) → P s.span.lo s.node s.base → P x.addr x.node x.addr
alone_there x s is P p = subst (λ a. P a x.node x.addr) is.lo (subst (λ n. P s.span.lo n x.addr) is.node (subst (λ b. P s.span.lo s.node b) is.base p))

pub resolved_given : (net : List NodeDecl) (flats : FlatsView) → AreFlats net flats → (x : Name) → x.node < length net → (s : Seg) → IsAtName x s → (segs : List Seg) → ((z : End) → segs_give segs s.span.lo z ≡ shows flats s.node s.base z) → (z : Name) → (segs_give segs x.addr (end_of z) ≡ true) ↔ Resolves net x z
resolved_given net flats are x l s is segs given z =
    let e : segs_give segs x.addr (end_of z) ≡ shows flats x.node x.addr (end_of z) = alone_there x s is (λ a n b. segs_give segs a (end_of z) ≡ shows flats n b (end_of z)) (given (end_of z)) in
    node_accepts net flats are x.node (subst (λ n. x.node < n) (sym are.every) l) (segs_give segs x.addr (end_of z)) x.addr (end_of z) (is_low x s is) e

pub stops_given_at : (net : List NodeDecl) (flats : FlatsView) → AreFlats net flats → (x : Name) → x.node < length net → (s : Seg) → IsAtName x s → (segs : List Seg) → ((z : End) → segs_give segs s.span.lo z ≡ levels_give (stops_of flats s.node) s.base z) → (z : Name) → (segs_give segs x.addr (end_of z) ≡ true) ↔ StopsAt net x z
stops_given_at net flats are x l s is segs given z =
    let e : segs_give segs x.addr (end_of z) ≡ levels_give (stops_of flats x.node) x.addr (end_of z) = alone_there x s is (λ a n b. segs_give segs a (end_of z) ≡ levels_give (stops_of flats n) b (end_of z)) (given (end_of z)) in
    node_stops net flats are x.node (subst (λ n. x.node < n) (sym are.every) l) (segs_give segs x.addr (end_of z)) x.addr (end_of z) (is_low x s is) e

pub part_given : (net : List NodeDecl) (flats : FlatsView) → AreFlats net flats → (part : FlatPart) (x : Name) → x.node < length net → (s : Seg) → IsAtName x s → (segs : List Seg) → ((z : End) → segs_give segs s.span.lo z ≡ part_gives part flats s.node s.base z) → (z : Name) → (segs_give segs x.addr (end_of z) ≡ true) ↔ ComesTo net part x z
part_given net flats are Accepts x l s is segs given z = resolved_given net flats are x l s is segs given z
part_given net flats are Stops x l s is segs given z = stops_given_at net flats are x l s is segs given z

-- past the last address

off_top : (a : ℕ) → top < a → nat_le a top ≡ false
off_top a l = lt-leb a top l

still_past : (net : List NodeDecl) (x : Name) → top < x.addr → steps net x ≡ []
still_past net x l = by (slice_get net x.node)
  where
    by : (o : Option NodeDecl) → sent_names (decode x.addr o) ≡ []
    by None = refl
    by (Some n) = ap (λ b. sent_names (if b then (if in_some_block x.addr n.accepts then None else by_entries x.addr n.over n.entries) else None)) (off_top x.addr l)

pub unaccepted_past : (net : List NodeDecl) (x : Name) → top < x.addr → is_accepted net x ≡ false
unaccepted_past net x l = by (slice_get net x.node)
  where
    by : (o : Option NodeDecl) → is_accepted_at x.addr o ≡ false
    by None = refl
    by (Some n) = ap (λ b. b && in_some_block x.addr n.accepts) (off_top x.addr l)

pub no_stop_past : (net : List NodeDecl) (x : Name) → top < x.addr → is_stop net x ≡ false
no_stop_past net x l = by (unit_at net x.node)
  where
    by : (o : Option UnitPart) → is_stop_at x.addr o ≡ false
    by None = refl
    by (Some u) = off_top x.addr l

-- a name that has no step ends nowhere but where it stands
pub no_ends : (f : Name → List Name) (p : Name → Bool) (n : ℕ) (x z : Name) → f x ≡ [] → p x ≡ false → Ends f p n x z → ⊥
no_ends f p n x z still off (is, (k, l, c)) = by k c
  where
    by : (k : ℕ) → IsChain (λ a b. Member b (f a)) k x z → ⊥
    by zero e = let g : true ≡ false = sym is ∙ (ap p (sym e) ∙ off) in cc
    by (suc k) c = subst (λ l. Member c.0 l) still c.1

pub past_resolves : (net : List NodeDecl) (x z : Name) → top < x.addr → Resolves net x z → ⊥
past_resolves net x z l = no_ends (steps net) (is_accepted net) step_limit x z (still_past net x l) (unaccepted_past net x l)

pub past_stops : (net : List NodeDecl) (x z : Name) → top < x.addr → StopsAt net x z → ⊥
past_stops net x z l = no_ends (steps net) (is_stop net) step_limit x z (still_past net x l) (no_stop_past net x l)

pub past_part : (net : List NodeDecl) (part : FlatPart) (x z : Name) → top < x.addr → ComesTo net part x z → ⊥
past_part net Accepts x z l r = past_resolves net x z l r
past_part net Stops x z l r = past_stops net x z l r

still_under : (net : List NodeDecl) (h : Held) (x : Name) → top < x.addr → steps_under net h x ≡ []
still_under net h x l = by (unit_at net x.node)
  where
    by : (o : Option UnitPart) → steps_by_unit net h x o ≡ []
    by None = still_past net x l
    by (Some u) = ap (λ b. if b then output u (h x.node (x.addr / 2 ^ u.page)) x.addr else []) (off_top x.addr l)

none_in : (xs : List Name) → ((z : Name) → Member z xs → ⊥) → xs ≡ []
none_in [] none = refl
none_in (x ∷ xs) none = absurd (none x (inl refl))

pub past_under : (net : List NodeDecl) (h : Held) (x : Name) → top < x.addr → [] ≡ resolved_names_under net h x
past_under net h x l = sym (none_in (resolved_names_under net h x) (λ z m. no_ends (steps_under net h) (is_accepted net) step_limit_under x z (still_under net h x l) (unaccepted_past net x l) ((end_names_are_ends (steps_under net h) (is_accepted net) step_limit_under x z).0 m)))

-- names that are exactly those to which a name resolves under records are its list
pub names_are : (net : List NodeDecl) (h : Held) (x : Name) (found : List Name) → ((z : Name) → Member z found ↔ ResolvesUnder net h x z) → sorted_names found ≡ resolved_names_under net h x
names_are net h x found is =
    let all = passing_names (is_accepted net) (reached_names (steps_under net h) step_limit_under (x ∷ [])) in
    sorted_same found all (λ z.
    let e = end_names_are_ends (steps_under net h) (is_accepted net) step_limit_under x z in
    ((λ m. (names_in all z).0 (e.1 ((is z).0 m))), (λ m. (is z).1 (e.0 ((names_in all z).1 m)))))

-- the names that segments give to the first address of a name's segment
pub given_names : (net : List NodeDecl) (h : Held) (x : Name) (s : Seg) → IsAtName x s → (shown : List Seg) (old new : List Name) → old ≡ [] → ((z : Name) → has_name new z ≡ (has_name old z || segs_give shown x.addr (end_of z))) → ((z : End) → (segs_give shown s.span.lo z ≡ true) ↔ ResolvesFromUnder net h s.node s.base z) → (z : Name) → Member z new ↔ ResolvesUnder net h x z
given_names net h x s is shown old new none e given z =
    let has : has_name new z ≡ segs_give shown x.addr (end_of z) = e z ∙ ap (λ l. has_name l z || segs_give shown x.addr (end_of z)) none in
    let r : (segs_give shown x.addr (end_of z) ≡ true) ↔ ResolvesFromUnder net h x.node x.addr (end_of z) = alone_there x s is (λ a n b. (segs_give shown a (end_of z) ≡ true) ↔ ResolvesFromUnder net h n b (end_of z)) (given (end_of z)) in
    ((λ m. r.0 (sym has ∙ (had new z).1 m)), (λ u. (had new z).0 (has ∙ r.1 u)))
