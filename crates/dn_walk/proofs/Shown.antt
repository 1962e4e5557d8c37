-- The forks that rows show are those of the net, and the least of them is the one that the net's rule carries.
use Rattle.std.proofs.Common.{◌≡◌, ℕ, ◌+◌, ◌-◌, ◌<◌, ◌≤◌, ◌⊎◌, inl, inr, Bool, true, false, if◌then◌else◌, ◌&&◌, nat_lt, List, [], ◌∷◌, ◌++◌, map, length, get_or, take, Option, Some, None, option_map, is_some, IsTrue, refl, sym, ap, ◌∙◌, subst, arith, ltb-true}
use Rattle.std.proofs.lemmas.Bool.{lt-ltb, ltb-false, or_cases, or_parts, and_parts, and_from, and_cases}
use Rattle.std.specs.List.{list_all}
use Rattle.std.proofs.lemmas.List.{take_more}
use Rattle.dn_base.proofs.Lists.{map-last}
use Rattle.dn_base.proofs.Members.{member_left, member_right, member_cases, map_member, member_map}
use Rattle.dn_net.specs.declared.node.Name.{Name}
use Rattle.dn_net.specs.declared.node.NodeDecl.{NodeDecl}
use Rattle.dn_net.specs.Chain.{Member}
use Rattle.dn_net.specs.Decode.{within, unit_at, steps, step_limit, is_formed}
use Rattle.dn_net.specs.Names.{name_lt, name_eq}
use Rattle.dn_net.specs.Rules.{KeepsNodeRules}
use Rattle.dn_net.specs.UnitRules.{Fork as NetFork, least_fork, IsShallow, IsFork, IsLeastFork}
use Rattle.dn_net.specs.Walks.{Walk, moved_name, live_walks}
use Rattle.dn_walk.proofs.Arrivals.{Arrives, arrival, departure, first_inside, as_many}
use Rattle.dn_net.proofs.Firsts.{NoLater}
use Rattle.dn_walk.proofs.Forks.{fork_is_least}
use Rattle.dn_net.proofs.Least.{within_from, within_to}
use Rattle.dn_net.proofs.Resolution.{name_same, same_name}
use Rattle.dn_net.proofs.Stops.{stop_unit, unit_stop, stop_still}
use Rattle.dn_net.proofs.Ascending.{lower_is, transitive, not_itself}
use Rattle.dn_net.proofs.Ways.{either_way}
use Rattle.dn_walk.specs.declared.fork.FoundFork.{FoundFork}
use Rattle.dn_walk.specs.declared.walks.WalkRow.{WalkRow}
use Rattle.dn_walk.specs.Rows.{BareWalk, bare_walk, row_view}
use Rattle.dn_walk.specs.Ways.{start_name}
use Rattle.dn_walk.specs.Units.{shows_fork, fork_shown, fork_before, lesser_fork, with_shown, NoLaterFork, IsLeastForkOf, IsLeastShown}

-- THE ORDER OF FORKS
before_is : (f g : FoundFork) → fork_before f g ≡ true → NoLaterFork f g
before_is f g h = elim (or_cases (name_lt f.name g.name) (name_eq f.name g.name && nat_lt f.unit g.unit) h) [
  | inl e ↦ inl e
  | inr e ↦ (
      let b = and_parts (name_eq f.name g.name) (nat_lt f.unit g.unit) e in
      let l = ltb-true f.unit g.unit b.1 in
      inr (name_same f.name g.name b.0, omega arith))
]

not_before : (f g : FoundFork) → fork_before f g ≡ false → NoLaterFork g f
not_before f g h = by (either_way f.name g.name)
  where
    b : (name_lt f.name g.name ≡ false) × ((name_eq f.name g.name && nat_lt f.unit g.unit) ≡ false)
    b = or_parts (name_lt f.name g.name) (name_eq f.name g.name && nat_lt f.unit g.unit) h

    by : IsTrue (name_lt f.name g.name) ⊎ NoLater g.name f.name → NoLaterFork g f
    by (inl l) = let e : true ≡ false = sym l ∙ b.0 in cc
    by (inr (inl l)) = inl l
    by (inr (inr e)) = elim (and_cases (name_eq f.name g.name) (nat_lt f.unit g.unit) b.1) [
      | inl n ↦ (let s : true ≡ false = sym (same_name f.name g.name (sym e)) ∙ n in cc)
      | inr n ↦ inr (e, ltb-false f.unit g.unit n)
    ]

no_later_fork : (f g h : FoundFork) → NoLaterFork f g → NoLaterFork g h → NoLaterFork f h
no_later_fork f g h (inl p) (inl q) = inl (transitive f.name g.name h.name p q)
no_later_fork f g h (inl p) (inr e) = inl (subst (λ w. IsTrue (name_lt f.name w)) e.0 p)
no_later_fork f g h (inr e) (inl q) = inl (subst (λ w. IsTrue (name_lt w h.name)) (sym e.0) q)
no_later_fork f g h (inr e) (inr k) = let p = e.1 in let q = k.1 in inr (e.0 ∙ k.0, omega arith)

one_fork : (f g : FoundFork) → NoLaterFork f g → NoLaterFork g f → (f.name ≡ g.name) × (f.unit ≡ g.unit)
one_fork f g (inl p) (inl q) = absurd (not_itself f.name f.name refl (transitive f.name g.name f.name p q))
one_fork f g (inl p) (inr e) = absurd (not_itself f.name g.name (sym e.0) p)
one_fork f g (inr e) (inl q) = absurd (not_itself g.name f.name (sym e.0) q)
one_fork f g (inr e) (inr k) = let p = e.1 in let q = k.1 in (e.0, omega arith)

-- ROW BY ROW
-- the least fork of rows and of one row more
pub shown_more : (net : List NodeDecl) (rows : List BareWalk) (o : Option FoundFork) (t : BareWalk) → IsLeastShown net rows o → IsLeastShown net (rows ++ t ∷ []) (with_shown net o t)
shown_more net rows o t = by (shows_fork net t) refl o
  where
    older : (f : FoundFork) → IsLeastForkOf net rows f → ((shows_fork net t ≡ true) → NoLaterFork f (fork_shown t)) → IsLeastForkOf net (rows ++ t ∷ []) f
    older f h k = record {
      shown = (h.shown.0, member_left rows (t ∷ []) h.shown.0 h.shown.1, h.shown.2, h.shown.3);
      least = λ u m s. elim (member_cases rows (t ∷ []) u m) [
        | inl n ↦ h.least u n s
        | inr (inl e) ↦ subst (λ v. NoLaterFork f (fork_shown v)) e (k (ap (shows_fork net) e ∙ s))
        | inr (inr z) ↦ absurd z
      ];
    }

    newer : shows_fork net t ≡ true → ((u : BareWalk) → Member u rows → shows_fork net u ≡ true → NoLaterFork (fork_shown t) (fork_shown u)) → IsLeastForkOf net (rows ++ t ∷ []) (fork_shown t)
    newer e k = record {
      shown = (t, member_right rows (t ∷ []) t (inl refl), e, refl);
      least = λ u m s. elim (member_cases rows (t ∷ []) u m) [
        | inl n ↦ k u n s
        | inr (inl e) ↦ subst (λ v. NoLaterFork (fork_shown t) (fork_shown v)) e (inr (refl, omega arith))
        | inr (inr z) ↦ absurd z
      ];
    }

    lesser : (f : FoundFork) → shows_fork net t ≡ true → IsLeastForkOf net rows f → (b : Bool) → fork_before (fork_shown t) f ≡ b → IsLeastForkOf net (rows ++ t ∷ []) (if b then fork_shown t else f)
    lesser f e h true before = newer e (λ u m s. no_later_fork (fork_shown t) f (fork_shown u) (before_is (fork_shown t) f before) (h.least u m s))
    lesser f e h false before = older f h (λ s. not_before (fork_shown t) f before)

    by : (b : Bool) → shows_fork net t ≡ b → (o : Option FoundFork) → IsLeastShown net rows o → IsLeastShown net (rows ++ t ∷ []) (if b then lesser_fork o (fork_shown t) else o)
    by true e None h = newer e (λ u m s. let g : true ≡ false = sym s ∙ h u m in cc)
    by true e (Some f) h = lesser f e h (fork_before (fork_shown t) f) refl
    by false e None h = λ u m. elim (member_cases rows (t ∷ []) u m) [
      | inl n ↦ h u n
      | inr (inl s) ↦ ap (shows_fork net) (sym s) ∙ e
      | inr (inr z) ↦ absurd z
    ]
    by false e (Some f) h = older f h (λ s. let g : true ≡ false = sym s ∙ e in cc)

-- OF A NET
-- a fork as the definitions of the net have it
abbrev pub fork_view : FoundFork → NetFork
fork_view f = record { name = f.name; unit = f.unit }

module _ (net : List NodeDecl) (checked : KeepsNodeRules net) (shallow : IsShallow net) (formed : IsTrue (list_all is_formed net)) where
  -- a row that shows a fork has one at its first name
  row_fork : (t : BareWalk) → Member t (map bare_walk (live_walks net step_limit)) → shows_fork net t ≡ true → IsFork net (start_name t) t.end
  row_fork t m h = subst (λ u. shows_fork net u ≡ true → IsFork net (start_name u) u.end) w.2 (of_walk w.0 w.1) h
    where
      w : (w : Walk) × Member w (live_walks net step_limit) × (bare_walk w ≡ t)
      w = map_member bare_walk (live_walks net step_limit) t m

      of_walk : (w : Walk) → Member w (live_walks net step_limit) → shows_fork net (bare_walk w) ≡ true → IsFork net (record { node = w.start; addr = w.span.lo }) w.to.node
      of_walk w m h =
          let p = and_parts (is_some (unit_at net w.to.node)) (nat_lt 1 (length (steps net (record { node = w.start; addr = w.span.lo })))) h in
          let o = first_inside net checked w m in
          let d = departure net checked w m w.span.lo (within_from w.span.lo w.span (omega arith) o) in
          let s : Name = moved_name (w.span.lo - w.span.lo) w.to in
          record { several = ltb-true 1 (length (steps net (record { node = w.start; addr = w.span.lo }))) p.1; reaches = (s, refl, unit_stop net s p.0 d.1, d.0) }

  -- and each fork is shown by a row that begins at its name or before
  pub record IsShown (f : NetFork) (t : BareWalk) : Type 0 where
    pub row : Member t (map bare_walk (live_walks net step_limit))
    pub shows : shows_fork net t ≡ true
    pub node : t.start ≡ f.name.node
    pub addr : t.lo ≤ f.name.addr
    pub unit : t.end ≡ f.unit

  fork_row : (f : NetFork) → IsFork net f.name f.unit → (t : BareWalk) × IsShown f t
  fork_row f k = by (arrival net checked shallow f.name k.reaches.0 k.reaches.3)
    where
      s : Name
      s = k.reaches.0

      by : (f.name ≡ s) ⊎ ((w : Walk) × Arrives net f.name s w) → (t : BareWalk) × IsShown f t
      by (inl e) =
          let still : steps net s ≡ [] = stop_still net formed s k.reaches.2 in
          let none : length (steps net f.name) ≡ 0 = ap (λ n. length (steps net n)) e ∙ ap length still in
          let several = k.several in
          absurd (omega arith)
      by (inr r) =
          let w : Walk = r.0 in
          let a = r.1 in
          let o = first_inside net checked w a.listed in
          let first : IsTrue (within w.span.lo w.span) = within_from w.span.lo w.span (omega arith) o in
          let many : length (steps net (record { node = w.start; addr = w.span.lo })) ≡ length (steps net (record { node = w.start; addr = f.name.addr })) = as_many net checked w a.listed w.span.lo f.name.addr first a.inside in
          let here : length (steps net (record { node = w.start; addr = f.name.addr })) ≡ length (steps net f.name) = ap (λ n. length (steps net (record { node = n; addr = f.name.addr }))) a.start in
          let several = k.several in
          let more : 1 < length (steps net (record { node = w.start; addr = w.span.lo })) = omega arith in
          let end : w.to.node ≡ f.unit = ap (λ (n : Name). n.node) a.to ∙ k.reaches.1 in
          let unit : is_some (unit_at net w.to.node) ≡ true = ap (λ n. is_some (unit_at net n)) (ap (λ (n : Name). n.node) a.to) ∙ (stop_unit net s k.reaches.2).0 in (
            bare_walk w,
            record {
              row = member_map bare_walk (live_walks net step_limit) w a.listed;
              shows = and_from (is_some (unit_at net w.to.node)) (nat_lt 1 (length (steps net (record { node = w.start; addr = w.span.lo })))) unit (lt-ltb 1 (length (steps net (record { node = w.start; addr = w.span.lo }))) more);
              node = a.start;
              addr = (within_to f.name.addr w.span a.inside).0;
              unit = end;
            },
          )

  -- a name of the node that comes no later than one, but not before it, is it
  no_lower : (x y : Name) → y.node ≡ x.node → y.addr ≤ x.addr → NoLater x y → x ≡ y
  no_lower x y n a (inr e) = e
  no_lower x y n a (inl l) = elim (lower_is x y l) [ inl k ↦ absurd (omega arith) | inr k ↦ (let m = k.1 in absurd (omega arith)) ]

  -- the least fork that the live walks show is the one that is carried
  pub shown_is_least : (rows : List BareWalk) → rows ≡ map bare_walk (live_walks net step_limit) → (o : Option FoundFork) → IsLeastShown net rows o → least_fork net ≡ option_map fork_view o
  shown_is_least rows e o h = by o (subst (λ l. IsLeastShown net l o) e h) (least_fork net) refl
    where
      by : (o : Option FoundFork) → IsLeastShown net (map bare_walk (live_walks net step_limit)) o → (p : Option NetFork) → least_fork net ≡ p → p ≡ option_map fork_view o
      by None h None g = refl
      by None h (Some f) g =
          let l : IsLeastFork net f.name f.unit = (fork_is_least net checked shallow).0 f g in
          let r = fork_row f l.fork in
          let z : true ≡ false = sym r.1.shows ∙ h r.0 r.1.row in
          cc
      by (Some f) h None g =
          let k : IsFork net (start_name h.shown.0) h.shown.0.end = row_fork h.shown.0 h.shown.1 h.shown.2 in
          absurd ((fork_is_least net checked shallow).1 g (start_name h.shown.0) h.shown.0.end k)
      by (Some f) h (Some g) at =
          let l : IsLeastFork net g.name g.unit = (fork_is_least net checked shallow).0 g at in
          let there : IsFork net f.name f.unit = subst (λ (k : FoundFork). IsFork net k.name k.unit) h.shown.3 (row_fork h.shown.0 h.shown.1 h.shown.2) in
          let one : FoundFork = record { name = g.name; unit = g.unit } in
          let below : NoLaterFork one f = l.least f.name f.unit there in
          let r = fork_row g l.fork in
          let t : BareWalk = r.0 in
          let q : IsTrue (name_lt g.name (start_name t)) ⊎ ((g.name ≡ start_name t) × (g.unit ≤ t.end)) = l.least (start_name t) t.end (row_fork t r.1.row r.1.shows) in
          let first : g.name ≡ start_name t = no_lower g.name (start_name t) r.1.node r.1.addr (weaker g.name (start_name t) (g.unit ≤ t.end) q) in
          let above : NoLaterFork f (fork_shown t) = h.least t r.1.row r.1.shows in
          let over : NoLaterFork f one = subst (λ (k : FoundFork). NoLaterFork f k) (λ i. record { name = sym first i; unit = r.1.unit i }) above in
          let same = one_fork one f below over in
          λ i. Some (record { name = same.0 i; unit = same.1 i })
        where
          weaker : (x y : Name) (P : Type 0) → IsTrue (name_lt x y) ⊎ ((x ≡ y) × P) → NoLater x y
          weaker x y P (inl l) = inl l
          weaker x y P (inr e) = inr e.0

-- the least fork of the rows up to a place and of the row there
pub shown_at : (net : List NodeDecl) (rows : List WalkRow) (i : ℕ) (r : WalkRow) (o p : Option FoundFork) → i < length rows → r ≡ get_or rows i r → p ≡ with_shown net o (row_view r) → IsLeastShown net (map row_view (take i rows)) o → IsLeastShown net (map row_view (take (i + 1) rows)) p
shown_at net rows i r o p l at e h =
    let more : map row_view (take (i + 1) rows) ≡ map row_view (take i rows) ++ row_view r ∷ [] =
    ap (map row_view) (take_more rows i r l ∙ ap (λ x. take i rows ++ x ∷ []) (sym at)) ∙ map-last row_view (take i rows) r in
    subst (λ ts. IsLeastShown net ts p) (sym more) (subst (λ q. IsLeastShown net (map row_view (take i rows) ++ row_view r ∷ []) q) (sym e) (shown_more net (map row_view (take i rows)) o (row_view r) h))
