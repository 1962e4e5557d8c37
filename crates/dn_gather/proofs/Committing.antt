-- Grants come into a book one after another: what is known after so many, after all, and where one stops.
use Rattle.std.proofs.Common.{◌≡◌, ◌∙◌, sym, ap, refl, subst, ℕ, zero, suc, ◌+◌, ◌<◌, ◌≤◌, Bool, true, false, List, [], ◌∷◌, ◌++◌, length, get_or, take, drop, Option, arith, append_assoc, append-nil, take-append-drop}
use Rattle.std.proofs.Math.Seq.{drop-cons, take-append-add, take-length, take-suc}
use Rattle.std.proofs.lemmas.List.{length-append, take-append-le, take_all}
use Rattle.dn_base.specs.declared.device.TableEvent.{TableEvent}
use Rattle.dn_base.specs.Device.{Logged}
use Rattle.dn_base.proofs.Logs.{Logged-none, Logged-then}
use Rattle.dn_net.specs.declared.node.NodeDecl.{NodeDecl}
use Rattle.dn_net.specs.Legal.{IsLegalNet}
use Rattle.dn_kind.specs.declared.rights.Rights.{Rights}
use Rattle.dn_kind.specs.Kind.{Meaning}
use Rattle.dn_kind.specs.Tables.{record_held}
use Rattle.dn_tables.specs.declared.placement.Hop.{Hop}
use Rattle.dn_book.specs.declared.grant.Grant.{Grant}
use Rattle.dn_book.specs.Between.{IsCaught, IsOneOrOther}
use Rattle.dn_book.specs.Book.{records_of}
use Rattle.dn_book.specs.Laws.{IsGrantFor}
use Rattle.dn_book.specs.Writes.{AreAdded, grant_events}
use Rattle.dn_gather.specs.declared.piece.Piece.{Piece}
use Rattle.dn_gather.specs.Commits.{AreCommitted}
use Rattle.dn_gather.specs.Grants.{AreGrantsFor, gather_events, piece_grant, grants_at}
use Rattle.dn_gather.proofs.Coming.{first_comes, others_come, pieces_are_caught}
use Rattle.dn_gather.proofs.Scattering.{placed_count}

-- the events of grants, in two parts

-- whether a fence is due after these grants
abbrev pub fence_due : Bool → List Grant → Bool
fence_due cleared [] = cleared
fence_due cleared (g ∷ gs) = false

none_due : (gs : List Grant) → fence_due false gs ≡ false
none_due [] = refl
none_due (g ∷ gs) = refl

events_append : (net : List NodeDecl) (kinds : List Meaning) (book : List Grant) (cleared : Bool) (gs ks : List Grant) → gather_events net kinds book cleared (gs ++ ks) ≡ gather_events net kinds book cleared gs ++ gather_events net kinds (book ++ gs) (fence_due cleared gs) ks
events_append net kinds book cleared [] ks = ap (λ (b : List Grant). gather_events net kinds b cleared ks) (sym (append-nil book))
events_append net kinds book cleared (g ∷ gs) ks =
    let first : List TableEvent = grant_events net kinds book cleared g in
    ap (λ (es : List TableEvent). first ++ es) (
    events_append net kinds (book ++ g ∷ []) false gs ks
    ∙ ap (λ (b : Bool). gather_events net kinds (book ++ g ∷ []) false gs ++ gather_events net kinds ((book ++ g ∷ []) ++ gs) b ks) (none_due gs)
    ∙ ap (λ (b : List Grant). gather_events net kinds (book ++ g ∷ []) false gs ++ gather_events net kinds b false ks) (append_assoc book (g ∷ []) gs))
    ∙ sym (append_assoc first (gather_events net kinds (book ++ g ∷ []) false gs) (gather_events net kinds (book ++ g ∷ gs) false ks))

module _ (net : List NodeDecl) (kinds : List Meaning) (book : List Grant) (cleared : Bool) (gs : List Grant) where
  -- the events of so many of the grants
  abbrev pub first_events : ℕ → List TableEvent
  first_events k = gather_events net kinds book cleared (take k gs)

  -- the events of one of them, after those before it
  abbrev pub next_events : ℕ → Grant → List TableEvent
  next_events k g = grant_events net kinds (book ++ take k gs) (fence_due cleared (take k gs)) g

  -- so many came in: the live grants are those and the ones before, and their events were logged
  pub record CameIn (k : ℕ) (log log' : Option (List TableEvent)) (live : List Grant) (fenced : Bool) : Type 0 where
    pub appended : live ≡ book ++ take k gs
    pub due : fenced ≡ fence_due cleared (take k gs)
    pub logged : Logged log log' (first_events k)

  pub none_came : (log : Option (List TableEvent)) → CameIn 0 log log book cleared
  none_came log = record { appended = sym (append-nil book); due = refl; logged = Logged-none log log refl }

  -- the events of one more are those of the ones before, and its own
  one_more : (k : ℕ) (d : Grant) → k < length gs → first_events (suc k) ≡ first_events k ++ next_events k (get_or gs k d)
  one_more k d l =
      ap (gather_events net kinds book cleared) (take-suc gs k d l)
      ∙ events_append net kinds book cleared (take k gs) (get_or gs k d ∷ [])
      ∙ ap (λ (es : List TableEvent). first_events k ++ es) (append-nil (next_events k (get_or gs k d)))

  -- all events are those of the first so many, and others
  all_are : (k : ℕ) → (rest : List TableEvent) × (gather_events net kinds book cleared gs ≡ first_events k ++ rest)
  all_are k = (
    gather_events net kinds (book ++ take k gs) (fence_due cleared (take k gs)) (drop k gs),
    ap (gather_events net kinds book cleared) (sym (take-append-drop k gs)) ∙ events_append net kinds book cleared (take k gs) (drop k gs),
  )

  -- what the events of one are, where the book and the fence are known
  its_events : (k : ℕ) (d g : Grant) (live : List Grant) (fenced : Bool) → g ≡ get_or gs k d → live ≡ book ++ take k gs → fenced ≡ fence_due cleared (take k gs) → grant_events net kinds live fenced g ≡ next_events k (get_or gs k d)
  its_events k d g live fenced is on due =
      ap (λ (b : List Grant). grant_events net kinds b fenced g) on
      ∙ ap (λ (f : Bool). grant_events net kinds (book ++ take k gs) f g) due
      ∙ ap (next_events k) is

  -- one more came in
  pub one_came : (k : ℕ) (d g : Grant) (log before after : Option (List TableEvent)) (live next : List Grant) (fenced due : Bool) → k < length gs → g ≡ get_or gs k d → CameIn k log before live fenced → AreAdded (grant_events net kinds live fenced g) false before after → next ≡ live ++ g ∷ [] → due ≡ false → CameIn (k + 1) log after next due
  one_came k d g log before after live next fenced due l is came added more none =
      subst (λ (n : ℕ). CameIn n log after next due) (up k) (record {
        appended = more ∙ ap (λ (b : List Grant). b ++ g ∷ []) came.appended ∙ ap (λ (x : Grant). (book ++ take k gs) ++ x ∷ []) is ∙ append_assoc book (take k gs) (get_or gs k d ∷ []) ∙ ap (λ (b : List Grant). book ++ b) (sym (take-suc gs k d l));
        due = none ∙ sym (ap (fence_due cleared) (take-suc gs k d l) ∙ some_came (take k gs) (get_or gs k d));
        logged = subst (Logged log after) (ap (λ (es : List TableEvent). first_events k ++ es) (its_events k d g live fenced is came.appended came.due) ∙ sym (one_more k d l)) (Logged-then log before after (first_events k) (grant_events net kinds live fenced g) came.logged whole);
      })
    where
      up : (n : ℕ) → suc n ≡ n + 1
      up n = omega arith

      some_came : (xs : List Grant) (x : Grant) → fence_due cleared (xs ++ x ∷ []) ≡ false
      some_came [] x = refl
      some_came (y ∷ xs) x = refl

      whole : Logged before after (grant_events net kinds live fenced g)
      whole = subst (Logged before after) (ap (λ (n : ℕ). take n (grant_events net kinds live fenced g)) (added.all refl) ∙ take-length (grant_events net kinds live fenced g)) added.logged

  -- all came in
  pub all_came : (k : ℕ) (log log' : Option (List TableEvent)) (live : List Grant) (fenced : Bool) (words : List (List ℕ)) → length gs ≤ k → CameIn k log log' live fenced → AreCommitted net kinds book cleared gs false log log' words live
  all_came k log log' live fenced words l came =
      let every : take k gs ≡ gs = take_all k gs l in
      let events : List TableEvent = gather_events net kinds book cleared gs in
      record {
        live = length gs;
        all = λ e. refl;
        less = λ e. cc;
        appended = came.appended ∙ ap (λ (b : List Grant). book ++ b) (every ∙ sym (take-length gs));
        added = record {
          made = length events;
          all = λ e. refl;
          less = λ e. cc;
          logged = subst (Logged log log') (ap (gather_events net kinds book cleared) every ∙ sym (take-length events)) came.logged;
        };
        whole = same_le (length (gather_events net kinds book cleared (take (length gs) gs))) (length events) (ap (λ (b : List Grant). length (gather_events net kinds book cleared b)) (take-length gs));
        within = λ e. cc;
        caught = λ e. cc;
      }
    where
      same_le : (m n : ℕ) → m ≡ n → m ≤ n
      same_le m n e = omega (arith, e)

  -- one stopped
  pub one_stopped : (k : ℕ) (d g : Grant) (log before after : Option (List TableEvent)) (live next : List Grant) (fenced : Bool) (words : List (List ℕ)) → IsLegalNet net → k < length gs → g ≡ get_or gs k d → CameIn k log before live fenced → AreAdded (grant_events net kinds live fenced g) true before after → IsCaught net kinds words live (live ++ g ∷ []) → next ≡ live → AreCommitted net kinds book cleared gs true log after words next
  one_stopped k d g log before after live next fenced words legal l is came added caught same =
      record {
        live = k;
        all = λ e. cc;
        less = λ e. l;
        appended = same ∙ came.appended;
        added = record { made = length (first_events k) + added.made; all = λ e. cc; less = λ e. less; logged = logged };
        whole = omega arith;
        within = λ e. within;
        caught = λ e. pieces_are_caught net book gs k (record_held net kinds words) legal between;
      }
    where
      own : List TableEvent
      own = next_events k (get_or gs k d)

      own_is : grant_events net kinds live fenced g ≡ own
      own_is = its_events k d g live fenced is came.appended came.due

      fewer : added.made < length own
      fewer = let f = added.less refl in let n = ap (λ (es : List TableEvent). length es) own_is in omega (arith, f, n)

      with_own : length (first_events (suc k)) ≡ length (first_events k) + length own
      with_own = ap (λ (es : List TableEvent). length es) (one_more k d l) ∙ length-append (first_events k) own

      within : length (first_events k) + added.made < length (first_events (suc k))
      within = let f = fewer in let n = with_own in omega (arith, f, n)

      less : length (first_events k) + added.made < length (gather_events net kinds book cleared gs)
      less =
          let w = within in
          let n = ap (λ (es : List TableEvent). length es) (all_are (suc k)).1 ∙ length-append (first_events (suc k)) (all_are (suc k)).0 in
          omega (arith, w, n)

      -- all events are those of the ones before, its own, and others
      all_events : gather_events net kinds book cleared gs ≡ first_events k ++ (own ++ (all_are (suc k)).0)
      all_events = (all_are (suc k)).1 ∙ ap (λ (es : List TableEvent). es ++ (all_are (suc k)).0) (one_more k d l) ∙ append_assoc (first_events k) own (all_are (suc k)).0

      logged : Logged log after (take (length (first_events k) + added.made) (gather_events net kinds book cleared gs))
      logged =
          let f = fewer in
          subst (Logged log after)
          (ap (λ (es : List TableEvent). first_events k ++ take added.made es) own_is
          ∙ ap (λ (es : List TableEvent). first_events k ++ es) (sym (take-append-le added.made own (all_are (suc k)).0 (omega (arith, f))))
          ∙ sym (take-append-add (first_events k) (own ++ (all_are (suc k)).0) added.made)
          ∙ ap (take (length (first_events k) + added.made)) (sym all_events))
          (Logged-then log before after (first_events k) (take added.made (grant_events net kinds live fenced g)) came.logged added.logged)

      with_it : live ++ g ∷ [] ≡ book ++ take (suc k) gs
      with_it = ap (λ (b : List Grant). b ++ g ∷ []) came.appended ∙ ap (λ (x : Grant). (book ++ take k gs) ++ x ∷ []) is ∙ append_assoc book (take k gs) (get_or gs k d ∷ []) ∙ ap (λ (b : List Grant). book ++ b) (sym (take-suc gs k d l))

      between : IsOneOrOther net (record_held net kinds words) (records_of net (book ++ take k gs)) (records_of net (book ++ take (suc k) gs))
      between = subst (λ (b : List Grant). IsOneOrOther net (record_held net kinds words) (records_of net (book ++ take k gs)) (records_of net b)) with_it
          (subst (λ (b : List Grant). IsOneOrOther net (record_held net kinds words) (records_of net b) (records_of net (live ++ g ∷ []))) came.appended caught)

-- with no failure all are live
pub all_appended : (net : List NodeDecl) (kinds : List Meaning) (book : List Grant) (cleared : Bool) (gs : List Grant) (log log' : Option (List TableEvent)) (words : List (List ℕ)) (next : List Grant) → AreCommitted net kinds book cleared gs false log log' words next → next ≡ book ++ gs
all_appended net kinds book cleared gs log log' words next done = done.appended ∙ ap (λ (n : ℕ). book ++ take n gs) (done.all refl) ∙ ap (λ (b : List Grant). book ++ b) (take-length gs)

-- the grants of pieces

-- the pieces from one on may still come into the book, and their grants are the others of all
pub record AreLeft (net : List NodeDecl) (agent : ℕ) (rights : Rights) (unit v : ℕ) (ps : List Piece) (hops : List Hop) (k a : ℕ) (live : List Grant) : Type 0 where
  pub come : AreGrantsFor net live agent rights unit a (drop k ps) (drop k hops)
  pub grants : grants_at agent rights a (drop k ps) (drop k hops) ≡ drop k (grants_at agent rights v ps hops)
  pub many : length hops ≡ length ps

module _ (net : List NodeDecl) (agent : ℕ) (rights : Rights) (unit v : ℕ) (ps : List Piece) (hops : List Hop) where
  -- before the first piece
  pub all_left : (live : List Grant) → AreGrantsFor net live agent rights unit v ps hops → AreLeft net agent rights unit v ps hops 0 v live
  all_left live come = record { come = come; grants = refl; many = sym (placed_count net _ agent rights unit v ps hops come.placed) }

  -- there are as many grants as pieces
  pub count_grants : length hops ≡ length ps → length (grants_at agent rights v ps hops) ≡ length ps
  count_grants same = by v ps hops same
    where
      by : (w : ℕ) (qs : List Piece) (ks : List Hop) → length ks ≡ length qs → length (grants_at agent rights w qs ks) ≡ length qs
      by w [] ks e = refl
      by w (q ∷ qs) [] e = absurd (omega arith)
      by w (q ∷ qs) (k ∷ ks) e = ap suc (by (w + q.size) qs ks (omega arith))

  module _ (k a : ℕ) (live : List Grant) (d : Piece) (e : Hop) (l : k < length ps) (left : AreLeft net agent rights unit v ps hops k a live) where
    -- the next piece and those after it may come
    next_come : AreGrantsFor net live agent rights unit a (get_or ps k d ∷ drop (suc k) ps) (get_or hops k e ∷ drop (suc k) hops)
    next_come =
        let m = left.many in
        subst (λ (hs : List Hop). AreGrantsFor net live agent rights unit a (get_or ps k d ∷ drop (suc k) ps) hs) (drop-cons hops k e (omega (arith, m, l)))
        (subst (λ (qs : List Piece). AreGrantsFor net live agent rights unit a qs (drop k hops)) (drop-cons ps k d l) left.come)

    -- their grants
    next_grants : (x : Grant) → piece_grant agent rights a (get_or ps k d) (get_or hops k e) ∷ grants_at agent rights (a + (get_or ps k d).size) (drop (suc k) ps) (drop (suc k) hops) ≡ get_or (grants_at agent rights v ps hops) k x ∷ drop (suc k) (grants_at agent rights v ps hops)
    next_grants x =
        let m = left.many in
        let n = count_grants left.many in
        ap (λ (qs : List Piece). grants_at agent rights a qs (get_or hops k e ∷ drop (suc k) hops)) (sym (drop-cons ps k d l))
        ∙ ap (grants_at agent rights a (drop k ps)) (sym (drop-cons hops k e (omega (arith, m, l))))
        ∙ left.grants
        ∙ drop-cons (grants_at agent rights v ps hops) k x (omega (arith, n, l))

    pub next_comes : IsGrantFor net live (piece_grant agent rights a (get_or ps k d) (get_or hops k e))
    next_comes = first_comes net live agent rights unit a (get_or ps k d) (drop (suc k) ps) (get_or hops k e) (drop (suc k) hops) next_come

    pub next_is : (x : Grant) → piece_grant agent rights a (get_or ps k d) (get_or hops k e) ≡ get_or (grants_at agent rights v ps hops) k x
    next_is x = let same = next_grants x in cc

    pub less_left : (next : List Grant) → next ≡ live ++ piece_grant agent rights a (get_or ps k d) (get_or hops k e) ∷ [] → AreLeft net agent rights unit v ps hops (k + 1) (a + (get_or ps k d).size) next
    less_left next is =
        subst (λ (b : List Grant). AreLeft net agent rights unit v ps hops (k + 1) (a + (get_or ps k d).size) b) (sym is)
        (subst (λ (n : ℕ). AreLeft net agent rights unit v ps hops n (a + (get_or ps k d).size) (live ++ piece_grant agent rights a (get_or ps k d) (get_or hops k e) ∷ [])) (up k) (record {
          come = others_come net live agent rights unit a (get_or ps k d) (drop (suc k) ps) (get_or hops k e) (drop (suc k) hops) next_come;
          grants = (let same = next_grants (piece_grant agent rights a (get_or ps k d) (get_or hops k e)) in cc);
          many = left.many;
        }))
      where
        up : (n : ℕ) → suc n ≡ n + 1
        up n = omega arith

-- after some grants no fence is due
pub fenced : (cleared : Bool) (gs : List Grant) (k : ℕ) → 1 ≤ length gs → length gs ≤ k → fence_due cleared (take k gs) ≡ false
fenced cleared [] k some l = absurd (omega arith)
fenced cleared (g ∷ gs) zero some l = absurd (omega arith)
fenced cleared (g ∷ gs) (suc k) some l = refl
