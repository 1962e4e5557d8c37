-- The moments of a script: between the records of which books those lie that its tables hold.
use Rattle.std.proofs.Common.{◌≡◌, ◌∙◌, ap, sym, subst, refl, ℕ, zero, suc, ◌+◌, ◌-◌, ◌≤◌, ◌⊎◌, inl, inr, Bool, true, false, if◌then◌else◌, nat_le, nat_eq, List, [], ◌∷◌, ◌++◌, length, take, IsTrue, append_assoc, append-nil, arith, leb-true, eqb-true}
use Rattle.std.specs.List.{All}
use Rattle.std.proofs.lemmas.List.{length-append, take-append-le}
use Rattle.std.proofs.Math.Seq.{take-append-add}
use Rattle.dn_base.specs.declared.device.TableEvent.{TableEvent}
use Rattle.dn_net.specs.declared.node.NodeDecl.{NodeDecl}
use Rattle.dn_net.specs.Chain.{Member}
use Rattle.dn_kind.specs.Kind.{IsLawful, Meaning}
use Rattle.dn_kind.specs.Tables.{Extends, Held, record_held}
use Rattle.dn_kind.specs.Units.{IsLegalWith}
use Rattle.dn_book.specs.declared.grant.Grant.{Grant as GrantPart}
use Rattle.dn_book.specs.Book.{IsSound, records_of, without_id}
use Rattle.dn_book.specs.Events.{after_events, held_at}
use Rattle.dn_book.specs.Going.{AreGoing}
use Rattle.dn_book.specs.Laws.{IsGrantFor}
use Rattle.dn_book.specs.Tables.{tables_of}
use Rattle.dn_book.specs.Writes.{grant_events, revoke_events}
use Rattle.dn_book.proofs.Begun.{tables_hold_records}
use Rattle.dn_book.proofs.Commands.{grant_leads_over, revoke_leads_over}
use Rattle.dn_book.proofs.Faithful.{grant_keeps_book}
use Rattle.dn_book.proofs.Going.{after_append, going_append}
use Rattle.dn_kind.specs.declared.rights.Rights.{Rights}
use Rattle.dn_kind.specs.Rights.{are_rights}
use Rattle.dn_tables.specs.declared.placement.Hop.{Hop}
use Rattle.dn_gather.specs.declared.piece.Piece.{Piece}
use Rattle.dn_gather.specs.declared.scatter.Scatter.{Scatter}
use Rattle.dn_gather.specs.Gather.{IsScattered, grants_of}
use Rattle.dn_gather.specs.Grants.{AreGrantsFor, gather_events, piece_grant, grants_at}
use Rattle.dn_gather.proofs.Allowed.{scattered_grants}
use Rattle.dn_gather.proofs.Coming.{pieces_come_in_turn}
use Rattle.dn_script.specs.Books.{IsKeptFaithful}
use Rattle.dn_script.specs.Flown.{books_at}
use Rattle.dn_script.specs.Turn.{State, Turn, cleared_after, events_of}

-- records lie between those of two books
abbrev pub LieBetween : List NodeDecl → Held → List GrantPart → List GrantPart → Type 0
LieBetween net h low high = Extends (records_of net low) h × Extends h (records_of net high)

-- What events that lead from one book to the next do to the tables: they go as they should and lead to the tables of the next
-- book, after each number of them the tables hold records between those of the two books, and the next book is sound and faithful.
pub record GoesOn (kinds : List Meaning) (net : List NodeDecl) (book : List GrantPart) (cleared : Bool) (events : List TableEvent) (next : List GrantPart) (last : Bool) : Type 0 where
  pub going : AreGoing net kinds (tables_of net kinds book) cleared events last
  pub leaves : after_events events (tables_of net kinds book) ≡ tables_of net kinds next
  pub between : (d : ℕ) → d ≤ length events →
      LieBetween net (held_at net kinds (tables_of net kinds book) events d) book next
      ⊎ LieBetween net (held_at net kinds (tables_of net kinds book) events d) next book
  pub kept : IsKeptFaithful net next

-- so does a turn
abbrev pub TurnGoesOn : List Meaning → List NodeDecl → State → Turn → Type 0
TurnGoesOn kinds net s t = GoesOn kinds net s.book s.cleared t.events t.next.book t.next.cleared

-- so do turns, one after the other
abbrev pub TurnsGoOn : List Meaning → List NodeDecl → State → List Turn → Type 0
TurnsGoOn kinds net s [] = Unit {0}
TurnsGoOn kinds net s (t ∷ ts) = TurnGoesOn kinds net s t × TurnsGoOn kinds net t.next ts

-- Two of the books of a moment, between whose records others lie.
pub record IsBracketed (net : List NodeDecl) (h : Held) (books : List (List GrantPart)) : Type 0 where
  pub low : List GrantPart
  pub high : List GrantPart
  pub has_low : Member low books
  pub has_high : Member high books
  pub kept_low : IsKeptFaithful net low
  pub kept_high : IsKeptFaithful net high
  pub lie : LieBetween net h low high

-- the events of turns go as they should
pub going : (kinds : List Meaning) (net : List NodeDecl) (s : State) (turns : List Turn) → TurnsGoOn kinds net s turns → (last : Bool) × AreGoing net kinds (tables_of net kinds s.book) s.cleared (events_of turns) last
going kinds net s [] g = (s.cleared, λ e. e)
going kinds net s (t ∷ ts) g =
    let r = going kinds net t.next ts g.1 in
    (r.0, going_append net kinds (tables_of net kinds s.book) s.cleared t.next.cleared r.0 t.events (events_of ts) g.0.going (subst (λ ws. AreGoing net kinds ws t.next.cleared (events_of ts) r.0) (sym g.0.leaves) r.1))

module _ (kinds : List Meaning) (net : List NodeDecl) (lawful : All IsLawful kinds) (legal : IsLegalWith kinds net) where
  -- the tables of a sound book hold its records
  at_book : (book : List GrantPart) → IsSound net book → LieBetween net (record_held net kinds (tables_of net kinds book)) book book
  at_book book sound = ((λ n q r e. holds n q ∙ e), (λ n q r e. sym (holds n q) ∙ e))
    where
      holds : (n q : ℕ) → record_held net kinds (tables_of net kinds book) n q ≡ records_of net book n q
      holds = tables_hold_records net kinds book legal.legal legal.shaped lawful sound

  -- what is held after some of the events of two lists: those of the first alone, or all of these and some of the second
  held_front : (es fs : List TableEvent) (words : List (List ℕ)) (d : ℕ) → d ≤ length es → ◌≡◌ {A = Held} (held_at net kinds words es d) (held_at net kinds words (es ++ fs) d)
  held_front es fs words d l = ap (λ xs. record_held net kinds (after_events xs words)) (sym (take-append-le d es fs l))

  held_later : (es fs : List TableEvent) (words next : List (List ℕ)) (d : ℕ) → after_events es words ≡ next → length es ≤ d → ◌≡◌ {A = Held} (held_at net kinds next fs (d - length es)) (held_at net kinds words (es ++ fs) d)
  held_later es fs words next d leaves l =
      let later : ℕ = d - length es in
      let e : length es + later ≡ d = omega arith in
      ap (λ ws. record_held net kinds (after_events (take later fs) ws)) (sym leaves)
      ∙ ap (λ ws. record_held net kinds ws) (sym (after_append es (take later fs) words))
      ∙ ap (λ xs. record_held net kinds (after_events xs words)) (sym (take-append-add es fs later))
      ∙ ap (λ i. record_held net kinds (after_events (take i (es ++ fs)) words)) e

  -- a grant, a revoke, and what changes nothing

  pub grant_goes_on : (book : List GrantPart) (cleared : Bool) (g : GrantPart) → IsKeptFaithful net book → IsGrantFor net book g → IsKeptFaithful net (book ++ g ∷ []) → GoesOn kinds net book cleared (grant_events net kinds book cleared g) (book ++ g ∷ []) false
  grant_goes_on book cleared g k f next =
      let l = grant_leads_over net kinds book g cleared legal.legal legal.shaped lawful k.sound f in
      record { going = l.going; leaves = l.leaves; between = λ d m. inl (l.between d m); kept = next }

  -- grants of pieces, one after another

  -- What events that only add records do to the tables of a sound book: they go as they should and lead to the tables of the
  -- next book, and after each number of them the tables hold records between those of the two.
  pub record Rises (book : List GrantPart) (cleared : Bool) (events : List TableEvent) (next : List GrantPart) (last : Bool) : Type 0 where
    pub going : AreGoing net kinds (tables_of net kinds book) cleared events last
    pub leaves : after_events events (tables_of net kinds book) ≡ tables_of net kinds next
    pub between : (d : ℕ) → d ≤ length events → LieBetween net (held_at net kinds (tables_of net kinds book) events d) book next

  -- no event
  rises_none : (book : List GrantPart) (cleared : Bool) → IsSound net book → Rises book cleared [] book cleared
  rises_none book cleared sound = record { going = λ f. f; leaves = refl; between = λ d m. still d m }
    where
      still : (d : ℕ) → d ≤ 0 → LieBetween net (held_at net kinds (tables_of net kinds book) [] d) book book
      still zero m = at_book book sound
      still (suc d) m = absurd (omega arith)

  -- a grant
  rises_one : (book : List GrantPart) (cleared : Bool) (g : GrantPart) → IsSound net book → IsGrantFor net book g → Rises book cleared (grant_events net kinds book cleared g) (book ++ g ∷ []) false
  rises_one book cleared g sound f =
      let l = grant_leads_over net kinds book g cleared legal.legal legal.shaped lawful sound f in
      record { going = l.going; leaves = l.leaves; between = l.between }

  -- events that rise, and then others that do
  rises_then : (a b c : List GrantPart) (es fs : List TableEvent) (x y z : Bool) → IsSound net b → Rises a x es b y → Rises b y fs c z → Rises a x (es ++ fs) c z
  rises_then a b c es fs x y z sound r s = record {
    going = going_append net kinds first x y z es fs r.going (subst (λ ws. AreGoing net kinds ws y fs z) (sym r.leaves) s.going);
    leaves = after_append es fs first ∙ ap (after_events fs) r.leaves ∙ s.leaves;
    between = λ d m. by d m (cases (length es) d);
  }
    where
      first : List (List ℕ)
      first = tables_of net kinds a

      -- the records of the books ascend
      low : Extends (records_of net a) (records_of net b)
      low = λ n q e f. r_end.1 n q e (r_end.0 n q e f)
        where
          r_end : LieBetween net (held_at net kinds first es (length es)) a b
          r_end = r.between (length es) (omega arith)

      high : Extends (records_of net b) (records_of net c)
      high = λ n q e f. s_end.1 n q e (s_end.0 n q e f)
        where
          s_end : LieBetween net (held_at net kinds (tables_of net kinds b) fs 0) b c
          s_end = s.between 0 (omega arith)

      cases : (n d : ℕ) → (d ≤ n) ⊎ (n ≤ d)
      cases n d = grind arith

      by : (d : ℕ) → d ≤ length (es ++ fs) → (d ≤ length es) ⊎ (length es ≤ d) → LieBetween net (held_at net kinds first (es ++ fs) d) a c
      by d m (inl l) =
          let lie = subst (λ (h : Held). LieBetween net h a b) (held_front es fs first d l) (r.between d l) in
          (lie.0, λ n q e f. high n q e (lie.1 n q e f))
      by d m (inr l) =
          let total : length (es ++ fs) ≡ length es + length fs = length-append es fs in
          let lie = subst (λ (h : Held). LieBetween net h b c) (held_later es fs first (tables_of net kinds b) d r.leaves l) (s.between (d - length es) (omega arith)) in
          (λ n q e f. lie.0 n q e (low n q e f), lie.1)

  -- where no record was cleared before grants, none was after them
  uncleared : (gs : List GrantPart) → cleared_after false gs ≡ false
  uncleared [] = refl
  uncleared (g ∷ gs) = refl

  -- the grants of pieces
  pieces_rise : (agent : ℕ) (rights : Rights) (unit : ℕ) (book : List GrantPart) (cleared : Bool) (v : ℕ) (ps : List Piece) (hops : List Hop) → IsSound net book → AreGrantsFor net book agent rights unit v ps hops → Rises book cleared (gather_events net kinds book cleared (grants_at agent rights v ps hops)) (book ++ grants_at agent rights v ps hops) (cleared_after cleared (grants_at agent rights v ps hops))
  pieces_rise agent rights unit book cleared v [] hops sound f = subst (λ (b : List GrantPart). Rises book cleared [] b cleared) (sym (append-nil book)) (rises_none book cleared sound)
  pieces_rise agent rights unit book cleared v (p ∷ ps) [] sound f = absurd f.placed
  pieces_rise agent rights unit book cleared v (p ∷ ps) (hop ∷ hops) sound f =
      let g : GrantPart = piece_grant agent rights v p hop in
      let gs : List GrantPart = grants_at agent rights (v + p.size) ps hops in
      let after : List GrantPart = book ++ g ∷ [] in
      let es : List TableEvent = grant_events net kinds book cleared g in
      let fs : List TableEvent = gather_events net kinds after false gs in
      let first : IsGrantFor net book g = pieces_come_in_turn.first net book agent rights unit v p ps hop hops f in
      let still : IsSound net after = (grant_keeps_book net book g legal.legal sound first).0 in
      let rest = pieces_rise agent rights unit after false (v + p.size) ps hops still (pieces_come_in_turn.others net book agent rights unit v p ps hop hops f) in
      subst (λ (b : List GrantPart). Rises book cleared (es ++ fs) b false) (append_assoc book (g ∷ []) gs)
      (rises_then book after (after ++ gs) es fs cleared false false still (rises_one book cleared g sound first) (subst (λ (l : Bool). Rises after false fs (after ++ gs) l) (uncleared gs) rest))

  pub gather_goes_on : (book : List GrantPart) (cleared : Bool) (agent : ℕ) (rights : Rights) (ps : List Piece) (place : Scatter) → IsKeptFaithful net book → IsTrue (are_rights rights) → IsScattered net book agent rights ps place → IsKeptFaithful net (book ++ grants_of agent rights ps place) → GoesOn kinds net book cleared (gather_events net kinds book cleared (grants_of agent rights ps place)) (book ++ grants_of agent rights ps place) (cleared_after cleared (grants_of agent rights ps place))
  gather_goes_on book cleared agent rights ps place k allowed placed next =
      let r = pieces_rise agent rights place.unit book cleared place.v ps place.hops k.sound (scattered_grants net book agent rights ps place allowed placed) in
      record { going = r.going; leaves = r.leaves; between = λ d m. inl (r.between d m); kept = next }

  pub revoke_goes_on : (book : List GrantPart) (cleared : Bool) (g : GrantPart) → IsKeptFaithful net book → Member g book → IsKeptFaithful net (without_id g.id book) → GoesOn kinds net book cleared (revoke_events net kinds book g) (without_id g.id book) true
  revoke_goes_on book cleared g k lives next =
      let l = revoke_leads_over net kinds book g cleared legal.legal legal.shaped lawful k.sound lives in
      record { going = l.going; leaves = l.leaves; between = λ d m. inr (l.between d m); kept = next }

  pub still_goes_on : (book : List GrantPart) (cleared : Bool) → IsKeptFaithful net book → GoesOn kinds net book cleared [] book cleared
  still_goes_on book cleared k = record { going = λ f. f; leaves = refl; between = λ d m. inl (still d m); kept = k }
    where
      still : (d : ℕ) → d ≤ 0 → LieBetween net (held_at net kinds (tables_of net kinds book) [] d) book book
      still zero m = at_book book k.sound
      still (suc d) m = absurd (omega arith)

  -- at each moment of turns the tables hold records between those of two books of which it speaks
  pub bracketed : (s : State) (turns : List Turn) → IsKeptFaithful net s.book → TurnsGoOn kinds net s turns → (d : ℕ) → d ≤ length (events_of turns) → IsBracketed net (held_at net kinds (tables_of net kinds s.book) (events_of turns) d) (books_at s.book turns d)
  bracketed s [] k g zero l = record { low = s.book; high = s.book; has_low = inl refl; has_high = inl refl; kept_low = k; kept_high = k; lie = at_book s.book k.sound }
  bracketed s [] k g (suc d) l = absurd (omega arith)
  bracketed s (t ∷ ts) k g d l = by (nat_le (length t.events) d) refl (bracketed t.next ts g.0.kept g.1)
    where
      first : List (List ℕ)
      first = tables_of net kinds s.book

      all : List TableEvent
      all = events_of (t ∷ ts)

      inside : d ≤ length t.events → (b : Bool) → nat_eq d 0 ≡ b → IsBracketed net (held_at net kinds first all d) (if b then s.book ∷ [] else s.book ∷ t.next.book ∷ [])
      inside m true e = record {
        low = s.book;
        high = s.book;
        has_low = inl refl;
        has_high = inl refl;
        kept_low = k;
        kept_high = k;
        lie = subst (λ i. LieBetween net (held_at net kinds first all i) s.book s.book) (sym (eqb-true d 0 e)) (at_book s.book k.sound);
      }
      inside m false e = elim (g.0.between d m) [
        | inl x ↦ record { low = s.book; high = t.next.book; has_low = inl refl; has_high = inr (inl refl); kept_low = k; kept_high = g.0.kept; lie = subst (λ (h : Held). LieBetween net h s.book t.next.book) same x }
        | inr x ↦ record { low = t.next.book; high = s.book; has_low = inr (inl refl); has_high = inl refl; kept_low = g.0.kept; kept_high = k; lie = subst (λ (h : Held). LieBetween net h t.next.book s.book) same x }
      ]
        where
          same : ◌≡◌ {A = Held} (held_at net kinds first t.events d) (held_at net kinds first all d)
          same = held_front t.events (events_of ts) first d m

      by : (b : Bool) → nat_le (length t.events) d ≡ b → ((e : ℕ) → e ≤ length (events_of ts) → IsBracketed net (held_at net kinds (tables_of net kinds t.next.book) (events_of ts) e) (books_at t.next.book ts e)) → IsBracketed net (held_at net kinds first all d) (if b then books_at t.next.book ts (d - length t.events) else if nat_eq d 0 then s.book ∷ [] else s.book ∷ t.next.book ∷ [])
      by true e rest =
          let le : length t.events ≤ d = leb-true (length t.events) d e in
          let total : length all ≡ length t.events + length (events_of ts) = length-append t.events (events_of ts) in
          subst (λ (h : Held). IsBracketed net h (books_at t.next.book ts (d - length t.events))) (held_later t.events (events_of ts) first (tables_of net kinds t.next.book) d g.0.leaves le) (rest (d - length t.events) (omega arith))
      by false e rest = inside (above (length t.events) d e) (nat_eq d 0) refl
        where
          above : (n d : ℕ) → nat_le n d ≡ false → d ≤ n
          above n d e = grind arith
