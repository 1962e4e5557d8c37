-- What is newly shown where records are added in slots that hold none.
use Rattle.std.proofs.Common.{◌≡◌, ℕ, zero, suc, ◌+◌, ◌/◌, ◌^◌, ◌⊎◌, ◌↔◌, inl, inr, List, [], Option, Some, None, IsTrue, refl, sym, subst}
use Rattle.dn_net.specs.declared.node.Name.{Name}
use Rattle.dn_net.specs.declared.node.NodeDecl.{NodeDecl}
use Rattle.dn_net.specs.declared.node.Unit.{Unit as UnitPart}
use Rattle.dn_net.specs.Chain.{Member, IsChain, Reaches}
use Rattle.dn_net.specs.Decode.{is_accepted, is_stop, is_stop_at, unit_at, Resolves, StopsAt}
use Rattle.dn_net.specs.Legal.{IsLegalNet}
use Rattle.dn_net.proofs.Chains.{chain_join}
use Rattle.dn_kind.specs.declared.rights.Access.{Access}
use Rattle.dn_kind.specs.declared.unit_kind.Record.{Record}
use Rattle.dn_kind.specs.Tables.{Held, output, steps_under, StepUnder, ResolvesUnder, AreHeld, Extends, allowing, record_allowing}
use Rattle.dn_kind.proofs.Bounds.{reach_under_is_within}
use Rattle.dn_kind.proofs.Ways.{more_records_keep_names, legal_one_way_to_unit, ends_here}
use Rattle.dn_placement.specs.Records.{or_record, joined_records}
use Rattle.dn_view.specs.Passes.{outputs, outputs_by}
use Rattle.dn_view.specs.Records.{fresh_record, fresh_records}
use Rattle.dn_view.specs.Through.{Through, Newly, ComesNewly, IsShownNewly}
use Rattle.dn_view.proofs.Ways.{UpTo, stop_not_accepted, net_chain, stop_step, step_stop, up_resolves, up_to_three}

-- outputs by other records of the slot
outputs_as : (net : List NodeDecl) (h h' : Held) (s w : Name) → ((u : UnitPart) → unit_at net s.node ≡ Some u → Member w (output u (h s.node (s.addr / 2 ^ u.page)) s.addr) → Member w (output u (h' s.node (s.addr / 2 ^ u.page)) s.addr)) → Member w (outputs net h s) → Member w (outputs net h' s)
outputs_as net h h' s w f m = by (unit_at net s.node) refl m
  where
    by : (o : Option UnitPart) → unit_at net s.node ≡ o → Member w (outputs_by h s o) → Member w (outputs_by h' s o)
    by None e n = n
    by (Some u) e n = f u e n

output_more : (u : UnitPart) (o p : Option Record) (a : ℕ) (w : Name) → ((r : Record) → o ≡ Some r → p ≡ Some r) → Member w (output u o a) → Member w (output u p a)
output_more u None p a w f m = absurd m
output_more u (Some r) p a w f m = subst (λ q. Member w (output u q a)) (sym (f r refl)) m

module _ (h added : Held) (access : Access) where
  abbrev old : Held
  old = allowing access h

  abbrev fresh : Held
  fresh = allowing access (fresh_records h added)

  abbrev all : Held
  all = allowing access (joined_records h added)

  old_in_all : Extends old all
  old_in_all node slot r e = by (h node slot) e
    where
      by : (o : Option Record) → record_allowing access o ≡ Some r → record_allowing access (or_record o (added node slot)) ≡ Some r
      by None f = cc
      by (Some t) f = f

  fresh_in_all : Extends fresh all
  fresh_in_all node slot r e = by (h node slot) e
    where
      by : (o : Option Record) → record_allowing access (fresh_record o (added node slot)) ≡ Some r → record_allowing access (or_record o (added node slot)) ≡ Some r
      by None f = f
      by (Some t) f = cc

  -- where there is a fresh record there is none of the first
  fresh_is_alone : (node slot : ℕ) (r : Record) → fresh node slot ≡ Some r → old node slot ≡ None
  fresh_is_alone node slot r e = by (h node slot) e
    where
      by : (o : Option Record) → record_allowing access (fresh_record o (added node slot)) ≡ Some r → record_allowing access o ≡ None
      by None f = refl
      by (Some t) f = cc

  -- what is passed on by all is passed on by the first or by a fresh one
  module _ (net : List NodeDecl) where
    outputs_parted : (s w : Name) → Member w (outputs net all s) → Member w (outputs net old s) ⊎ Member w (outputs net fresh s)
    outputs_parted s w m = by (unit_at net s.node) m
      where
        parted : (u : UnitPart) (o p : Option Record) → Member w (output u (record_allowing access (or_record o p)) s.addr) → Member w (output u (record_allowing access o) s.addr) ⊎ Member w (output u (record_allowing access (fresh_record o p)) s.addr)
        parted u None p n = inr n
        parted u (Some r) p n = inl n

        by : (o : Option UnitPart) → Member w (outputs_by all s o) → Member w (outputs_by old s o) ⊎ Member w (outputs_by fresh s o)
        by None n = absurd n
        by (Some u) n = parted u (h s.node (s.addr / 2 ^ u.page)) (added s.node (s.addr / 2 ^ u.page)) n

    old_passes : (s w : Name) → Member w (outputs net old s) → Member w (outputs net all s)
    old_passes s w m = outputs_as net old all s w (λ u e n. output_more u (old s.node (s.addr / 2 ^ u.page)) (all s.node (s.addr / 2 ^ u.page)) s.addr w (λ r f. old_in_all s.node (s.addr / 2 ^ u.page) r f) n) m

    fresh_passes : (s w : Name) → Member w (outputs net fresh s) → Member w (outputs net all s)
    fresh_passes s w m = outputs_as net fresh all s w (λ u e n. output_more u (fresh s.node (s.addr / 2 ^ u.page)) (all s.node (s.addr / 2 ^ u.page)) s.addr w (λ r f. fresh_in_all s.node (s.addr / 2 ^ u.page) r f) n) m

    module _ (legal : IsLegalNet net) (held : AreHeld net all) where
      -- through all: through the first, or newly
      parts : (n : ℕ) (s z : Name) → Through net all n s z → Through net old n s z ⊎ Newly net old fresh all n s z
      parts zero s z t = absurd t
      parts (suc n) s z t = by (outputs_parted s t.0 t.1) t.2 (λ v. parts n v z)
        where
          w : Name
          w = t.0

          on : Member w (outputs net old s) → (Resolves net w z ⊎ ((v : Name) × StopsAt net w v × Through net all n v z)) → ((v : Name) → Through net all n v z → Through net old n v z ⊎ Newly net old fresh all n v z) → Through net old (suc n) s z ⊎ Newly net old fresh all (suc n) s z
          on m (inl r) later = inl (w, m, inl r)
          on m (inr v) later = elim (later v.0 v.2) [ inl k ↦ inl (w, m, inr (v.0, v.1, k)) | inr k ↦ inr (inr (w, m, (v.0, v.1, k))) ]

          by : Member w (outputs net old s) ⊎ Member w (outputs net fresh s) → (Resolves net w z ⊎ ((v : Name) × StopsAt net w v × Through net all n v z)) → ((v : Name) → Through net all n v z → Through net old n v z ⊎ Newly net old fresh all n v z) → Through net old (suc n) s z ⊎ Newly net old fresh all (suc n) s z
          by (inl m) r later = on m r later
          by (inr m) r later = inr (inl (w, m, up_resolves net legal all held n w z r))

      -- a chain under all records
      joins : (x t w z : Name) → StopsAt net x t → Member w (outputs net all t) → ResolvesUnder net all w z → ResolvesUnder net all x z
      joins x t w z st m r =
          let rest : IsChain (StepUnder net all) (suc r.1.0) t z = (w, stop_step net legal all t w st.0 m, r.1.2) in
          let whole = chain_join (StepUnder net all) st.1.0 (suc r.1.0) x t z (net_chain net legal all st.1.0 x t st.1.2) rest in
          (r.0, reach_under_is_within net all legal held x z (st.1.0 + suc r.1.0, whole))

      newly_passes : (n : ℕ) (s z : Name) → Newly net old fresh all n s z → (w : Name) × Member w (outputs net all s) × ResolvesUnder net all w z
      newly_passes zero s z k = absurd k
      newly_passes (suc n) s z (inl k) = (k.0, fresh_passes s k.0 k.1, k.2)
      newly_passes (suc n) s z (inr k) =
          let v = newly_passes n k.2.0 z k.2.2 in
          (k.0, old_passes s k.0 k.1, joins k.0 k.2.0 v.0 z k.2.1 v.1 v.2)

      -- a fresh slot is reached by the first records
      record IsBlocked (s : Name) : Type 0 where
        end : Name
        stop : IsTrue (is_stop net end)
        reaches : Reaches (StepUnder net old) s end
        none : (w : Name) → StepUnder net old end w → ⊥

      empty_slot : (s w : Name) → IsTrue (is_stop net s) → Member w (outputs net fresh s) → (v : Name) → StepUnder net old s v → ⊥
      empty_slot s w stop m v step = by (unit_at net s.node) refl stop m
        where
          by : (o : Option UnitPart) → unit_at net s.node ≡ o → IsTrue (is_stop_at s.addr o) → Member w (outputs_by fresh s o) → ⊥
          by None e t n = cc
          by (Some u) e t n = through (fresh s.node (s.addr / 2 ^ u.page)) refl n
            where
              through : (o : Option Record) → fresh s.node (s.addr / 2 ^ u.page) ≡ o → Member w (output u o s.addr) → ⊥
              through None f k = absurd k
              through (Some r) f k =
                  let d = (step_stop net legal old s v u e step).1 in
                  let d' : Member v (outputs_by old s (Some u)) = subst (λ o. Member v (outputs_by old s o)) e d in
                  let d'' : Member v (output u None s.addr) = subst (λ o. Member v (output u o s.addr)) (fresh_is_alone s.node (s.addr / 2 ^ u.page) r f) d' in
                  absurd d''

      newly_blocked : (n : ℕ) (s z : Name) → IsTrue (is_stop net s) → Newly net old fresh all n s z → IsBlocked s
      newly_blocked zero s z stop k = absurd k
      newly_blocked (suc n) s z stop (inl k) = record { end = s; stop = stop; reaches = (0, refl); none = empty_slot s k.0 stop k.1 }
      newly_blocked (suc n) s z stop (inr k) =
          let b = newly_blocked n k.2.0 z k.2.1.0 k.2.2 in
          let first : IsChain (StepUnder net old) k.2.1.1.0 k.0 k.2.0 = net_chain net legal old k.2.1.1.0 k.0 k.2.0 k.2.1.1.2 in
          let on = chain_join (StepUnder net old) k.2.1.1.0 b.reaches.0 k.0 k.2.0 b.end first b.reaches.1 in
          record { end = b.end; stop = b.stop; reaches = (suc (k.2.1.1.0 + b.reaches.0), (k.0, stop_step net legal old s k.0 stop k.1, on)); none = b.none }

      -- a name that reaches an empty slot resolves to nothing
      pub blocked : (x t y : Name) → IsTrue (is_stop net t) → Reaches (StepUnder net old) x t → ((w : Name) → StepUnder net old t w → ⊥) → ResolvesUnder net old x y → ⊥
      blocked x t y stop r none res = by (legal_one_way_to_unit net old legal x t y r.0 res.1.0 stop r.1 res.1.2)
        where
          back : (d : ℕ) → IsChain (StepUnder net old) d y t → ⊥
          back zero c = stop_not_accepted net legal t stop (subst (λ n. IsTrue (is_accepted net n)) c res.0)
          back (suc d) c = let e : steps_under net old y ≡ [] = ends_here net old legal.is_net.formed y res.0 in absurd (subst (λ l. Member c.0 l) e c.1)

          onto : (d : ℕ) → IsChain (StepUnder net old) d t y → ⊥
          onto zero c = stop_not_accepted net legal t stop (subst (λ n. IsTrue (is_accepted net n)) (sym c) res.0)
          onto (suc d) c = none c.0 c.1

          by : ((d : ℕ) × (r.0 ≡ res.1.0 + d) × IsChain (StepUnder net old) d y t) ⊎ ((d : ℕ) × (res.1.0 ≡ r.0 + d) × IsChain (StepUnder net old) d t y) → ⊥
          by (inl k) = back k.0 k.2
          by (inr k) = onto k.0 k.2

      -- what a name resolves to under all records it resolves to under the first, or newly
      pub resolves_all : AreHeld net old → (x z : Name) → ResolvesUnder net all x z ↔ (ResolvesUnder net old x z ⊎ IsShownNewly net old fresh all x z)
      unfolding ComesNewly
      resolves_all first x z = (into, back)
        where
          up : UpTo net all 3 x z → ResolvesUnder net old x z ⊎ ((t : Name) × StopsAt net x t × Newly net old fresh all 3 t z)
          up (inl r) = inl (up_resolves net legal old first 3 x z (inl r))
          up (inr r) = elim (parts 3 r.0 z r.2) [ inl k ↦ inl (up_resolves net legal old first 3 x z (inr (r.0, r.1, k))) | inr k ↦ inr (r.0, r.1, k) ]

          into : ResolvesUnder net all x z → ResolvesUnder net old x z ⊎ ((t : Name) × StopsAt net x t × Newly net old fresh all 3 t z)
          into r = up ((up_to_three net legal all held x z).0 r)

          back : ResolvesUnder net old x z ⊎ ((t : Name) × StopsAt net x t × Newly net old fresh all 3 t z) → ResolvesUnder net all x z
          back (inl r) = more_records_keep_names net old all old_in_all x z r
          back (inr k) = let v = newly_passes 3 k.0 z k.2 in joins x k.0 v.0 z k.1 v.1 v.2

      -- not both
      pub newly_is_new : (x y z : Name) → IsShownNewly net old fresh all x z → ResolvesUnder net old x y → ⊥
      unfolding ComesNewly
      newly_is_new x y z k res =
          let b = newly_blocked 3 k.0 z k.1.0 k.2 in
          let first : IsChain (StepUnder net old) k.1.1.0 x k.0 = net_chain net legal old k.1.1.0 x k.0 k.1.1.2 in
          blocked x b.end y b.stop (k.1.1.0 + b.reaches.0, chain_join (StepUnder net old) k.1.1.0 b.reaches.0 x k.0 b.end first b.reaches.1) b.none res
