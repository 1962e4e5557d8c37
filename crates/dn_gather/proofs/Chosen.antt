-- The first hops of all pieces, each the first for its piece, are the first scattered placement.
use Rattle.std.proofs.Common.{suc, ◌≡◌, ℕ, ◌+◌, ◌*◌, ◌<◌, ◌⊎◌, inl, inr, Bool, true, false, ◌&&◌, ◌||◌, not, nat_eq, nat_lt, List, [], ◌∷◌, ◌++◌, length, None, IsTrue, refl, sym, ap, ◌∙◌, subst, arith}
use Rattle.std.specs.List.{flat_map}
use Rattle.std.proofs.lemmas.Bool.{cases_order, eqb-true}
use Rattle.dn_base.proofs.Booleans.{not-true}
use Rattle.dn_net.specs.declared.node.NodeDecl.{NodeDecl}
use Rattle.dn_net.specs.Legal.{IsLegalNet}
use Rattle.dn_kind.specs.declared.rights.Rights.{Rights}
use Rattle.dn_kind.specs.Rights.{are_rights}
use Rattle.dn_kind.specs.Tables.{AreHeld}
use Rattle.dn_tables.specs.declared.placement.Hop.{Hop}
use Rattle.dn_placement.specs.Keys.{comes_before}
use Rattle.dn_placement.specs.Slots.{Slots}
use Rattle.dn_placement.proofs.Keys.{neither, not_before, same_front}
use Rattle.dn_gather.specs.declared.piece.Piece.{Piece}
use Rattle.dn_gather.specs.declared.scatter.Scatter.{Scatter}
use Rattle.dn_gather.specs.Firsts.{AreFirstHops, AreSuitedHops, FirstHopsAreFirst, NoneAt, hop_key}
use Rattle.dn_gather.specs.Scattered.{AreEachAdmissible, ArePlaced, FirstScatterIsOne, IsFirstScatter, IsSuitedScatter, NoneScattered, scatter_key}
use Rattle.dn_gather.proofs.Scattering.{placed_count, whole_is_piece_by_piece}

-- the first hops of all pieces

-- a list that does not come before another, both with more behind, where they are not before it either
before_more : (a b c d : List ℕ) → length a ≡ length c → comes_before a c ≡ false → (a ≡ c → comes_before b d ≡ false) → comes_before (a ++ b) (c ++ d) ≡ false
before_more [] b [] d e f g = g refl
before_more [] b (z ∷ c) d e f g = absurd (omega arith)
before_more (x ∷ a) b [] d e f g = absurd (omega arith)
before_more (x ∷ a) b (z ∷ c) d e f g = by (nat_lt x z) (nat_eq x z) refl refl f (λ same k. before_more a b c d (omega arith) k (λ s. g (heads x z a c same s)))
  where
    by : (l q : Bool) → nat_lt x z ≡ l → nat_eq x z ≡ q → (l || (q && comes_before a c)) ≡ false → (x ≡ z → comes_before a c ≡ false → comes_before (a ++ b) (c ++ d) ≡ false) → (l || (q && comes_before (a ++ b) (c ++ d))) ≡ false
    by true q lt eq k on = cc
    by false false lt eq k on = refl
    by false true lt eq k on = on (eqb-true x z eq) k

    heads : (x z : ℕ) (a c : List ℕ) → x ≡ z → a ≡ c → x ∷ a ≡ z ∷ c
    heads x z a c p q = ap (λ n. n ∷ a) p ∙ ap (λ l. z ∷ l) q

abbrev pub hops_keys : List Hop → List ℕ
hops_keys hops = flat_map (λ (h : Hop). h.port ∷ h.y ∷ h.x ∷ []) hops

-- no hops that are admissible piece by piece come before the first ones
pub first_least : (net : List NodeDecl) (slots : Slots) (agent : ℕ) (rights : Rights) (unit v : ℕ) (ps : List Piece) (hops ks : List Hop) → AreFirstHops net slots agent rights unit v ps hops → AreSuitedHops net slots agent rights unit v ps ks → comes_before (hops_keys ks) (hops_keys hops) ≡ false
first_least net slots agent rights unit v [] [] [] f s = refl
first_least net slots agent rights unit v [] [] (k ∷ ks) f s = absurd s
first_least net slots agent rights unit v [] (h ∷ hops) ks f s = absurd f
first_least net slots agent rights unit v (p ∷ ps) [] ks f s = absurd f
first_least net slots agent rights unit v (p ∷ ps) (h ∷ hops) [] f s = absurd s
first_least net slots agent rights unit v (p ∷ ps) (h ∷ hops) (k ∷ ks) f s =
    before_more (hop_key k) (hops_keys ks) (hop_key h) (hops_keys hops) refl (f.0.least k s.0) (λ e. first_least net slots agent rights unit (v + p.size) ps hops ks f.2 s.2)

-- hops that are admissible piece by piece, as placements and by themselves

pub first_suited : (net : List NodeDecl) (slots : Slots) (agent : ℕ) (rights : Rights) (unit v : ℕ) (ps : List Piece) (hops : List Hop) → AreFirstHops net slots agent rights unit v ps hops → AreSuitedHops net slots agent rights unit v ps hops
first_suited net slots agent rights unit v [] [] f = tt
first_suited net slots agent rights unit v [] (h ∷ hops) f = absurd f
first_suited net slots agent rights unit v (p ∷ ps) [] f = absurd f
first_suited net slots agent rights unit v (p ∷ ps) (h ∷ hops) f = (f.0.suited, f.1, first_suited net slots agent rights unit (v + p.size) ps hops f.2)

pub suited_placed : (net : List NodeDecl) (slots : Slots) (agent : ℕ) (rights : Rights) (unit v : ℕ) (ps : List Piece) (hops : List Hop) → AreSuitedHops net slots agent rights unit v ps hops → ArePlaced net slots agent rights unit v ps hops
suited_placed net slots agent rights unit v [] [] s = tt
suited_placed net slots agent rights unit v [] (h ∷ hops) s = absurd s
suited_placed net slots agent rights unit v (p ∷ ps) [] s = absurd s
suited_placed net slots agent rights unit v (p ∷ ps) (h ∷ hops) s = (s.0.placed, s.0.in_unit, s.1, suited_placed net slots agent rights unit (v + p.size) ps hops s.2)

pub suited_each : (net : List NodeDecl) (slots : Slots) (agent : ℕ) (rights : Rights) (unit v : ℕ) (ps : List Piece) (hops : List Hop) → AreSuitedHops net slots agent rights unit v ps hops → AreEachAdmissible net slots.held agent rights v ps hops
suited_each net slots agent rights unit v [] hops s = tt
suited_each net slots agent rights unit v (p ∷ ps) [] s = tt
suited_each net slots agent rights unit v (p ∷ ps) (h ∷ hops) s = (s.0.admissible, suited_each net slots agent rights unit (v + p.size) ps hops s.2)

pub placed_suited : (net : List NodeDecl) (slots : Slots) (agent : ℕ) (rights : Rights) (unit v : ℕ) (ps : List Piece) (hops : List Hop) → ArePlaced net slots agent rights unit v ps hops → AreEachAdmissible net slots.held agent rights v ps hops → AreSuitedHops net slots agent rights unit v ps hops
placed_suited net slots agent rights unit v [] [] a e = tt
placed_suited net slots agent rights unit v [] (h ∷ hops) a e = absurd a
placed_suited net slots agent rights unit v (p ∷ ps) [] a e = absurd a
placed_suited net slots agent rights unit v (p ∷ ps) (h ∷ hops) a e = (record { placed = a.0; in_unit = a.1; admissible = e.0 }, a.2, placed_suited net slots agent rights unit (v + p.size) ps hops a.3 e.1)

-- that a scattered placement is the first, by its hops and by what comes before it

module _ (net : List NodeDecl) (legal : IsLegalNet net) (slots : Slots) (held : AreHeld net slots.held) (empty : (node slot : ℕ) → IsTrue (slots.is_free node slot) → slots.held node slot ≡ None) (agent : ℕ) (rights : Rights) (are : IsTrue (are_rights rights)) (ps : List Piece) where
  -- what is looked for is admissible piece by piece
  pub scatter_suited : (s : Scatter) → IsSuitedScatter net slots agent rights ps s → AreSuitedHops net slots agent rights s.unit s.v ps s.hops
  scatter_suited s is = placed_suited net slots agent rights s.unit s.v ps s.hops is.are_placed ((whole_is_piece_by_piece net slots agent rights s.unit s.v ps s.hops legal held empty are is.are_placed).0 is.are_admissible)

  pub suited_scatter : (s : Scatter) → AreSuitedHops net slots agent rights s.unit s.v ps s.hops → IsSuitedScatter net slots agent rights ps s
  suited_scatter s is =
      let placed = suited_placed net slots agent rights s.unit s.v ps s.hops is in
      record { are_placed = placed; are_admissible = (whole_is_piece_by_piece net slots agent rights s.unit s.v ps s.hops legal held empty are placed).1 (suited_each net slots agent rights s.unit s.v ps s.hops is) }

  pub none_scattered : ((unit v : ℕ) → NoneAt net slots agent rights ps unit v) → NoneScattered net slots agent rights ps
  none_scattered none s is = none s.unit s.v s.hops (scatter_suited s is)

  pub scatter_first : (s : Scatter) → AreFirstHops net slots agent rights s.unit s.v ps s.hops → ((v : ℕ) → v < s.v → NoneAt net slots agent rights ps s.unit v) → ((unit v : ℕ) → unit < s.unit → NoneAt net slots agent rights ps unit v) → IsFirstScatter net slots agent rights ps s
  scatter_first s hops lesser others = record {
    suited = suited_scatter s (first_suited net slots agent rights s.unit s.v ps s.hops hops);
    least = λ q is. turned (comes_before (scatter_key q.unit q.v q.hops) (scatter_key s.unit s.v s.hops)) (by q (scatter_suited q is) (cases_order q.unit s.unit) (cases_order q.v s.v));
  }
    where
      turned : (b : Bool) → b ≡ false → IsTrue (not b)
      turned false e = refl
      turned true e = cc

      same_heads : (a b m n : ℕ) (xs ys : List ℕ) → a ≡ m → b ≡ n → comes_before xs ys ≡ false → comes_before (a ∷ b ∷ xs) (m ∷ n ∷ ys) ≡ false
      same_heads a b m n xs ys e f k = subst (λ (x : ℕ). comes_before (x ∷ b ∷ xs) (m ∷ n ∷ ys) ≡ false) (sym e) (subst (λ (y : ℕ). comes_before (m ∷ y ∷ xs) (m ∷ n ∷ ys) ≡ false) (sym f) (same_front (m ∷ n ∷ []) xs ys ∙ k))

      after_first : (a b m n : ℕ) (xs ys : List ℕ) → a ≡ m → n < b → comes_before (a ∷ b ∷ xs) (m ∷ n ∷ ys) ≡ false
      after_first a b m n xs ys e l = subst (λ (x : ℕ). comes_before (x ∷ b ∷ xs) (m ∷ n ∷ ys) ≡ false) (sym e) (same_front (m ∷ []) (b ∷ xs) (n ∷ ys) ∙ not_before b n xs ys l)

      by : (q : Scatter) → AreSuitedHops net slots agent rights q.unit q.v ps q.hops → (q.unit ≡ s.unit) ⊎ ((q.unit < s.unit) ⊎ (s.unit < q.unit)) → (q.v ≡ s.v) ⊎ ((q.v < s.v) ⊎ (s.v < q.v)) → comes_before (scatter_key q.unit q.v q.hops) (scatter_key s.unit s.v s.hops) ≡ false
      by q is (inr (inl l)) o = absurd (others q.unit q.v l q.hops is)
      by q is (inr (inr l)) o = not_before q.unit s.unit (q.v ∷ hops_keys q.hops) (s.v ∷ hops_keys s.hops) l
      by q is (inl e) (inr (inl l)) = absurd (lesser q.v l q.hops (subst (λ (n : ℕ). AreSuitedHops net slots agent rights n q.v ps q.hops) e is))
      by q is (inl e) (inr (inr l)) = after_first q.unit q.v s.unit s.v (hops_keys q.hops) (hops_keys s.hops) e l
      by q is (inl e) (inl f) = same_heads q.unit q.v s.unit s.v (hops_keys q.hops) (hops_keys s.hops) e f (first_least net slots agent rights s.unit s.v ps s.hops q.hops hops (subst (λ (n : ℕ). AreSuitedHops net slots agent rights s.unit n ps q.hops) f (subst (λ (n : ℕ). AreSuitedHops net slots agent rights n q.v ps q.hops) e is)))

pub first_hops_are_first : FirstHopsAreFirst
first_hops_are_first = record {
  first = λ net slots agent rights ps s legal held empty are hops lesser others. scatter_first net legal slots held empty agent rights are ps s hops lesser others;
  none = λ net slots agent rights ps legal held empty are none. none_scattered net legal slots held empty agent rights are ps none;
}

-- the first scattered placement is one

key_length : (hops : List Hop) → length (hops_keys hops) ≡ 3 * length hops
key_length [] = refl
key_length (hop ∷ hops) = ap (λ (m : ℕ). suc (suc (suc m))) (key_length hops) ∙ more (length hops)
  where
    more : (n : ℕ) → suc (suc (suc (3 * n))) ≡ 3 * suc n
    more n = omega arith

key_parts : (a b d a' b' d' : ℕ) (xs ys : List ℕ) → (a ∷ b ∷ d ∷ xs) ≡ (a' ∷ b' ∷ d' ∷ ys) → (a ≡ a') × (b ≡ b') × (d ≡ d') × (xs ≡ ys)
key_parts a b d a' b' d' xs ys e = (cc, cc, cc, cc)

same_hops : (net : List NodeDecl) (slots : Slots) (agent : ℕ) (rights : Rights) (unit v w : ℕ) (ps : List Piece) (hs ks : List Hop) → ArePlaced net slots agent rights unit v ps hs → ArePlaced net slots agent rights unit w ps ks → hops_keys hs ≡ hops_keys ks → hs ≡ ks
same_hops net slots agent rights unit v w [] [] [] a b e = refl
same_hops net slots agent rights unit v w [] [] (k ∷ ks) a b e = absurd b
same_hops net slots agent rights unit v w [] (h ∷ hs) ks a b e = absurd a
same_hops net slots agent rights unit v w (p ∷ ps) [] ks a b e = absurd a
same_hops net slots agent rights unit v w (p ∷ ps) (h ∷ hs) [] a b e = absurd b
same_hops net slots agent rights unit v w (p ∷ ps) (h ∷ hs) (k ∷ ks) a b e =
    let t = key_parts h.port h.y h.x k.port k.y k.x (hops_keys hs) (hops_keys ks) e in
    both (made h.unit k.unit h.port k.port h.x k.x h.y k.y (a.1 ∙ sym b.1) t.0 t.2 t.1) (same_hops net slots agent rights unit (v + p.size) (w + p.size) ps hs ks a.3 b.3 t.3)
  where
    made : (m n i j x z y o : ℕ) → m ≡ n → i ≡ j → x ≡ z → y ≡ o → ◌≡◌ {A = Hop} (record { unit = m; port = i; x = x; y = y }) (record { unit = n; port = j; x = z; y = o })
    made m n i j x z y o f g q r = cc

    both : h ≡ k → hs ≡ ks → h ∷ hs ≡ k ∷ ks
    both f g = ap (λ (x : Hop). x ∷ hs) f ∙ ap (λ (l : List Hop). k ∷ l) g

pub first_scatter_is_one : FirstScatterIsOne
first_scatter_is_one net slots agent rights ps p q f g = same (parts p.unit p.v q.unit q.v (hops_keys p.hops) (hops_keys q.hops) keys)
  where
    count : length p.hops ≡ length q.hops
    count = sym (placed_count net slots agent rights p.unit p.v ps p.hops f.suited.are_placed) ∙ placed_count net slots agent rights q.unit q.v ps q.hops g.suited.are_placed

    keys : scatter_key p.unit p.v p.hops ≡ scatter_key q.unit q.v q.hops
    keys = neither (scatter_key p.unit p.v p.hops) (scatter_key q.unit q.v q.hops) (ap (λ (m : ℕ). suc (suc m)) (key_length p.hops ∙ ap (λ (m : ℕ). 3 * m) count ∙ sym (key_length q.hops)))
        (not-true (comes_before (scatter_key p.unit p.v p.hops) (scatter_key q.unit q.v q.hops)) (g.least p f.suited))
        (not-true (comes_before (scatter_key q.unit q.v q.hops) (scatter_key p.unit p.v p.hops)) (f.least q g.suited))

    parts : (a b a' b' : ℕ) (xs ys : List ℕ) → (a ∷ b ∷ xs) ≡ (a' ∷ b' ∷ ys) → (a ≡ a') × (b ≡ b') × (xs ≡ ys)
    parts a b a' b' xs ys e = (cc, cc, cc)

    made : (m n i j : ℕ) (hs ks : List Hop) → m ≡ n → i ≡ j → hs ≡ ks → ◌≡◌ {A = Scatter} (record { unit = m; v = i; hops = hs }) (record { unit = n; v = j; hops = ks })
    made m n i j hs ks e o r = cc

    same : (p.unit ≡ q.unit) × (p.v ≡ q.v) × (hops_keys p.hops ≡ hops_keys q.hops) → p ≡ q
    same t = made p.unit q.unit p.v q.v p.hops q.hops t.0 t.1 (same_hops net slots agent rights q.unit p.v q.v ps p.hops q.hops (subst (λ (n : ℕ). ArePlaced net slots agent rights n p.v ps p.hops) t.0 f.suited.are_placed) g.suited.are_placed t.2)
