-- The lowest addresses from which rows lead, row by row.
use Rattle.std.proofs.Common.{◌≡◌, ℕ, ◌+◌, ◌*◌, ◌^◌, ◌<◌, ◌≤◌, ◌⊎◌, inl, inr, min, Bool, false, ◌&&◌, ◌||◌, nat_lt, ◌==◌, List, [], ◌∷◌, ◌++◌, map, take, length, get_or, set, replicate, refl, sym, ap, ◌∙◌, subst, arith}
use Rattle.std.specs.List.{All, list_any}
use Rattle.std.proofs.lemmas.Bool.{lt-ltb, le-ltb, eq-eqb, ne_eqb, cases_lt, cases_eq}
use Rattle.std.proofs.lemmas.List.{get_or-replicate, length-replicate, get_or-set_same, get_or-set_other, length-set, take_more}
use Rattle.std.proofs.lemmas.List.Folds.{list_any-append}
use Rattle.std.proofs.lemmas.Nat.{mul-add-lt, same_from_place}
use Rattle.dn_base.proofs.Lists.{map-last}
use Rattle.dn_base.proofs.Booleans.{or-false}
use Rattle.dn_walk.specs.declared.walks.WalkRow.{WalkRow}
use Rattle.dn_walk.specs.Rows.{BareWalk, row_view}
use Rattle.dn_walk.specs.Units.{row_leads, AreLows}

-- where no row was seen, no address is low
pub lows_begun : (count : ℕ) (lows : List ℕ) → lows ≡ replicate (count * count) (2 ^ 56) → AreLows count [] lows
lows_begun count lows e = record { size = ap length e ∙ length-replicate (count * count) (2 ^ 56); lower = lower }
  where
    lower : (port w limit : ℕ) → port < count → w < count → limit ≤ 2 ^ 56 → nat_lt (get_or lows (port * count + w) 0) limit ≡ false
    lower port w limit p q l =
        ap (λ xs. nat_lt (get_or xs (port * count + w) 0) limit) e
        ∙ ap (λ x. nat_lt x limit) (get_or-replicate (count * count) (port * count + w) (2 ^ 56) 0 (mul-add-lt port count w count p q))
        ∙ le-ltb (2 ^ 56) limit l

-- the lesser of two is low where one of them is
min_low : (x y limit : ℕ) → nat_lt (min x y) limit ≡ (nat_lt x limit || nat_lt y limit)
min_low x y limit = by (cases_lt x y) (cases_lt x limit) (cases_lt y limit)
  where
    by : (x < y) ⊎ (y ≤ x) → (x < limit) ⊎ (limit ≤ x) → (y < limit) ⊎ (limit ≤ y) → nat_lt (min x y) limit ≡ (nat_lt x limit || nat_lt y limit)
    by o (inl a) b = lt-ltb (min x y) limit (omega arith) ∙ sym (ap (λ c. c || nat_lt y limit) (lt-ltb x limit a))
    by o (inr a) (inl b) = lt-ltb (min x y) limit (omega arith) ∙ sym (ap (λ c. c || nat_lt y limit) (le-ltb x limit a) ∙ lt-ltb y limit b)
    by o (inr a) (inr b) = le-ltb (min x y) limit (omega arith) ∙ sym (ap (λ c. c || nat_lt y limit) (le-ltb x limit a) ∙ le-ltb y limit b)

-- one row more
pub lows_more : (count : ℕ) (rows : List BareWalk) (lows : List ℕ) (t : BareWalk) → AreLows count rows lows → t.start < count → t.end < count → AreLows count (rows ++ t ∷ []) (set lows (t.start * count + t.end) (min (get_or lows (t.start * count + t.end) 0) t.lo))
lows_more count rows lows t h s e = record { size = length-set lows place low ∙ h.size; lower = lower }
  where
    place : ℕ
    place = t.start * count + t.end

    low : ℕ
    low = min (get_or lows place 0) t.lo

    joined : (port w limit : ℕ) (b : Bool) → row_leads port w limit t ≡ b → list_any (row_leads port w limit) (rows ++ t ∷ []) ≡ (list_any (row_leads port w limit) rows || b)
    joined port w limit b r = list_any-append (row_leads port w limit) rows (t ∷ []) ∙ ap (λ c. list_any (row_leads port w limit) rows || c) (or-false (row_leads port w limit t) ∙ r)

    here : (limit : ℕ) → row_leads t.start t.end limit t ≡ nat_lt t.lo limit
    here limit =
        ap (λ b. b && ((t.end == t.end) && nat_lt t.lo limit)) (eq-eqb t.start t.start refl)
        ∙ ap (λ b. b && nat_lt t.lo limit) (eq-eqb t.end t.end refl)

    same : (limit : ℕ) → limit ≤ 2 ^ 56 → nat_lt (get_or (set lows place low) place 0) limit ≡ list_any (row_leads t.start t.end limit) (rows ++ t ∷ [])
    same limit l =
        ap (λ x. nat_lt x limit) (get_or-set_same lows place low 0 (subst (λ n. place < n) (sym h.size) (mul-add-lt t.start count t.end count s e)))
        ∙ min_low (get_or lows place 0) t.lo limit
        ∙ ap (λ b. b || nat_lt t.lo limit) (h.lower t.start t.end limit s e l)
        ∙ sym (joined t.start t.end limit (nat_lt t.lo limit) (here limit))

    apart : (port w limit : ℕ) → (port ≡ t.start → w ≡ t.end → ⊥) → row_leads port w limit t ≡ false
    apart port w limit d = by (cases_eq t.start port) (cases_eq t.end w)
      where
        by : (t.start ≡ port) ⊎ (t.start ≡ port → ⊥) → (t.end ≡ w) ⊎ (t.end ≡ w → ⊥) → row_leads port w limit t ≡ false
        by (inr n) o = ap (λ b. b && ((t.end == w) && nat_lt t.lo limit)) (ne_eqb t.start port n)
        by (inl f) (inr n) = ap (λ b. (t.start == port) && (b && nat_lt t.lo limit)) (ne_eqb t.end w n) ∙ ap (λ b. b && false) (eq-eqb t.start port f)
        by (inl f) (inl g) = absurd (d (sym f) (sym g))

    other : (port w limit : ℕ) → port < count → w < count → limit ≤ 2 ^ 56 → (port * count + w ≡ place → ⊥) → nat_lt (get_or (set lows place low) (port * count + w) 0) limit ≡ list_any (row_leads port w limit) (rows ++ t ∷ [])
    other port w limit p q l d =
        ap (λ x. nat_lt x limit) (get_or-set_other lows place (port * count + w) low 0 d)
        ∙ h.lower port w limit p q l
        ∙ sym (joined port w limit false (apart port w limit (λ f g. d (ap (λ n. n * count + w) f ∙ ap (λ n. t.start * count + n) g))) ∙ or-false (list_any (row_leads port w limit) rows))

    lower : (port w limit : ℕ) → port < count → w < count → limit ≤ 2 ^ 56 → nat_lt (get_or (set lows place low) (port * count + w) 0) limit ≡ list_any (row_leads port w limit) (rows ++ t ∷ [])
    lower port w limit p q l = by (cases_eq (port * count + w) place)
      where
        by : (port * count + w ≡ place) ⊎ (port * count + w ≡ place → ⊥) → nat_lt (get_or (set lows place low) (port * count + w) 0) limit ≡ list_any (row_leads port w limit) (rows ++ t ∷ [])
        by (inl f) =
            let both = same_from_place port w t.start t.end count q e f in
            ap (λ n. nat_lt (get_or (set lows place low) n 0) limit) f
            ∙ same limit l
            ∙ ap (λ n. list_any (row_leads n t.end limit) (rows ++ t ∷ [])) (sym both.0)
            ∙ ap (λ n. list_any (row_leads port n limit) (rows ++ t ∷ [])) (sym both.1)
        by (inr d) = other port w limit p q l d

-- the lowest addresses of the rows up to a place and of the row there
pub lows_at : (count : ℕ) (rows : List WalkRow) (i : ℕ) (r : WalkRow) (lows more : List ℕ) (place : ℕ) → i < length rows → r ≡ get_or rows i r → All (λ (r : WalkRow). r.start < count) rows → All (λ (r : WalkRow). r.end < count) rows → place ≡ r.start * count + r.end → more ≡ set lows place (min (get_or lows place 0) r.span.lo) → AreLows count (map row_view (take i rows)) lows → AreLows count (map row_view (take (i + 1) rows)) more
lows_at count rows i r lows more place l at starts ends e made h =
    let taken : map row_view (take (i + 1) rows) ≡ map row_view (take i rows) ++ row_view r ∷ [] =
    ap (map row_view) (take_more rows i r l ∙ ap (λ x. take i rows ++ x ∷ []) (sym at)) ∙ map-last row_view (take i rows) r in
    let start : r.start < count = subst (λ (x : WalkRow). x.start < count) (sym at) (starts i r l) in
    let end : r.end < count = subst (λ (x : WalkRow). x.end < count) (sym at) (ends i r l) in
    let same : more ≡ set lows (r.start * count + r.end) (min (get_or lows (r.start * count + r.end) 0) r.span.lo) = made ∙ ap (λ p. set lows p (min (get_or lows p 0) r.span.lo)) e in
    subst (λ ts. AreLows count ts more) (sym taken) (subst (λ ls. AreLows count (map row_view (take i rows) ++ row_view r ∷ []) ls) (sym same) (lows_more count (map row_view (take i rows)) lows (row_view r) h start end))
