-- Lists whose items are kept page by page: what is shown where a page is made, and where an item is set.
use Rattle.std.proofs.Common.{◌≡◌, ◌≢◌, ◌∙◌, ap, sym, refl, arith, ℕ, zero, suc, ◌+◌, ◌-◌, ◌*◌, ◌/◌, ◌%◌, ◌^◌, ◌<◌, ◌≤◌, ◌⊎◌, inl, inr, nat_lt, List, [], ◌∷◌, ◌++◌, length, map, get_or, replicate, set, slice_set, IsTrue}
use Rattle.std.specs.List.{list_all, range_with_len}
use Rattle.std.proofs.lemmas.List.{get_or_past, length-set, length-replicate, get_or-append-add, get_or-replicate, get_or-set_other, get_or-set_same, get_or_append_left}
use Rattle.std.proofs.lemmas.List.FromFn.{fill_by_all, get_or-map-range_with_len, length-map-range_with_len}
use Rattle.dn_base.proofs.Booleans.{and_from}
use Rattle.dn_base.proofs.Orders.{cases_eq, cases_lt, lt-ltb}
use Rattle.dn_base.specs.Paged.{ArePaged, NoneFrom, item_at, item_by, paged_items, unmade}

-- THE PAGES

zeros : (n k : ℕ) → ◌≡◌ {A = ℕ} (get_or (replicate n 0) k 0) 0
zeros zero zero = refl
zeros zero (suc k) = refl
zeros (suc n) zero = refl
zeros (suc n) (suc k) = zeros n k

none_made : (n : ℕ) → unmade (replicate n 0) ≡ n
none_made zero = refl
none_made (suc n) = ap suc (none_made n)

-- no page was made
pub fresh_pages : (n capacity count : ℕ) → count ≤ n * 256 → n * 256 ≤ capacity → ArePaged 0 capacity (replicate n 0) count
fresh_pages n capacity count h k =
    let none : List ℕ = replicate n 0 in
    let size : length none ≡ n = length-replicate n 0 in
    record {
      enough = omega (arith, h, size);
      room = omega (arith, k, size);
      taken = omega (arith, size, none_made n);
      within = λ i. omega (arith, zeros n i);
      whole = λ i l. absurd (omega (arith, l, zeros n i));
      apart = λ i j d l m. absurd (omega (arith, l, zeros n i));
    }

pub fresh_none : (n : ℕ) → NoneFrom 0 (replicate n 0)
fresh_none n = record { within = omega arith; none = λ page l. zeros n page }

-- one page less is to be made
one_made : (ends : List ℕ) (page n : ℕ) → page < length ends → get_or ends page 0 ≡ 0 → unmade ends ≡ suc (unmade (set ends page (suc n)))
one_made [] page n h e = absurd (omega arith)
one_made (zero ∷ ends) zero n h e = refl
one_made (suc m ∷ ends) zero n h e = absurd (omega (arith, e))
one_made (zero ∷ ends) (suc page) n h e = ap suc (one_made ends page n (omega arith) e)
one_made (suc m ∷ ends) (suc page) n h e = one_made ends page n (omega arith) e

module _ {items capacity count page : ℕ} {ends : List ℕ} (f : ArePaged items capacity ends count) (h : page < length ends) (none : get_or ends page 0 ≡ 0) where
  -- there is room for a page that was not made
  pub page_left : items + 256 ≤ capacity
  page_left = omega (arith, f.taken, f.room, one_made ends page 0 h none)

  -- it is made behind the others
  pub page_made : (end : ℕ) → end ≡ items + 256 → ArePaged end capacity (set ends page end) count
  page_made end e = record {
    enough = omega (arith, f.enough, size);
    room = omega (arith, f.room, size);
    taken = omega (arith, f.taken, size, less, e);
    within = λ i. in_all i (cases_eq i page);
    whole = λ i l. is_whole i (cases_eq i page) l;
    apart = λ i j d l m. are_apart i j (cases_eq i page) (cases_eq j page) d l m;
  }
    where
      size : length (set ends page end) ≡ length ends
      size = length-set ends page end

      less : unmade ends ≡ suc (unmade (set ends page end))
      less = let more : suc (items + 255) ≡ end = omega (arith, e) in one_made ends page (items + 255) h none ∙ ap (λ k. suc (unmade (set ends page k))) more

      here : (i : ℕ) → i ≡ page → get_or (set ends page end) i 0 ≡ end
      here i is = ap (λ k. get_or (set ends page end) k 0) is ∙ get_or-set_same ends page end 0 h

      there : (i : ℕ) → i ≢ page → get_or (set ends page end) i 0 ≡ get_or ends i 0
      there i ne = get_or-set_other ends page i end 0 ne

      in_all : (i : ℕ) → (i ≡ page) ⊎ (i ≢ page) → get_or (set ends page end) i 0 ≤ end
      in_all i (inl is) = omega (arith, here i is)
      in_all i (inr ne) = omega (arith, there i ne, f.within i, e)

      is_whole : (i : ℕ) → (i ≡ page) ⊎ (i ≢ page) → 0 < get_or (set ends page end) i 0 → 256 ≤ get_or (set ends page end) i 0
      is_whole i (inl is) l = omega (arith, here i is, e)
      is_whole i (inr ne) l = let whole = f.whole i (omega (arith, there i ne, l)) in omega (arith, there i ne, whole)

      are_apart : (i j : ℕ) → (i ≡ page) ⊎ (i ≢ page) → (j ≡ page) ⊎ (j ≢ page) → i ≢ j → 0 < get_or (set ends page end) i 0 → get_or (set ends page end) i 0 ≤ get_or (set ends page end) j 0 → get_or (set ends page end) i 0 + 256 ≤ get_or (set ends page end) j 0
      are_apart i j (inl is) (inl at) d l m = absurd (d (is ∙ sym at))
      are_apart i j (inl is) (inr ne) d l m = absurd (omega (arith, here i is, there j ne, f.within j, e, m))
      are_apart i j (inr ne) (inl at) d l m = omega (arith, there i ne, here j at, f.within i, e)
      are_apart i j (inr ne) (inr other) d l m =
          let apart = f.apart i j d (omega (arith, there i ne, l)) (omega (arith, there i ne, there j other, m)) in
          omega (arith, there i ne, there j other, apart)

-- a page was made, and none behind it
pub none_behind : (top page high : ℕ) (ends es : List ℕ) → NoneFrom top ends → length es ≡ length ends → page < length ends → ((other : ℕ) → page < other → get_or es other 0 ≡ get_or ends other 0) → top ≤ high → page < high → high ≤ length ends → NoneFrom high es
none_behind top page high ends es f size there later above over within = record {
  within = omega (arith, size, within);
  none = λ other l. later other (omega (arith, l, over)) ∙ f.none other (omega (arith, l, above));
}

-- a place has a page
pub page_there : {items capacity count : ℕ} {ends : List ℕ} → ArePaged items capacity ends count → (at : ℕ) → at < count → at / 256 < length ends
page_there f at h = omega (arith, f.enough, h)

-- THE ITEMS

module _ {T : Type 0} (rest : T) where
  -- no page was made, so each item is the rest
  pub none_written : (n count : ℕ) → paged_items [] (replicate n 0) rest count ≡ replicate count rest
  none_written n count = go 0 count
    where
      go : (a m : ℕ) → map (item_at [] (replicate n 0) rest) (range_with_len a m) ≡ replicate m rest
      go a zero = refl
      go a (suc m) =
          ap (λ end. item_by [] rest end (a % 256) ∷ map (item_at [] (replicate n 0) rest) (range_with_len (a + 1) m)) (zeros n (a / 256))
          ∙ ap (λ (l : List T). rest ∷ l) (go (a + 1) m)

  -- how many items are shown
  pub count_shown : (items : List T) (ends : List ℕ) (count : ℕ) → length (paged_items items ends rest count) ≡ count
  count_shown items ends count = length-map-range_with_len (item_at items ends rest) 0 count

  -- a place that is shown is one of them
  pub shown_within : (items : List T) (ends : List ℕ) (count at : ℕ) (xs : List T) → paged_items items ends rest count ≡ xs → at < length xs → at < count
  shown_within items ends count at xs is h = omega (arith, h, ap length is, count_shown items ends count)

  -- what shows the same item at each place shows the same items
  pub same_shown : (items xs : List T) (ends es : List ℕ) (count : ℕ) → ((at : ℕ) → item_at items ends rest at ≡ item_at xs es rest at) → paged_items items ends rest count ≡ paged_items xs es rest count
  same_shown items xs ends es count same = go 0 count
    where
      go : (a m : ℕ) → map (item_at items ends rest) (range_with_len a m) ≡ map (item_at xs es rest) (range_with_len a m)
      go a zero = refl
      go a (suc m) = (λ j. same a j ∷ go (a + 1) m j)

  -- the item that is shown at a place
  pub item_shown : (items : List T) (ends : List ℕ) (count at : ℕ) (d : T) → at < count → get_or (paged_items items ends rest count) at d ≡ item_at items ends rest at
  item_shown items ends count at d h = get_or-map-range_with_len (item_at items ends rest) 0 count at at d h (omega arith)

  -- an item of a page that was not made, and of one that was
  pub item_unmade : (items : List T) (ends : List ℕ) (at : ℕ) → get_or ends (at / 256) 0 ≡ 0 → rest ≡ item_at items ends rest at
  item_unmade items ends at e = sym (ap (λ end. item_by items rest end (at % 256)) e)

  pub item_made : (items : List T) (ends : List ℕ) (at : ℕ) → 0 < get_or ends (at / 256) 0 → item_at items ends rest at ≡ get_or items (get_or ends (at / 256) 0 - 256 + at % 256) rest
  item_made items ends at h = go (get_or ends (at / 256) 0) h
    where
      go : (end : ℕ) → 0 < end → item_by items rest end (at % 256) ≡ get_or items (end - 256 + at % 256) rest
      go zero h = absurd (omega arith)
      go (suc n) h = refl

  -- a page that is made shows what was shown before
  pub made_same : (items : List T) (ends : List ℕ) (capacity count page end size : ℕ) → ArePaged (length items) capacity ends count → page < length ends → get_or ends page 0 ≡ 0 → end ≡ length items + 256 → size ≡ 256 → (at : ℕ) → item_at (items ++ replicate size rest) (set ends page end) rest at ≡ item_at items ends rest at
  made_same items ends capacity count page end size f h none e s at = go (cases_eq (at / 256) page)
    where
      small : at % 256 < 256
      small = omega arith

      old : (n : ℕ) → get_or ends (at / 256) 0 ≡ n → item_by (items ++ replicate size rest) rest n (at % 256) ≡ item_by items rest n (at % 256)
      old zero is = refl
      old (suc n) is =
          let whole = f.whole (at / 256) (omega (arith, is)) in
          let within = f.within (at / 256) in
          let inside : suc n - 256 + at % 256 < length items = omega (arith, is, whole, within, small) in
          get_or_append_left items (replicate size rest) rest (suc n - 256 + at % 256) inside

      go : (at / 256 ≡ page) ⊎ (at / 256 ≢ page) → item_at (items ++ replicate size rest) (set ends page end) rest at ≡ item_at items ends rest at
      go (inl is) =
          let here : get_or (set ends page end) (at / 256) 0 ≡ end = ap (λ k. get_or (set ends page end) k 0) is ∙ get_or-set_same ends page end 0 h in
          let made : 0 < get_or (set ends page end) (at / 256) 0 = omega (arith, here, e) in
          let place : get_or (set ends page end) (at / 256) 0 - 256 + at % 256 ≡ length items + at % 256 = omega (arith, here, e) in
          let unmade_here : get_or ends (at / 256) 0 ≡ 0 = ap (λ k. get_or ends k 0) is ∙ none in
          item_made (items ++ replicate size rest) (set ends page end) at made
          ∙ ap (λ k. get_or (items ++ replicate size rest) k rest) place
          ∙ get_or-append-add items (replicate size rest) (at % 256) rest
          ∙ get_or-replicate size (at % 256) rest rest (omega (arith, small, s))
          ∙ item_unmade items ends at unmade_here
      go (inr ne) =
          ap (λ n. item_by (items ++ replicate size rest) rest n (at % 256)) (get_or-set_other ends page (at / 256) end 0 ne)
          ∙ old (get_or ends (at / 256) 0) refl

  module _ (items : List T) (ends : List ℕ) (capacity count at : ℕ) (f : ArePaged (length items) capacity ends count) (made : 0 < get_or ends (at / 256) 0) where
    -- the place of an item of a page that was made is among those that are taken
    pub place_within : get_or ends (at / 256) 0 - 256 + at % 256 < length items
    place_within =
        let small : at % 256 < 256 = omega arith in
        omega (arith, f.whole (at / 256) made, f.within (at / 256), small)

    -- no two places show one item
    other_place : (k : ℕ) → k ≢ at → 0 < get_or ends (k / 256) 0 → get_or ends (k / 256) 0 - 256 + k % 256 ≢ get_or ends (at / 256) 0 - 256 + at % 256
    other_place k ne there = go (cases_eq (k / 256) (at / 256))
      where
        small : at % 256 < 256
        small = omega arith

        little : k % 256 < 256
        little = omega arith

        go : (k / 256 ≡ at / 256) ⊎ (k / 256 ≢ at / 256) → get_or ends (k / 256) 0 - 256 + k % 256 ≢ get_or ends (at / 256) 0 - 256 + at % 256
        go (inl is) e =
            let same : get_or ends (k / 256) 0 ≡ get_or ends (at / 256) 0 = ap (λ i. get_or ends i 0) is in
            let places : k % 256 ≡ at % 256 = omega (arith, same, e) in
            ne (omega (arith, is, places))
        go (inr d) e = by (cases_lt (get_or ends (k / 256) 0) (get_or ends (at / 256) 0))
          where
            by : (get_or ends (k / 256) 0 < get_or ends (at / 256) 0) ⊎ (get_or ends (at / 256) 0 ≤ get_or ends (k / 256) 0) → ⊥
            by (inl l) =
                let apart = f.apart (k / 256) (at / 256) d there (omega (arith, l)) in
                omega (arith, apart, f.whole (k / 256) there, e, small, little)
            by (inr l) =
                let apart = f.apart (at / 256) (k / 256) (λ i. d (sym i)) made l in
                omega (arith, apart, f.whole (at / 256) made, e, small, little)

    -- an item that is set in its place is shown there, and no other changes
    pub set_shown : (v : T) (place : ℕ) → at < count → place ≡ get_or ends (at / 256) 0 - 256 + at % 256 → paged_items (set items place v) ends rest count ≡ slice_set (paged_items items ends rest count) at v
    set_shown v place h e = sym (fill_by_all (item_at (set items place v) ends rest) (slice_set (paged_items items ends rest count) at v) count rest size (λ k l. shown k l (cases_eq k at)))
      where
        size : length (slice_set (paged_items items ends rest count) at v) ≡ count
        size = length-set (paged_items items ends rest count) at v ∙ count_shown items ends count

        within : at < length (paged_items items ends rest count)
        within = omega (arith, h, count_shown items ends count)

        taken : place < length items
        taken = omega (arith, e, place_within)

        other : (k n : ℕ) → k ≢ at → get_or ends (k / 256) 0 ≡ n → item_by items rest n (k % 256) ≡ item_by (set items place v) rest n (k % 256)
        other k zero ne is = refl
        other k (suc n) ne is =
            let there : 0 < get_or ends (k / 256) 0 = omega (arith, is) in
            let apart : suc n - 256 + k % 256 ≢ place = λ same. other_place k ne there (ap (λ m. m - 256 + k % 256) is ∙ same ∙ e) in
            sym (get_or-set_other items place (suc n - 256 + k % 256) v rest apart)

        shown : (k : ℕ) → k < count → (k ≡ at) ⊎ (k ≢ at) → get_or (slice_set (paged_items items ends rest count) at v) k rest ≡ item_at (set items place v) ends rest k
        shown k l (inl is) =
            ap (λ i. get_or (slice_set (paged_items items ends rest count) at v) i rest) is
            ∙ get_or-set_same (paged_items items ends rest count) at v rest within
            ∙ sym (get_or-set_same items place v rest taken)
            ∙ ap (λ i. get_or (set items place v) i rest) e
            ∙ sym (item_made (set items place v) ends at made)
            ∙ ap (item_at (set items place v) ends rest) (sym is)
        shown k l (inr ne) =
            get_or-set_other (paged_items items ends rest count) at k v rest ne
            ∙ item_shown items ends count k rest l
            ∙ other k (get_or ends (k / 256) 0) ne refl

-- NUMBERS

-- numbers of a slice and another one are of 64 bits at any place
fits_at : (xs : List ℕ) (r i : ℕ) → ((k : ℕ) → get_or xs k 0 < 2 ^ 64) → r < 2 ^ 64 → get_or xs i r < 2 ^ 64
fits_at [] r zero each h = h
fits_at [] r (suc i) each h = h
fits_at (x ∷ xs) r zero each h = each 0
fits_at (x ∷ xs) r (suc i) each h = fits_at xs r i (λ k. each (suc k)) h

-- numbers that are kept page by page are of 64 bits where those of the pages are
pub all_fit : (items ends : List ℕ) (rest count : ℕ) → ((k : ℕ) → get_or items k 0 < 2 ^ 64) → rest < 2 ^ 64 → IsTrue (list_all (λ w. nat_lt w (2 ^ 64)) (paged_items items ends rest count))
all_fit items ends rest count each h = go 0 count
  where
    fits : (end at : ℕ) → item_by items rest end at < 2 ^ 64
    fits zero at = h
    fits (suc n) at = fits_at items rest (suc n - 256 + at) each h

    go : (a m : ℕ) → IsTrue (list_all (λ w. nat_lt w (2 ^ 64)) (map (item_at items ends rest) (range_with_len a m)))
    go a zero = refl
    go a (suc m) =
        and_from (nat_lt (item_at items ends rest a) (2 ^ 64)) (list_all (λ w. nat_lt w (2 ^ 64)) (map (item_at items ends rest) (range_with_len (a + 1) m))) (lt-ltb (item_at items ends rest a) (2 ^ 64) (fits (get_or ends (a / 256) 0) (a % 256))) (go (a + 1) m)

-- behind the last page that was made each item is the rest, and behind the last item there is none
pub zeros_behind : (items ends : List ℕ) (rest count pages : ℕ) → rest ≡ 0 → ((page : ℕ) → pages ≤ page → get_or ends page 0 ≡ 0) → (k : ℕ) → pages * 256 ≤ k → get_or (paged_items items ends rest count) k 0 ≡ 0
zeros_behind items ends rest count pages none made k far = elim (cases_lt k count) [
  | inl l ↦ (let m : pages ≤ k / 256 = omega (arith, far) in item_shown rest items ends count k 0 l ∙ ap (λ e. item_by items rest e (k % 256)) (made (k / 256) m) ∙ none)
  | inr m ↦ get_or_past (paged_items items ends rest count) k 0 (let e = length-map-range_with_len (item_at items ends rest) 0 count in omega (arith, e, m))
]
