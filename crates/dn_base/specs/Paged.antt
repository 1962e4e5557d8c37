-- Lists whose items are kept page by page: a page of 256 places is made when an item is first set in one of them.
use Rattle.std.specs.Prelude.{◌≡◌, ◌≢◌, ℕ, zero, suc, ◌+◌, ◌-◌, ◌*◌, ◌/◌, ◌%◌, ◌<◌, ◌≤◌, List, [], ◌∷◌, get_or, length, map}
use Rattle.std.specs.List.{range_with_len}

-- an item of the page that ends here among those that were made, or the rest where the page was not made
abbrev pub item_by : {T : Type 0} → List T → T → (end at : ℕ) → T
item_by items rest zero at = rest
item_by items rest (suc n) at = get_or items (suc n - 256 + at) rest

-- the item at a place
abbrev pub item_at : {T : Type 0} → List T → List ℕ → T → ℕ → T
item_at items ends rest at = item_by items rest (get_or ends (at / 256) 0) (at % 256)

-- all items
abbrev pub paged_items : {T : Type 0} → List T → List ℕ → T → (count : ℕ) → List T
paged_items items ends rest count = map (item_at items ends rest) (range_with_len 0 count)

-- how many pages were not made
abbrev pub unmade : List ℕ → ℕ
unmade [] = 0
unmade (zero ∷ ends) = suc (unmade ends)
unmade (suc n ∷ ends) = unmade ends

-- The pages that were made stand one behind another, and there is room for the others: `items` places are taken,
-- of as many as the capacity is.
pub record ArePaged (items capacity : ℕ) (ends : List ℕ) (count : ℕ) : Type 0 where
  pub enough : count ≤ length ends * 256
  pub room : length ends * 256 ≤ capacity
  pub taken : items + unmade ends * 256 ≡ length ends * 256
  pub within : (page : ℕ) → get_or ends page 0 ≤ items
  pub whole : (page : ℕ) → 0 < get_or ends page 0 → 256 ≤ get_or ends page 0
  pub apart : (page other : ℕ) → page ≢ other → 0 < get_or ends page 0 → get_or ends page 0 ≤ get_or ends other 0 → get_or ends page 0 + 256 ≤ get_or ends other 0

-- the pages from this number on were not made
pub record NoneFrom (top : ℕ) (ends : List ℕ) : Type 0 where
  pub within : top ≤ length ends
  pub none : (page : ℕ) → top ≤ page → get_or ends page 0 ≡ 0
