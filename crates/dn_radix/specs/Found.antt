-- What is found by the entries of an image of pages, whoever made it.
use Rattle.std.specs.Prelude.{◌≡◌, ℕ, zero, suc, ◌+◌, ◌-◌, ◌*◌, ◌/◌, ◌%◌, Bool, if◌then◌else◌, ◌||◌, ◌==◌, not, nat_lt, ◌<◌, List, drop, length, slice_index, Option, Some, None, Result, Ok, Err}
use Rattle.byteorder.specs.Endian.{little_number}
use Rattle.dn_radix.specs.declared.fault.Bad.{Bad}
use Rattle.dn_radix.specs.Tree.{room}

-- the word whose bytes begin at a place
abbrev pub word_in_bytes : List ℕ → ℕ → ℕ
word_in_bytes image at = little_number 8 (drop at image)

-- in an image of so many bytes an entry that is not 0 leads to no page: less 1 it is no multiple of 4,096,
-- or fewer than 4,096 bytes stand from there on
abbrev pub is_bad : ℕ → ℕ → Bool
is_bad size entry = not ((entry - 1) % 4096 == 0) || nat_lt size ((entry - 1) + 4096)

-- what is found by an entry that stands at a place: 0, that the entry is bad, or what is found from its
-- page on
abbrev pub followed : (ℕ → Result ℕ ℕ) → ℕ → ℕ → ℕ → Result ℕ ℕ
followed further size place entry =
    if entry == 0 then Ok 0
    else (if is_bad size entry then Err place else further (entry - 1))

-- the word of a number below the room of the level, from the page on that begins at a byte, or the place
-- of the first bad entry
unfoldable pub found : List ℕ → ℕ → ℕ → ℕ → Result ℕ ℕ
found image zero i page = Ok (word_in_bytes image (page + 8 * i))
found image (suc level) i page =
    followed (found image level (i % room level)) (length image) (page + 8 * (i / room level))
    (word_in_bytes image (page + 8 * (i / room level)))

-- the word of a number among 512, by the page in which they stand: 0 where there is none, or the place of
-- the bad entry on the way to it
abbrev pub word_of_page : List ℕ → Result (Option ℕ) Bad → ℕ → Result ℕ ℕ
word_of_page image (Err bad) i = Err bad.at
word_of_page image (Ok None) i = Ok 0
word_of_page image (Ok (Some page)) i = Ok (word_in_bytes image (page + 8 * i))

-- so many words that stand in a page from its first on, or are 0 where there is none
pub record AreOfPage (image : List ℕ) (page : Option ℕ) (count : ℕ) (ws : List ℕ) : Type 0 where
  pub count_is : length ws ≡ count
  pub words : (i : ℕ) → i < count → word_of_page image (Ok page) i ≡ Ok (slice_index ws i)
