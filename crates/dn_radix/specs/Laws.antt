-- Laws on trees of pages.
use Rattle.std.specs.Prelude.{◌≡◌, ℕ, ◌*◌, ◌^◌, ◌<◌, ◌≤◌, List, length, slice_index, Ok}
use Rattle.dn_net.specs.declared.node.Unit.{Unit as UnitPart}
use Rattle.dn_kind.specs.Kind.{Meaning}
use Rattle.dn_kind.specs.Tables.{record_within, slot_words}
use Rattle.dn_radix.specs.Built.{IsTreeOf}
use Rattle.dn_radix.specs.Found.{found}
use Rattle.dn_radix.specs.Tree.{level_of, room, tree_bytes}
use Rattle.dn_radix.specs.Walked.{walked}

-- The number of levels of a tree is the least that has room for its words.
pub record LevelIsLeast : Type 0 where
  pub fits : (count : ℕ) → count ≤ 512 ^ 3 → count ≤ room (level_of count)
  pub least : (count level : ℕ) → count ≤ room level → level_of count ≤ level

-- In the tree of words each word is found.
abbrev pub WordsAreFound : Type 0
WordsAreFound = (ws : List ℕ) (i : ℕ) → length ws ≤ 1048576 →
    ((k : ℕ) → slice_index ws k < 2 ^ 64) → i < length ws →
    found (tree_bytes ws) (level_of (length ws)) i 0 ≡ Ok (slice_index ws i)

-- An image is the tree of at most one list of so many words.
abbrev pub OneListOfTree : Type 0
OneListOfTree = (image : List ℕ) (count : ℕ) (ws vs : List ℕ) → count ≤ 1048576 →
    IsTreeOf image count ws → IsTreeOf image count vs → ws ≡ vs

-- A walk of the tree of a unit's words gives for each slot the record that its words spell.
abbrev pub TreeIsWalked : Type 0
TreeIsWalked = (u : UnitPart) (kind : Meaning) (ws : List ℕ) (slot : ℕ) → length ws ≤ 1048576 →
    length ws ≡ u.slots * kind.words → ((k : ℕ) → slice_index ws k < 2 ^ 64) →
    slot < u.slots →
    walked (tree_bytes ws) u kind slot
    ≡ Ok (record_within u (kind.unpack (slot_words kind.words ws slot)))
