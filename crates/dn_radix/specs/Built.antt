-- What is answered where trees are made and read.
use Rattle.std.specs.Prelude.{◌≡◌, ℕ, ◌^◌, ◌<◌, if◌then◌else◌, nat_le, List, length, slice_index, Option, Some, None, Result, Ok, Err}
use Rattle.dn_radix.specs.declared.fault.RadixFault.{RadixFault}
use Rattle.dn_radix.specs.declared.fault.RadixFault.TheVariants.{Pool, OutOfMemory}
use Rattle.dn_radix.specs.Tree.{tree_bytes, tree_pages}

-- the bytes of the tree, where the pool has its pages, or how many it needs
abbrev pub built : List ℕ → ℕ → Result (List ℕ) ℕ
built ws pool = if nat_le (tree_pages ws) pool then Ok (tree_bytes ws) else Err (tree_pages ws)

-- the pages that a fault says are needed
abbrev pub radix_fault_view : RadixFault → Option ℕ
radix_fault_view (Pool need) = Some need
radix_fault_view OutOfMemory = None

-- so many words of 64 bits, of which the bytes are the tree
pub record IsTreeOf (image : List ℕ) (count : ℕ) (ws : List ℕ) : Type 0 where
  pub count_is : length ws ≡ count
  pub small : (k : ℕ) → slice_index ws k < 2 ^ 64
  pub tree : image ≡ tree_bytes ws
