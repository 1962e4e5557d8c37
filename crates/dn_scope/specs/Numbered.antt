-- How different texts are kept with their numbers.
use Rattle.std.specs.Prelude.{◌≡◌, ℕ, List, map, position, Bool}
use Rattle.std.specs.BTreeMap.{is_at}
use Rattle.std.specs.Cmp.Lexicographic.{slice_cmp}
use Rattle.std.specs.Map.{lookup}
use Rattle.std.specs.Ordering.{nat_cmp}
use Rattle.std.specs.Str.{bytes_eq}
use Rattle.std.specs.List.{list_any}

-- each text leads to its place in the list, and any other to none
pub record AreNumbered {K : Type 0} (bytes : K → List ℕ) (numbers : List (K × ℕ)) (texts : List K) : Type 0 where
  pub found : (w : List ℕ) → lookup (is_at (λ k. slice_cmp nat_cmp w (bytes k))) numbers ≡ position (bytes_eq w) (map bytes texts)

-- a name is among these
abbrev pub is_known : List (List ℕ) → List ℕ → Bool
is_known known text = list_any (bytes_eq text) known
