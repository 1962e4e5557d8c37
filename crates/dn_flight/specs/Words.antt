-- The words of a world, and what each world is.
use Rattle.std.specs.List.{list_all}
use Rattle.std.specs.Prelude.{◌≡◌, ℕ, Bool, true, false, List, [], map, length, nat_lt, slice_get, Option, Some, None, IsTrue}
use Rattle.dn_net.specs.declared.node.NodeDecl.{NodeDecl}
use Rattle.dn_net.specs.Decode.{is_stop}
use Rattle.dn_kind.specs.Kind.{Meaning}
use Rattle.dn_book.specs.Tables.{tables_of}
use Rattle.dn_flight.specs.declared.lookup.LookState.{LookState}
use Rattle.dn_flight.specs.declared.lookup.LookState.TheVariants.{At, Ended}
use Rattle.dn_flight.specs.State.{WorldState}

-- words are there, and more than so many of them
abbrev pub has_word_by : Option (List ℕ) → ℕ → Bool
has_word_by None word = false
has_word_by (Some ws) word = nat_lt word (length ws)

-- the node has the word; one that is no unit has none
abbrev pub has_word_in : List (List ℕ) → ℕ → ℕ → Bool
has_word_in words node word = has_word_by (slice_get words node) word

-- a word of words, where both are there
abbrev pub word_if_there : Option (List ℕ) → ℕ → Option ℕ
word_if_there None word = None
word_if_there (Some ws) word = slice_get ws word

-- a word of a node, where it is there
abbrev pub word_in : List (List ℕ) → ℕ → ℕ → Option ℕ
word_in words node word = word_if_there (slice_get words node) word

-- how many words each node has
abbrev pub word_counts : List (List ℕ) → List ℕ
word_counts words = map (λ ws. length ws) words

-- each node has as many words as its slots need, and none where it is no unit
abbrev pub AreSized : List NodeDecl → List Meaning → List (List ℕ) → Type 0
AreSized net kinds words = word_counts words ≡ word_counts (tables_of net kinds [])

-- a lookup in flight stands at a name in a unit
abbrev pub stands_in_unit : List NodeDecl → LookState → Bool
stands_in_unit net (At s) = is_stop net s
stands_in_unit net (Ended names) = true

-- what each world is: each node has as many words as its slots need, and each lookup in flight stands
-- in a unit
pub record IsWorld (net : List NodeDecl) (kinds : List Meaning) (w : WorldState) : Type 0 where
  pub sized : AreSized net kinds w.words
  pub stand : IsTrue (list_all (λ l. stands_in_unit net l.state) w.lookups)
