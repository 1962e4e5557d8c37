-- The law above the printed net and the reading: the text of a net that came of a text gives that net back.
use Rattle.std.specs.Prelude.{◌≡◌, ℕ, ◌≤◌, List, [], length, Ok}
use Rattle.dn_parse.specs.Tree.{Tree}
use Rattle.dn_parse.specs.Whole.{text_reading}
use Rattle.dn_kind.specs.Kind.{Meaning}
use Rattle.dn_module.specs.Expand.{Expansion, expansion_of}
use Rattle.dn_print.specs.Statement.{net_text}

-- Reading and expanding the text of a net that came of a text gives that net, with the same kinds of
-- units, where its text is not too long.
abbrev pub ReadBack : Type 0
ReadBack = (kinds : List Meaning) (text : List ℕ) (tree : Tree) (made : Expansion) →
    text_reading text ≡ Ok tree → expansion_of kinds tree ≡ Ok made →
    length (net_text kinds made.net) ≤ 4194304 →
    (again : Tree) × (text_reading (net_text kinds made.net) ≡ Ok again)
    × (expansion_of kinds again ≡ Ok (record { net = made.net; commands = [] }))
