-- The line that sums up a demonstration.
use Rattle.std.specs.Prelude.{ℕ, List, ◌++◌, codes}
use Rattle.std.specs.Fmt.{decimal}
use Rattle.dn_demo.specs.declared.summary.Summary.{Summary}

-- what was made: the nodes, the grants and the revokes, below the number that was asked for
abbrev pub made_counts_text : Summary → List ℕ
made_counts_text s =
    codes "demo " ++ (decimal s.agents ++ (codes ": nodes " ++ (decimal s.nodes ++ (
    codes " grants " ++ (decimal s.grants ++ (codes " revoked " ++ decimal s.revoked))))))

-- what is left after them: the rows of the views, the records, and the size of the image
abbrev pub left_text : Summary → List ℕ
left_text s =
    codes " rows " ++ (decimal s.rows ++ (codes " records " ++ (decimal s.records ++ (
    codes " image " ++ (decimal s.image ++ codes "\n")))))

-- the summary, a line
abbrev pub summary_text : Summary → List ℕ
summary_text s = made_counts_text s ++ left_text s
