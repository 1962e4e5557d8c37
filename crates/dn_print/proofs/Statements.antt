-- The statements of a net, one node after another.
use Rattle.std.proofs.Common.{◌≡◌, ◌∙◌, ap, sym, ℕ, zero, suc, ◌+◌, ◌<◌, List, [], ◌∷◌, ◌++◌, length, take, slice_get, arith, append_assoc}
use Rattle.std.specs.List.{flat_map}
use Rattle.std.proofs.lemmas.List.{append-nil}
use Rattle.dn_net.specs.declared.node.NodeDecl.{NodeDecl}
use Rattle.dn_kind.specs.Kind.{Meaning}
use Rattle.dn_print.specs.Statement.{statement_text, statement_text_at}

more : (kinds : List Meaning) (net xs : List NodeDecl) (i : ℕ) → i < length xs → flat_map (statement_text kinds net) (take (suc i) xs) ≡ flat_map (statement_text kinds net) (take i xs) ++ statement_text_at kinds net (slice_get xs i)
more kinds net [] i h = absurd (omega arith)
more kinds net (x ∷ xs) zero h = append-nil (statement_text kinds net x)
more kinds net (x ∷ xs) (suc i) h =
    let k : i < length xs = omega arith in
    ap (λ (t : List ℕ). statement_text kinds net x ++ t) (more kinds net xs i k) ∙ sym (append_assoc (statement_text kinds net x) (flat_map (statement_text kinds net) (take i xs)) (statement_text_at kinds net (slice_get xs i)))

-- the statements of one node more
pub statements_more : (kinds : List Meaning) (net : List NodeDecl) (i : ℕ) → i < length net → flat_map (statement_text kinds net) (take (i + 1) net) ≡ flat_map (statement_text kinds net) (take i net) ++ statement_text_at kinds net (slice_get net i)
statements_more kinds net i h =
    let next : i + 1 ≡ suc i = omega arith in
    ap (λ (n : ℕ). flat_map (statement_text kinds net) (take n net)) next ∙ more kinds net net i h
