-- The tables of a sound book have the words of each node of the net, each below 2^64, and no more.
use Rattle.std.proofs.Common.{◌≡◌, ap, refl, arith, ℕ, suc, List, [], ◌∷◌, length, slice_get, Option, Some, None, IsTrue, eq-eqb}
use Rattle.std.specs.List.{All}
use Rattle.dn_base.proofs.Booleans.{and_from}
use Rattle.dn_net.specs.declared.node.NodeDecl.{NodeDecl}
use Rattle.dn_net.specs.declared.node.Unit.{Unit as UnitPart}
use Rattle.dn_net.specs.Decode.{unit_at}
use Rattle.dn_kind.specs.Kind.{IsLawful, Meaning}
use Rattle.dn_kind.specs.Units.{IsLegalWith}
use Rattle.dn_image.specs.Image.{are_filled, is_filled, word_count}
use Rattle.dn_book.specs.declared.grant.Grant.{Grant}
use Rattle.dn_book.specs.Book.{IsSound}
use Rattle.dn_book.specs.Tables.{tables_of}
use Rattle.dn_book.proofs.Begun.{book_full, book_many}
use Rattle.dn_book.proofs.Packed.{IsFull}

counted : (kinds : List Meaning) (o : Option UnitPart) (ws : List ℕ) → IsFull kinds o ws → length ws ≡ word_count kinds o
counted kinds None ws f = ap length (f.none refl)
counted kinds (Some u) ws f = f.some u refl

filled_from : (kinds : List Meaning) (net : List NodeDecl) (words : List (List ℕ)) → length words ≡ length net → ((node : ℕ) (ws : List ℕ) → slice_get words node ≡ Some ws → IsFull kinds (unit_at net node) ws) → IsTrue (are_filled kinds net words)
filled_from kinds [] [] e full = refl
filled_from kinds [] (ws ∷ rest) e full = absurd (omega (arith, e))
filled_from kinds (n ∷ ns) [] e full = absurd (omega (arith, e))
filled_from kinds (n ∷ ns) (ws ∷ rest) e full =
    let f : IsFull kinds n.unit ws = full 0 ws refl in
    let more : length rest ≡ length ns = omega (arith, e) in
    and_from (is_filled kinds n.unit ws) (are_filled kinds ns rest)
    (and_from _ _ (eq-eqb (length ws) (word_count kinds n.unit) (counted kinds n.unit ws f)) f.small)
    (filled_from kinds ns rest more (λ node vs at. full (suc node) vs at))

pub tables_filled : (kinds : List Meaning) (net : List NodeDecl) (book : List Grant) → All IsLawful kinds → IsLegalWith kinds net → IsSound net book → IsTrue (are_filled kinds net (tables_of net kinds book))
tables_filled kinds net book lawful legal sound = filled_from kinds net (tables_of net kinds book) (book_many net kinds book) (book_full net kinds book legal lawful sound)
