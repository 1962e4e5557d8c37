-- The lines of bytes, piece by piece.
use Rattle.std.proofs.Common.{◌≡◌, ◌∙◌, ap, sym, arith, ℕ, zero, suc, ◌+◌, ◌*◌, ◌/◌, ◌<◌, ◌≤◌, ◌⊎◌, inl, inr, min, List, [], ◌++◌, take, drop, length, append_assoc, append-nil, codes, length-append, refl, replicate}
use Rattle.std.proofs.Math.Nat.{min-eq_left, min-eq_right}
use Rattle.std.proofs.Math.Seq.{take-append_seam, drop-append_seam}
use Rattle.std.proofs.lemmas.List.{take-append-drop, length-take-le, length-drop}
use Rattle.hex.specs.Hex.{encode_with}
use Rattle.dn_base.proofs.Lists.{take_past, nil_from_length}
use Rattle.dn_print.specs.Dump.{line_text, lines_of, lines_text}

zeros : codes "0000000000000000000000000000000000000000000000000000000000000000\n" ≡ line_text (replicate 32 0)
unfolding encode_with
zeros = refl

-- the line of 32 bytes that are 0
pub zero_line : (line : List ℕ) → length line ≡ 32 → line ≡ replicate (length line) 0 → codes "0000000000000000000000000000000000000000000000000000000000000000\n" ≡ line_text line
zero_line line long none = zeros ∙ ap line_text (sym (none ∙ ap (λ n. replicate n 0) long))

-- a line of 32 bytes, and then the lines of the rest
full_line : (rest line later : List ℕ) → rest ≡ line ++ later → length line ≡ 32 → lines_text rest ≡ line_text line ++ lines_text later
full_line rest line later e size =
    let all : length rest ≡ 32 + length later = ap length e ∙ length-append line later ∙ ap (λ n. n + length later) size in
    let count : (length rest + 31) / 32 ≡ suc ((length later + 31) / 32) = omega (arith, all) in
    let front : take 32 rest ≡ line = ap (take 32) e ∙ ap (λ n. take n (line ++ later)) (sym size) ∙ take-append_seam line later in
    let back : drop 32 rest ≡ later = ap (drop 32) e ∙ ap (λ n. drop n (line ++ later)) (sym size) ∙ drop-append_seam line later in
    ap (λ n. lines_of n rest) count
    ∙ ap (λ l. line_text l ++ lines_of ((length later + 31) / 32) (drop 32 rest)) front
    ∙ ap (λ l. line_text line ++ lines_of ((length later + 31) / 32) l) back

-- the last line
last_line : (rest : List ℕ) → 0 < length rest → length rest < 32 → lines_text rest ≡ line_text rest
last_line rest some few =
    let count : (length rest + 31) / 32 ≡ 1 = omega arith in
    ap (λ n. lines_of n rest) count
    ∙ ap (λ l. line_text l ++ []) (take_past rest 32 (omega arith))
    ∙ append-nil (line_text rest)

-- a line, and then the lines of the rest
pub one_line : (rest line later : List ℕ) → rest ≡ line ++ later → length line ≡ min 32 (length rest) → 0 < length rest → lines_text rest ≡ line_text line ++ lines_text later
one_line rest line later e size some = go (grind arith)
  where
    all : length rest ≡ length line + length later
    all = ap length e ∙ length-append line later

    go : (32 ≤ length rest) ⊎ (length rest < 32) → lines_text rest ≡ line_text line ++ lines_text later
    go (inl l) = full_line rest line later e (size ∙ min-eq_left l)
    go (inr l) =
        let n : length line ≡ length rest = size ∙ min-eq_right (omega arith) in
        let a = all in
        let none : later ≡ [] = nil_from_length later (omega (arith, a, n)) in
        let same : rest ≡ line = e ∙ ap (λ t. line ++ t) none ∙ append-nil line in
        last_line rest some l
        ∙ ap line_text same
        ∙ sym (append-nil (line_text line))
        ∙ ap (λ t. line_text line ++ lines_text t) (sym none)

-- bytes of full lines, and then others
pub lines_split : (k : ℕ) (xs ys : List ℕ) → length xs ≡ 32 * k → lines_text (xs ++ ys) ≡ lines_text xs ++ lines_text ys
lines_split zero xs ys e =
    let none : xs ≡ [] = nil_from_length xs e in
    ap (λ l. lines_text (l ++ ys)) none ∙ ap (λ l. lines_text l ++ lines_text ys) (sym none)
lines_split (suc k) xs ys e =
    let line : List ℕ = take 32 xs in
    let later : List ℕ = drop 32 xs in
    let whole : xs ≡ line ++ later = sym (take-append-drop 32 xs) in
    let size : length line ≡ 32 = length-take-le 32 xs (omega (arith, e)) in
    let left : length later ≡ 32 * k = length-drop 32 xs ∙ omega (arith, e) in
    full_line (xs ++ ys) line (later ++ ys) (ap (λ l. l ++ ys) whole ∙ append_assoc line later ys) size
    ∙ ap (λ t. line_text line ++ t) (lines_split k later ys left)
    ∙ sym (append_assoc (line_text line) (lines_text later) (lines_text ys))
    ∙ ap (λ t. t ++ lines_text ys) (sym (full_line xs line later whole size))

-- a piece of 32,768 bytes, or all that is left, and then the rest
pub one_piece : (rest piece later : List ℕ) → rest ≡ piece ++ later → length piece ≡ min 32768 (length rest) → lines_text rest ≡ lines_text piece ++ lines_text later
one_piece rest piece later e size = go (grind arith)
  where
    all : length rest ≡ length piece + length later
    all = ap length e ∙ length-append piece later

    go : (32768 ≤ length rest) ⊎ (length rest < 32768) → lines_text rest ≡ lines_text piece ++ lines_text later
    go (inl l) = ap lines_text e ∙ lines_split 1024 piece later (size ∙ min-eq_left l)
    go (inr l) =
        let n : length piece ≡ length rest = size ∙ min-eq_right (omega arith) in
        let a = all in
        let none : later ≡ [] = nil_from_length later (omega (arith, a, n)) in
        ap lines_text (e ∙ ap (λ t. piece ++ t) none ∙ append-nil piece)
        ∙ sym (append-nil (lines_text piece))
        ∙ ap (λ t. lines_text piece ++ lines_text t) (sym none)
