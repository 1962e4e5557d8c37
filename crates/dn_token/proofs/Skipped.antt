-- What stands before the first token of a text: blanks, line ends and comments.
use Rattle.std.proofs.Common.{◌≡◌, ◌∙◌, ap, refl, subst, ℕ, ◌+◌, ◌≤◌, true, false, not, List, [], ◌∷◌, length, length-drop, Ok, Err, arith}
use Rattle.std.specs.List.{prefix_len}
use Rattle.dn_token.specs.Token.{Lexeme, Front, taken, bad, with_token, then_tokens, front, is_line_feed, is_blank, after_comment}
use Rattle.dn_token.specs.Lexing.{begins_comment}
use Rattle.dn_token.specs.Going.{tokens_of}
use Rattle.dn_token.proofs.Going.{tokens_go_on}

-- The text from a line on has the tokens of its rest, which begins in a line that fits.
pub record Skipped (first : ℕ) (text : List ℕ) (line : ℕ) (rest : List ℕ) : Type 0 where
  pub same : tokens_of first text ≡ tokens_of line rest
  pub lines : line + length rest ≤ first + length text
  pub shorter : length rest ≤ length text

pub at_start : (line : ℕ) (text : List ℕ) → Skipped line text line text
at_start line text = record { same = refl; lines = omega arith; shorter = omega arith }

pub at_same : {first line : ℕ} {text s s' : List ℕ} → Skipped first text line s → s ≡ s' → Skipped first text line s'
at_same {first} {line} {text} before e = subst (Skipped first text line) e before

pub at_line : {first line b : ℕ} {text s : List ℕ} → Skipped first text line (b ∷ s) → is_line_feed b ≡ true → Skipped first text (line + 1) s
at_line {first} {line} {b} {text} {s} before is =
    let next : tokens_of line (b ∷ s) ≡ tokens_of (line + 1) s = tokens_go_on.more line b s ∙ rw is refl in
    record { same = before.same ∙ next; lines = omega (arith, before.lines); shorter = omega (arith, before.shorter) }

pub at_blank : {first line b : ℕ} {text s : List ℕ} → Skipped first text line (b ∷ s) → is_line_feed b ≡ false → is_blank b ≡ true → Skipped first text line s
at_blank {first} {line} {b} {text} {s} before no_line is =
    let next : tokens_of line (b ∷ s) ≡ tokens_of line s = tokens_go_on.more line b s ∙ rw (no_line, is) refl in
    record { same = before.same ∙ next; lines = omega (arith, before.lines); shorter = omega (arith, before.shorter) }

pub at_comment : {first line b : ℕ} {text s : List ℕ} → Skipped first text line (b ∷ s) → is_line_feed b ≡ false → is_blank b ≡ false → begins_comment (b ∷ s) ≡ true → Skipped first text line (after_comment s)
at_comment {first} {line} {b} {text} {s} before no_line no_blank is =
    let next : tokens_of line (b ∷ s) ≡ tokens_of line (after_comment s) = tokens_go_on.more line b s ∙ rw (no_line, no_blank, is) refl in
    let less : length (after_comment s) ≤ length s = omega (arith, length-drop (prefix_len (λ b. not (is_line_feed b)) s) s) in
    record { same = before.same ∙ next; lines = omega (arith, before.lines, less); shorter = omega (arith, before.shorter, less) }

-- what stands at the front decides
at_front : {first line b : ℕ} {text s : List ℕ} → Skipped first text line (b ∷ s) → is_line_feed b ≡ false → is_blank b ≡ false → begins_comment (b ∷ s) ≡ false → tokens_of first text ≡ then_tokens line (front b s) (tokens_of line)
at_front {first} {line} {b} {text} {s} before no_line no_blank no_comment =
    before.same ∙ tokens_go_on.more line b s ∙ rw (no_line, no_blank, no_comment) refl

pub at_token : {first line b : ℕ} {text s rest : List ℕ} {l : Lexeme} → Skipped first text line (b ∷ s) → is_line_feed b ≡ false → is_blank b ≡ false → begins_comment (b ∷ s) ≡ false → front b s ≡ taken l rest → tokens_of first text ≡ with_token (record { lexeme = l; line = line }) (tokens_of line rest)
at_token {first} {line} before no_line no_blank no_comment is =
    at_front before no_line no_blank no_comment ∙ ap (λ (f : Front). then_tokens line f (tokens_of line)) is

pub at_bad : {first line b : ℕ} {text s : List ℕ} → Skipped first text line (b ∷ s) → is_line_feed b ≡ false → is_blank b ≡ false → begins_comment (b ∷ s) ≡ false → front b s ≡ bad → tokens_of first text ≡ Err line
at_bad {first} {line} before no_line no_blank no_comment is =
    at_front before no_line no_blank no_comment ∙ ap (λ (f : Front). then_tokens line f (tokens_of line)) is

pub at_end : {first line : ℕ} {text : List ℕ} → Skipped first text line [] → tokens_of first text ≡ Ok []
at_end {first} {line} before = before.same ∙ tokens_go_on.none line
