-- The input of an audit: a text, a byte 0, and an image.
use Rattle.std.specs.Prelude.{ℕ, ◌+◌, if◌then◌else◌, ◌==◌, not, nat_lt, List, take, drop, length, Option, Some, None}
use Rattle.std.specs.List.{prefix_len}

-- where the first byte 0 stands, or the length where no byte is 0
abbrev pub zero_at : List ℕ → ℕ
zero_at input = prefix_len (λ b. not (b == 0)) input

-- the text: what stands before the first byte 0, or all where no byte is 0
abbrev pub text_part : List ℕ → List ℕ
text_part input = take (zero_at input) input

-- the image: what stands after the first byte 0, where there is one
abbrev pub image_part : List ℕ → Option (List ℕ)
image_part input =
    if nat_lt (zero_at input) (length input) then Some (drop (zero_at input + 1) input) else None
