-- What is read of the source: a text, and with `audit` an image after it.
use Rattle.std.specs.Prelude.{ℕ, Bool, false, nat_lt, List, length, Option, Some, None}
use Rattle.std.specs.Option.{option_copied}
use Rattle.dn_base.specs.Outside.{input_limit}
use Rattle.dn_words.specs.declared.words.Task.{Task}
use Rattle.dn_words.specs.declared.words.Task.TheVariants.{Run, Check, Audit, Demo}
use Rattle.dn_audit.specs.Input.{image_part, text_part}
use Rattle.dn_tool.specs.declared.input.Input.{Input}

-- the longest input of an audit
abbrev pub longest_audit : ℕ
longest_audit = 67108864

-- the most bytes that are read of the source for what is asked: one more than the longest input, so that
-- one that is too long shows by its length
abbrev pub limit_for : Option Task → ℕ
limit_for (Some Audit) = 67108865
limit_for _ = input_limit

-- the bytes are more than the task takes; that a text is too long is a rule on texts
abbrev pub is_too_long : Task → List ℕ → Bool
is_too_long Run bytes = false
is_too_long Check bytes = false
is_too_long Audit bytes = nat_lt longest_audit (length bytes)
is_too_long (Demo agents) bytes = false

-- a text, and the bytes of an image after it, where there are such
pub record Parts : Type 0 where
  pub text : List ℕ
  pub image : Option (List ℕ)

-- the bytes are a text
abbrev pub text_alone : List ℕ → Parts
text_alone bytes = record { text = bytes; image = None }

-- what bytes say to a task: with `audit` the first byte 0 ends the text, and else all is text
abbrev pub parts_of : Task → List ℕ → Parts
parts_of Run bytes = text_alone bytes
parts_of Check bytes = text_alone bytes
parts_of Audit bytes = record { text = text_part bytes; image = image_part bytes }
parts_of (Demo agents) bytes = text_alone bytes

-- the bytes of the parts
abbrev pub parts_view : Input → Parts
parts_view i = record { text = i.text.now; image = option_copied i.image }
