-- The reserved words and the signs: when two are the same, and the texts of the reserved words.
use Rattle.std.specs.Prelude.{ℕ, Bool, if◌then◌else◌, List, [], ◌∷◌}
use denote.Enum.Bare.{sameb}
use Rattle.dn_token.specs.contracts.token.Sign.{the_type as the_signs}
use Rattle.dn_token.specs.contracts.token.Keyword.{the_type as the_keywords}
use Rattle.dn_token.specs.declared.token.Keyword.{Keyword}
use Rattle.dn_token.specs.declared.token.Sign.{Sign}
use Rattle.dn_token.specs.Token.{reserved_words}

-- whether the second one is the first
abbrev pub same_keyword : Keyword → Keyword → Bool
same_keyword k l = sameb the_keywords l k

-- whether the second sign is the first
abbrev pub same_sign : Sign → Sign → Bool
same_sign s u = sameb the_signs u s

-- the text that stands beside a reserved word
abbrev pub text_among : List (List ℕ × Keyword) → Keyword → List ℕ
text_among [] k = []
text_among (r ∷ rs) k = if same_keyword k r.1 then r.0 else text_among rs k

-- the text of a reserved word
unfoldable pub spelling : Keyword → List ℕ
spelling k = text_among reserved_words k
