-- The fault of the tokenizer as that of the definition. Want of memory is none: it may befall any call.
use Rattle.std.specs.Prelude.{ℕ, Option, None, Some}
use Rattle.dn_token.specs.declared.lexer.TokenFault.{TokenFault}
use Rattle.dn_token.specs.declared.lexer.TokenFault.TheVariants.{Bad, OutOfMemory}

-- the line of the first bad place
abbrev pub token_fault_view : TokenFault → Option ℕ
token_fault_view (Bad line) = Some line
token_fault_view OutOfMemory = None
