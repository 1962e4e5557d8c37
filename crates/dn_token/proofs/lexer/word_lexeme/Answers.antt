use Rattle.std.proofs.Common.{◌∙◌, ap}
use Rattle.std.proofs.lemmas.Str.{IsUtf8-from_ascii}
use Rattle.dn_token.specs.Token.{word_lexeme}
use Rattle.dn_token.proofs.Words.{is_reserved, is_word}
use Rattle.dn_token.proofs.lexer.word_lexeme.Goals as goal

pub from_utf8_unchecked-word-requires : goal.from_utf8_unchecked-word-requires
from_utf8_unchecked-word-requires c = IsUtf8-from_ascii c.args.run.now c.requires

pub returns-in-Some : goal.returns-in-Some
returns-in-Some c = is_reserved c.from_utf8_unchecked-word.result.now c.in-Some.keyword c.in-Some.ensures ∙ ap word_lexeme c.from_utf8_unchecked-word.ensures

pub returns-in-None : goal.returns-in-None
returns-in-None c = is_word c.from_utf8_unchecked-word.result.now c.in-None.ensures ∙ ap word_lexeme c.from_utf8_unchecked-word.ensures
