use Rattle.std.proofs.Common.{sym, subst}
use Rattle.std.specs.Str.{IsAscii}
use Rattle.dn_token.proofs.Words.{run_ascii}
use Rattle.dn_token.proofs.lexer.front.Goals as goal

pub word_lexeme-requires : goal.word_lexeme-requires
word_lexeme-requires c = subst IsAscii (sym c.split_run.ensures.run) (run_ascii c.args.text.now)
