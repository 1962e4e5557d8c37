use Rattle.std.proofs.Common.{◌∙◌, rules}
use Rattle.dn_token.specs.Lexing.{reserved_word}
use Rattle.dn_token.proofs.Words.{by_length}
use Rattle.dn_token.proofs.keyword.keyword_of.Goals as goal

pub returns-in-2 : goal.returns-in-2
returns-in-2 c = c.of_two.ensures ∙ by_length 2 c.args.word.now (search rules)

pub returns-in-3 : goal.returns-in-3
returns-in-3 c = c.of_three.ensures ∙ by_length 3 c.args.word.now (search rules)

pub returns-in-4 : goal.returns-in-4
returns-in-4 c = c.of_four.ensures ∙ by_length 4 c.args.word.now (search rules)

pub returns-in-5 : goal.returns-in-5
returns-in-5 c = c.of_five.ensures ∙ by_length 5 c.args.word.now (search rules)

pub returns-in-6 : goal.returns-in-6
returns-in-6 c = c.of_six.ensures ∙ by_length 6 c.args.word.now (search rules)

pub returns-in-7 : goal.returns-in-7
returns-in-7 c = c.of_seven.ensures ∙ by_length 7 c.args.word.now (search rules)

pub returns-in_default : goal.returns-in_default
unfolding reserved_word
returns-in_default c = search rules
