use Rattle.std.proofs.Common.{◌∙◌, ap, nat_lt}
use Rattle.dn_token.proofs.Classes.{word_class}
use Rattle.dn_token.proofs.class.is_word_byte.Goals as goal

pub returns : goal.returns
returns c = ap (λ k. nat_lt k 17) c.class_of.ensures ∙ word_class c.args.byte
