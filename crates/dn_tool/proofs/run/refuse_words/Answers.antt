use Rattle.std.proofs.Common.{rules, ◌≡◌, subst, List, ℕ}
use Rattle.dn_tool.specs.Answer.{IsSaid, usage}
use Rattle.dn_script.specs.Halt.{ending_status}
use Rattle.dn_tool.proofs.run.refuse_words.Goals as goal

pub returns-clause-said : goal.returns-clause-said
returns-clause-said g c =
    let is : c.as_bytes.result.now ≡ usage = search rules in
    subst (λ (l : List ℕ). IsSaid 1 l (ending_status c.say.result) (g.K.Sink.written c.args.sink.now) (g.K.Sink.written c.say.new.sink)) is c.say.ensures.said
