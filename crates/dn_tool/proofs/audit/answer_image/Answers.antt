use Rattle.std.proofs.Common.{rules, ◌≡◌, subst, List, ℕ}
use Rattle.dn_tool.specs.Answer.{IsSaid}
use Rattle.dn_tool.specs.Audited.{no_image_line}
use Rattle.dn_script.specs.Halt.{ending_status}
use Rattle.dn_tool.proofs.audit.answer_image.Goals as goal

pub returns-in-None-clause-said : goal.returns-in-None-clause-said
returns-in-None-clause-said g c =
    let line : c.as_bytes.result.now ≡ no_image_line = search rules in
    let said : IsSaid 4 no_image_line (ending_status c.say.result) (g.K.Sink.written c.args.sink.now) (g.K.Sink.written c.say.new.sink) = subst (λ (l : List ℕ). IsSaid 4 l (ending_status c.say.result) (g.K.Sink.written c.args.sink.now) (g.K.Sink.written c.say.new.sink)) line c.say.ensures.said in
    rw c.in-None.is said
