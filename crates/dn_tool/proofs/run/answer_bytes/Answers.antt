-- The line that refuses an input that is too long, or the answer to its parts.
use Rattle.std.proofs.Common.{rules, ◌≡◌, ◌∙◌, ap, sym, subst, ℕ, ◌<◌, List, false, length, Some}
use Rattle.std.proofs.lemmas.Result.{IfOk-weaker}
use Rattle.dn_kind.specs.Kind.{Meaning}
use Rattle.dn_kind.specs.Kinded.{kinds_of}
use Rattle.dn_base.specs.Outside.{input_limit}
use Rattle.dn_tool.specs.Answer.{Answer, IsAnswered, IsSaid, is_script, text_answer, too_long_line}
use Rattle.dn_script.specs.Halt.{ending_status}
use Rattle.dn_tool.specs.Input.{Parts, is_too_long, limit_for, parts_view}
use Rattle.dn_tool.proofs.Inputs.{answered_by_parts, refused_long, short_bytes}
use Rattle.dn_tool.proofs.run.answer_bytes.Goals as goal

pub returns-then-is_too_long-clause-answered : goal.returns-then-is_too_long-clause-answered
returns-then-is_too_long-clause-answered g c =
    let kinds : List Meaning = kinds_of (λ k. (goal.UnitKind-dyn g k).meaning k.1) c.args.kinds.now in
    let line : c.as_bytes.result.now ≡ too_long_line = search rules in
    let said : IsSaid 4 too_long_line (ending_status c.say.result) (g.K.Sink.written c.args.sink.now) (g.K.Sink.written c.say.new.sink) = subst (λ (l : List ℕ). IsSaid 4 l (ending_status c.say.result) (g.K.Sink.written c.args.sink.now) (g.K.Sink.written c.say.new.sink)) line c.say.ensures.said in
    subst (λ (a : Answer). IsAnswered kinds a (ending_status c.say.result) (g.K.Sink.written c.args.sink.now) (g.K.Sink.written c.say.new.sink) (g.D.Tables.log c.args.device.now) (g.D.Tables.log c.args.device.now) (g.D.Tables.units c.args.device.now) (g.D.Tables.words c.args.device.now)) (refused_long c.args.task kinds c.args.bytes.now (sym c.if-is_too_long.ensures)) said

pub returns-clause-answered : goal.returns-clause-answered
returns-clause-answered g c =
    let kinds : List Meaning = kinds_of (λ k. (goal.UnitKind-dyn g k).meaning k.1) c.args.kinds.now in
    let fits : is_too_long c.args.task c.args.bytes.now ≡ false = sym c.if-is_too_long.ensures in
    subst (λ (a : Answer). IsAnswered kinds a (ending_status c.answer_text.result) (g.K.Sink.written c.args.sink.now) (g.K.Sink.written c.answer_text.new.sink) (g.D.Tables.log c.args.device.now) (g.D.Tables.log c.answer_text.new.device) (g.D.Tables.units c.answer_text.new.device) (g.D.Tables.words c.answer_text.new.device))
    (ap (text_answer c.args.task kinds) c.parts_of.ensures ∙ answered_by_parts c.args.task kinds c.args.bytes.now fits) c.answer_text.ensures.answered

pub returns-clause-untouched : goal.returns-clause-untouched
returns-clause-untouched g c =
    let kinds : List Meaning = kinds_of (λ k. (goal.UnitKind-dyn g k).meaning k.1) c.args.kinds.now in
    let fits : is_too_long c.args.task c.args.bytes.now ≡ false = sym c.if-is_too_long.ensures in
    subst (λ (a : Answer). is_script a ≡ false → c.answer_text.new.device ≡ c.args.device.now)
    (ap (text_answer c.args.task kinds) c.parts_of.ensures ∙ answered_by_parts c.args.task kinds c.args.bytes.now fits) c.answer_text.ensures.untouched

pub returns-clause-short : goal.returns-clause-short
returns-clause-short g c =
    let fits : is_too_long c.args.task c.args.bytes.now ≡ false = sym c.if-is_too_long.ensures in
    IfOk-weaker c.answer_text.result (λ s. s ≡ 0 → length (parts_view c.parts_of.result).text < input_limit) (λ s. s ≡ 0 → length c.args.bytes.now < limit_for (Some c.args.task))
    (λ s short done. short_bytes c.args.task c.args.bytes.now fits (subst (λ (p : Parts). length p.text < input_limit) c.parts_of.ensures (short done))) c.answer_text.ensures.short
