use Rattle.std.proofs.Common.{◌≡◌, sym, subst, List, ℕ, false, refl}
use Rattle.dn_kind.specs.Kind.{Meaning}
use Rattle.dn_kind.specs.Kinded.{kinds_of}
use Rattle.dn_tables.proofs.Slots.{all_of_map}
use Rattle.dn_demo.specs.Text.{demo_text}
use Rattle.dn_words.specs.declared.words.Task.TheVariants.{Demo}
use Rattle.dn_tool.specs.Answer.{Answer, IsAnswered, demo_answer, is_script, bytes_answer}
use Rattle.dn_script.specs.Halt.{ending_status}
use Rattle.dn_tool.proofs.Unanswered.{bytes_legal, unanswered}
use Rattle.dn_tool.proofs.run.demo.Goals as goal

pub returns-in-Ok-clause-answered : goal.returns-in-Ok-clause-answered
returns-in-Ok-clause-answered g c =
    let kinds : List Meaning = kinds_of (λ k. (goal.UnitKind-dyn g k).meaning k.1) c.args.kinds.now in
    let P : ℕ → Answer → Type 0 = λ status a. IsAnswered kinds a status (g.K.Sink.written c.args.sink.now) (g.K.Sink.written c.answer_bytes.new.sink) (g.D.Tables.log c.args.device.now) (g.D.Tables.log c.answer_bytes.new.device) (g.D.Tables.units c.answer_bytes.new.device) (g.D.Tables.words c.answer_bytes.new.device) in
    let told : P (ending_status c.answer_bytes.result) (bytes_answer (Demo c.args.agents) kinds c.in-Ok.text.items) = rw (← c.deref.ensures.value) c.answer_bytes.ensures.answered in
    let made : P (ending_status c.answer_bytes.result) (demo_answer c.args.agents kinds) = subst (λ (t : List ℕ). P (ending_status c.answer_bytes.result) (bytes_answer (Demo c.args.agents) kinds t)) c.in-Ok.ensures told in
    subst (λ (n : ℕ). P n (demo_answer c.args.agents kinds)) (sym c.status_of.ensures) made

pub returns-in-Ok-clause-untouched : goal.returns-in-Ok-clause-untouched
returns-in-Ok-clause-untouched g c =
    let kinds : List Meaning = kinds_of (λ k. (goal.UnitKind-dyn g k).meaning k.1) c.args.kinds.now in
    let P : Answer → Type 0 = λ a. is_script a ≡ false → c.answer_bytes.new.device ≡ c.args.device.now in
    let told : P (bytes_answer (Demo c.args.agents) kinds c.in-Ok.text.items) = rw (← c.deref.ensures.value) c.answer_bytes.ensures.untouched in
    subst (λ (t : List ℕ). P (bytes_answer (Demo c.args.agents) kinds t)) c.in-Ok.ensures told

pub returns-in-Err-clause-answered : goal.returns-in-Err-clause-answered
returns-in-Err-clause-answered g c = unanswered _ _ 7 _ _ _ _ _ _ (all_of_map _ c.args.kinds.now.list.items c.requires.kinds.lawful) (bytes_legal (Demo c.args.agents) (kinds_of (λ k. (goal.UnitKind-dyn g k).meaning k.1) c.args.kinds.now) (demo_text c.args.agents)) refl refl refl (λ _. refl) refl refl (record { units = c.requires.none; sized = g.met.D.Tables.sized c.args.device.now })
