use Rattle.std.proofs.Common.{arith, rules, ◌≡◌, ◌∙◌, refl, sym, subst, ℕ, List, Option, Some, None, IfSome}
use Rattle.std.specs.String.{string_bytes}
use Rattle.dn_base.proofs.Told.{written_none}
use Rattle.dn_image.specs.Reading.{image_fault_view}
use Rattle.dn_tool.specs.Answer.{IsSaid}
use Rattle.dn_tool.specs.Audited.{broken_line}
use Rattle.dn_script.specs.Halt.{ending_status}
use Rattle.dn_script.proofs.Endings.{if_some}
use Rattle.dn_tool.proofs.audit.refuse_image.Goals as goal

-- of an output that may be there nothing was written, for want of memory
unsaid : {A : Type 0} (o : Option A) (own : ℕ) (output : A → List ℕ) (told : Option (List ℕ)) → IfSome o (λ a. IsSaid own (output a) 7 told told)
unsaid None own output told = tt
unsaid (Some a) own output told = record { exact = λ e. cc; written = written_none told told (output a) refl; no_device = λ e. omega arith }

pub returns-in_err-line-clause-said : goal.returns-in_err-line-clause-said
returns-in_err-line-clause-said g c =
    let memory : ending_status c.from_residual.result ≡ 7 = search rules in
    let told = g.K.Sink.written c.args.sink.now in
    subst (λ (n : ℕ). IfSome (image_fault_view c.args.fault) (λ broken. IsSaid 4 (broken_line broken) n told told)) (sym memory) (unsaid (image_fault_view c.args.fault) 4 broken_line told)

pub returns-clause-said : goal.returns-clause-said
returns-clause-said g c =
    let before = g.K.Sink.written c.args.sink.now in
    let after = g.K.Sink.written c.say.new.sink in
    if_some (image_fault_view c.args.fault) (λ broken. string_bytes c.in_ok-line.line ≡ broken_line broken) (λ broken. IsSaid 4 (broken_line broken) (ending_status c.say.result) before after)
    (λ broken is. subst (λ (l : List ℕ). IsSaid 4 l (ending_status c.say.result) before after) (c.as_bytes.ensures.value ∙ is) c.say.ensures.said) c.in_ok-line.ensures
