use Rattle.std.proofs.Common.{rules, ◌≡◌, ◌∙◌, ap, sym, subst, List, ℕ, IfOk, Option, Some}
use Rattle.std.specs.String.{string_bytes}
use Rattle.dn_net.specs.declared.node.Name.{Name}
use Rattle.dn_kind.specs.declared.rights.Access.{Access}
use Rattle.dn_print.specs.Names.{names_text}
use Rattle.dn_script.specs.Found.{access_of, asked_text, found_text, names_under}
use Rattle.dn_script.proofs.reply.asked_reply.Goals as goal

pub returns-in_default-clause-reply : goal.returns-in_default-clause-reply
returns-in_default-clause-reply g c =
    let q = c.args.question in
    let is : found_text c.args.none.now c.args.machine.on.net.now c.args.state.now.book.grants (access_of q.mode) c.args.node q.addr ≡ c.args.none.now = search rules in
    subst (λ (t : List ℕ). IfOk c.asked_text.result (λ s. string_bytes s ≡ asked_text q.target.now q.addr q.mode t)) (sym is) c.asked_text.ensures

pub returns-clause-reply : goal.returns-clause-reply
returns-clause-reply g c =
    let q = c.args.question in
    let net = c.args.machine.on.net.now in
    let book = c.args.state.now.book.grants in
    let none : List ℕ = c.args.none.now in
    let node : c.args.node ≡ Some c.in-Some.node = search rules in
    let name : Name = record { node = c.in-Some.node; addr = q.addr } in
    let is : found_text none net book (access_of q.mode) c.args.node q.addr ≡ c.as_str.result.now =
    ap (λ (o : Option ℕ). found_text none net book (access_of q.mode) o q.addr) node
    ∙ ap (λ (a : Access). names_text net (names_under net book a name)) (sym c.access_of-access.ensures)
    ∙ sym c.in_ok-found.ensures.reply
    ∙ sym c.as_str.ensures.value in
    subst (λ (t : List ℕ). IfOk c.asked_text-2.result (λ s. string_bytes s ≡ asked_text q.target.now q.addr q.mode t)) (sym is) c.asked_text-2.ensures
