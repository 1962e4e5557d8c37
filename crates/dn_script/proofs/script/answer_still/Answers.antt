-- The reply to each command that changes nothing.
use Rattle.std.proofs.Common.{rules, ◌≡◌, ◌≤◌, ◌∙◌, ap, codes, sym, subst, length, List, ℕ, None}
use Rattle.dn_kind.specs.Kind.{Meaning}
use Rattle.dn_kind.specs.Kinded.{kinds_of}
use Rattle.dn_radix.specs.Built.{built}
use Rattle.dn_script.specs.Found.{access_of, agent_of, node_refused_text}
use Rattle.dn_script.specs.Halt.{Writes}
use Rattle.dn_script.specs.Radix.{book_words, radix_by, radix_text, tree_text, named_unit}
use Rattle.dn_script.specs.Viewed.{owed_rows, view_by, view_text, viewed_text}
use Rattle.dn_script.proofs.script.answer_still.Goals as goal

pub returns-in-Dump-clause-written : goal.returns-in-Dump-clause-written
returns-in-Dump-clause-written g c = rw c.in-Dump.is c.dump.ensures.written

pub returns-in-Some-clause-written : goal.returns-in-Some-clause-written
returns-in-Some-clause-written g c =
    let net = c.args.machine.on.net.now in
    let book = c.args.state.now.book.grants in
    let is : view_text net book c.in-View.target c.in-View.mode ≡ viewed_text net c.as_str-text.result.now c.in-View.mode (owed_rows net book (access_of c.in-View.mode) c.in-Some.agent) = search rules in
    rw c.in-View.is (subst (λ (t : List ℕ). Writes c.view_reply.result (g.K.Sink.written c.args.sink.now) (g.K.Sink.written c.view_reply.new.sink) t) (sym is) c.view_reply.ensures.written)

pub returns-in-None-clause-written : goal.returns-in-None-clause-written
returns-in-None-clause-written g c =
    let net = c.args.machine.on.net.now in
    let book = c.args.state.now.book.grants in
    let target = c.in-View.target in
    let none : agent_of net target.node ≡ None = search rules in
    let is : view_text net book target c.in-View.mode ≡ node_refused_text (codes "view") c.as_str-text.result.now (codes "NoAgent") = ap (view_by net book target.text c.in-View.mode) none ∙ ap (λ (t : List ℕ). node_refused_text (codes "view") t (codes "NoAgent")) (sym c.as_str-text.ensures) in
    rw c.in-View.is (subst (λ (t : List ℕ). Writes c.refuse_node.result (g.K.Sink.written c.args.sink.now) (g.K.Sink.written c.refuse_node.new.sink) t) (sym is) c.refuse_node.ensures.written)

pub radix_reply-requires : goal.radix_reply-requires
radix_reply-requires g c = subst (λ (l : List ℕ). length l ≤ 1048576) (sym c.deref.ensures.value) c.in_ok-words-in-Some-unit_of.ensures.few

pub returns-in_ok-words-in-Some-unit_of-clause-written : goal.returns-in_ok-words-in-Some-unit_of-clause-written
returns-in_ok-words-in-Some-unit_of-clause-written g c =
    let kinds : List Meaning = kinds_of (λ k. (goal.UnitKind-dyn g k).meaning k.1) c.args.machine.on.kinds.now in
    let net = c.args.machine.on.net.now in
    let book = c.args.state.now.book.grants in
    let unit : ℕ = c.in-Some-unit_of.unit in
    let words : c.deref.result.now ≡ book_words kinds net book unit = c.deref.ensures.value ∙ c.in_ok-words-in-Some-unit_of.ensures.words in
    let told : Writes c.radix_reply.result (g.K.Sink.written c.args.sink.now) (g.K.Sink.written c.radix_reply.new.sink) (tree_text c.as_str-text-in-Radix.result.now (book_words kinds net book unit) (built (book_words kinds net book unit) c.in-Radix.pool)) = subst (λ (l : List ℕ). Writes c.radix_reply.result (g.K.Sink.written c.args.sink.now) (g.K.Sink.written c.radix_reply.new.sink) (tree_text c.as_str-text-in-Radix.result.now l (built l c.in-Radix.pool))) words c.radix_reply.ensures.written in
    let is : radix_text kinds net book c.in-Radix.node c.in-Radix.pool ≡ tree_text c.as_str-text-in-Radix.result.now (book_words kinds net book unit) (built (book_words kinds net book unit) c.in-Radix.pool) = search rules in
    rw c.in-Radix.is (subst (λ (t : List ℕ). Writes c.radix_reply.result (g.K.Sink.written c.args.sink.now) (g.K.Sink.written c.radix_reply.new.sink) t) (sym is) told)

pub returns-in-None-unit_of-clause-written : goal.returns-in-None-unit_of-clause-written
returns-in-None-unit_of-clause-written g c =
    let kinds : List Meaning = kinds_of (λ k. (goal.UnitKind-dyn g k).meaning k.1) c.args.machine.on.kinds.now in
    let net = c.args.machine.on.net.now in
    let book = c.args.state.now.book.grants in
    let node = c.in-Radix.node in
    let none : named_unit net node.node ≡ None = search rules in
    let is : radix_text kinds net book node c.in-Radix.pool ≡ node_refused_text (codes "radix") c.as_str-text-in-Radix.result.now (codes "NoUnit") = ap (radix_by kinds net book node.text c.in-Radix.pool) none ∙ ap (λ (t : List ℕ). node_refused_text (codes "radix") t (codes "NoUnit")) (sym c.as_str-text-in-Radix.ensures) in
    rw c.in-Radix.is (subst (λ (t : List ℕ). Writes c.refuse_node-in-None-unit_of.result (g.K.Sink.written c.args.sink.now) (g.K.Sink.written c.refuse_node-in-None-unit_of.new.sink) t) (sym is) c.refuse_node-in-None-unit_of.ensures.written)
