-- What an address of an agent resolves to is what it is owed.
use Rattle.std.proofs.Common.{rules, ◌≡◌, ◌∙◌, ap, codes}
use Rattle.std.specs.String.{string_bytes}
use Rattle.dn_script.specs.Found.{access_of, agent_of, asked_text, found_text}
use Rattle.dn_script.proofs.Lookups.{found_is_owed}
use Rattle.dn_script.proofs.reply.reply.Goals as goal

pub returns-in_ok-asked_reply-in-Lookup-clause-reply : goal.returns-in_ok-asked_reply-in-Lookup-clause-reply
returns-in_ok-asked_reply-in-Lookup-clause-reply g c =
    let net = c.args.machine.on.net.now in
    let book = c.args.state.now.book.grants in
    let target = c.in-Lookup.target in
    let access = access_of c.in-Lookup.mode in
    let found : string_bytes c.in_ok-asked_reply-in-Lookup.field-0 ≡ asked_text target c.in-Lookup.addr c.in-Lookup.mode (found_text (codes "no such agent") net book access (agent_of net target.node) c.in-Lookup.addr) = search rules in
    let owed = ap (asked_text target c.in-Lookup.addr c.in-Lookup.mode) (found_is_owed net book c.requires.ready.state.faithful access target.node c.in-Lookup.addr) in
    rw c.in-Lookup.is (ap (λ v. v.items) c.into_bytes-in-Lookup.ensures.value ∙ found ∙ owed)
