-- The request is the one for the vector, at the line.
use Rattle.std.proofs.Common.{◌≡◌, ◌∙◌, sym, subst, false, Some}
use Rattle.std.proofs.lemmas.Bool.{false≢true}
use Rattle.dn_placement.specs.Order.{IsFirst, NoneSuited}
use Rattle.dn_book.specs.Book.{slots_of}
use Rattle.dn_vector.specs.Vectors.{is_taken_vector}
use Rattle.dn_vector.proofs.Founds.{found_or}
use Rattle.dn_vector.proofs.search.placement_of.Goals as goal

pub returns-then-contains : goal.returns-then-contains
returns-then-contains g c = λ untaken. absurd (false≢true (sym untaken ∙ (sym (c.requires.sought.taken c.args.vector c.requires.few) ∙ (sym c.contains.ensures ∙ c.if-contains.true))))

pub returns : goal.returns
returns g c =
    let net = c.args.asked.system.on.net.now in
    let book = c.args.asked.book.now.grants in
    let untaken : is_taken_vector book c.args.asked.node c.args.vector ≡ false = sym (c.requires.sought.taken c.args.vector c.requires.few) ∙ (sym c.contains.ensures ∙ c.if-contains.false) in
    found_or c.first_in_book_from.result c.first_in_book_from.ensures.first c.first_in_book_from.ensures.none
    (λ p is. record { untaken = untaken; first = subst (λ rq. IsFirst net (slots_of net book) rq (Some c.args.asked.line) p) c.vector_request-request.ensures (subst (λ at. IsFirst net (slots_of net book) c.vector_request-request.result at p) c.requires.sought.line is) })
    (λ f free. subst (λ rq. NoneSuited net (slots_of net book) rq (Some c.args.asked.line)) c.vector_request-request.ensures
    (subst (λ at. NoneSuited net (slots_of net book) c.vector_request-request.result at) c.requires.sought.line f))
