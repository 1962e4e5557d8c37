use Rattle.dn_gather.proofs.choice.is_exact.Goals as goal

pub exact-requires-clause-placed : goal.exact-requires-clause-placed
exact-requires-clause-placed g c = rw (c.new-placement.ensures, c.piece_request-request.ensures) c.requires.placed

pub exact-requires-clause-rights : goal.exact-requires-clause-rights
exact-requires-clause-rights g c = rw c.piece_request-request.ensures c.requires.ground.wanted.rights

pub returns : goal.returns
returns g c = rw (c.new-placement.ensures, c.piece_request-request.ensures) at c.exact.ensures.exact
