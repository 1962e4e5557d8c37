use Rattle.std.proofs.Common.{◌∙◌, rules, sym}
use Rattle.dn_gather.proofs.Standing.{few_at, parting_begun, parting_done, parting_not, parting_on}
use Rattle.dn_gather.proofs.stands.is_parted.Goals as goal

pub loop-k-init : goal.loop-k-init
loop-k-init c = parting_begun c.args.page c.args.x c.args.size c.args.others.now c.args.inputs.now

pub are_parted-requires-clause-more : goal.are_parted-requires-clause-more
are_parted-requires-clause-more c = (few_at c.args.others.now c.args.inputs.now c.loop-k.k (record { id = 0; node = 0; base = 0; size = 0 }) c.requires.others c.loop-k-test.true).1

pub are_parted-requires-clause-fewer : goal.are_parted-requires-clause-fewer
are_parted-requires-clause-fewer c = (few_at c.args.others.now c.args.inputs.now c.loop-k.k (record { id = 0; node = 0; base = 0; size = 0 }) c.requires.others c.loop-k-test.true).2

pub returns-then-not-are_parted-clause-no : goal.returns-then-not-are_parted-clause-no
returns-then-not-are_parted-clause-no c = λ is. parting_not c.args.page c.args.x c.args.size c.loop-k.k c.args.others.now c.args.inputs.now (record { id = 0; node = 0; base = 0; size = 0 }) c.requires.others c.loop-k-test.true (sym c.are_parted.ensures ∙ c.if-not-are_parted.true) c.loop-k.invariant

pub loop-k-preserved : goal.loop-k-preserved
loop-k-preserved c = parting_on c.args.page c.args.x c.args.size c.loop-k.k c.args.others.now c.args.inputs.now (record { id = 0; node = 0; base = 0; size = 0 }) c.requires.others c.loop-k-test.true (sym c.are_parted.ensures ∙ c.if-not-are_parted.false) c.loop-k.invariant

pub returns-clause-yes : goal.returns-clause-yes
returns-clause-yes c = λ yes. parting_done c.args.page c.args.x c.args.size c.loop-k.k c.args.others.now c.args.inputs.now c.requires.others c.loop-k-test.false c.loop-k.invariant

pub bounds-others-k : goal.bounds-others-k
bounds-others-k c = (few_at c.args.others.now c.args.inputs.now c.loop-k.k (record { id = 0; node = 0; base = 0; size = 0 }) c.requires.others c.loop-k-test.true).0

pub offset_bounds-others-k : goal.offset_bounds-others-k
offset_bounds-others-k c = let within = (few_at c.args.others.now c.args.inputs.now c.loop-k.k (record { id = 0; node = 0; base = 0; size = 0 }) c.requires.others c.loop-k-test.true).0 in search rules
