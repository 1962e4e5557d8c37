use Rattle.dn_script.proofs.state.Session.make.Goals as goal

pub returns-clause-ready : goal.returns-clause-ready
returns-clause-ready g c = record {
  machine = c.requires.machine;
  state = record {
    unfailed = c.in_ok-book.ensures.unfailed;
    faithful = c.in_ok-book.ensures.faithful;
    kept = c.in_ok-book.ensures.kept;
    bytes = tt;
    first = tt;
    flat = tt;
    unmade = c.new-unmade.ensures c.args.machine.on.net.now;
  };
  on_device = c.in_ok-book.ensures.on_device;
}
