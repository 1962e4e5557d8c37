use Rattle.std.proofs.Common.{◌∙◌, ap, sym, Err}
use Rattle.dn_lookup.specs.declared.lookup.LookupFault.TheVariants.{Image}
use Rattle.netconf_c.proofs.Fault.{lookup_broken}
use Rattle.netconf_c.proofs.images.lookup.Goals as goal

pub returns-in-Err-Image-clause-broken : goal.returns-in-Err-Image-clause-broken
returns-in-Err-Image-clause-broken c l =
    lookup_broken c.args.session.now c.args.image.now c.args.name c.args.access c.lookup.result _ _ _ (c.in-Err-Image.is ∙ ap (λ f. Err f) (c.in-Err-Image.field-0-is ∙ ap (λ f. Image f) (sym c.in-Err-Image.fault-is))) c.lookup.ensures c.broken.ensures.told c.broken.ensures.memory l
