use Rattle.std.proofs.Common.{◌≡◌, ◌∙◌, ◌≤◌, ℕ, inl, inr, IsSome, get_or, List, sym, subst, refl, arith}
use Rattle.std.proofs.lemmas.Bool.{cases_lt}
use Rattle.dn_tables.specs.Set.{words_in}
use Rattle.dn_tables.proofs.Slots.{all_of_map}
use Rattle.dn_tables.proofs.Units.{unit_fits}
use Rattle.dn_kind.specs.Kinded.{kinds_of}
use Rattle.dn_view.proofs.Held.{none_behind}
use Rattle.dn_view.proofs.range.held_end.Goals as goal

pub words-requires : goal.words-requires
words-requires g c =
    let kinds = kinds_of (λ k. (goal.UnitKind-dyn g k).meaning k.1) c.args.system.on.kinds.now in
    subst (λ o. IsSome o) (sym (unit_fits c.args.system.on.net.now kinds c.args.tables.now c.requires.fits c.args.node ∙ c.requires.unit)) refl

pub returns : goal.returns
returns g c =
    let kinds = kinds_of (λ k. (goal.UnitKind-dyn g k).meaning k.1) c.args.system.on.kinds.now in
    let net = c.args.system.on.net.now in
    let set = c.args.tables.now in
    let lawful = all_of_map _ c.args.system.on.kinds.now.list.items c.requires.system.kinded.lawful in
    let zeros : (k : ℕ) → c.zeros_from.result ≤ k → get_or (words_in set c.args.node) k 0 ≡ 0 = subst (λ (ws : List ℕ). (k : ℕ) → c.zeros_from.result ≤ k → get_or ws k 0 ≡ 0) c.words.ensures.value c.zeros_from.ensures in
    record {
      most = omega (arith, c.from-slots.ensures);
      none = λ slot l. none_behind net kinds set lawful c.requires.fits c.words.ensures.set c.args.node c.args.unit.now c.requires.unit c.zeros_from.result zeros slot
          (elim (cases_lt slot c.args.unit.now.slots) [
            | inl m ↦ inr (omega (arith, c.from-slots.ensures, l, m))
            | inr m ↦ inl m
          ]);
    }
