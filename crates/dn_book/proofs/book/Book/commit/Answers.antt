use Rattle.std.proofs.Common.{◌≡◌, ◌∙◌, ◌++◌, ◌∷◌, [], sym, ap, refl, subst, rules, option_copied, filter, reverse, List, None, Bool, true, false, is_err, IsTrue}
use Rattle.dn_kind.specs.Kind.{Meaning}
use Rattle.dn_kind.specs.Kinded.{kinds_of}
use Rattle.dn_kind.specs.Rights.{are_rights}
use Rattle.dn_tables.specs.Set.{IsOnDevice, words_of}
use Rattle.dn_tables.proofs.Slots.{all_of_map}
use Rattle.dn_book.specs.declared.grant.Grant.{Grant}
use Rattle.dn_book.specs.Between.{IsCaught}
use Rattle.dn_book.specs.Book.{has_id}
use Rattle.dn_book.specs.Events.{AreWritten}
use Rattle.dn_book.specs.Laws.{IsGrantFor}
use Rattle.dn_book.specs.Sets.{after_puts, is_used_by, put_log}
use Rattle.dn_book.specs.State.{BookState}
use Rattle.dn_book.specs.Tables.{IsKept, tables_of}
use Rattle.dn_book.specs.Writes.{AreAdded, fence_events, grant_events, grant_slots, joined_slots}
use Rattle.dn_book.proofs.Commit.{Coming, coming_caught, coming_fit, coming_open, coming_uses, coming_written, committed}
use Rattle.dn_book.proofs.Facts.{changed_book, ok_by_err}
use Rattle.dn_book.proofs.Ids.{is_behind, some_behind, taken_back}
use Rattle.dn_book.proofs.Written.{added}
use Rattle.dn_book.proofs.book.Book.commit.Given.{Over}
use Rattle.dn_book.proofs.book.Book.commit.Goals.{In-Some, After-write_grant}
use Rattle.dn_book.proofs.book.Book.commit.Goals as goal

-- the grant that was found is the one that came in
same_grant : (g : Over) (c : In-Some g) → c.in-Some.live.now ≡ c.args.grant
same_grant g c =
    let new : has_id c.args.grant.id c.self.inside.grants.live ≡ false = ap (λ (b : BookState). has_id c.args.grant.id b.grants) c.self.view_is ∙ c.requires.placed.new in
    is_behind c.self.inside.grants.live c.push.new.self.live c.args.grant c.in-Some.live.now new c.in-Ok.ensures.pushed (sym (ap option_copied c.in-Some.is) ∙ c.get.ensures)

-- what is known of it
coming : (g : Over) (c : In-Some g) → Coming c.args.on.net.now (kinds_of (λ k. (goal.UnitKind-dyn g k).meaning k.1) c.args.on.kinds.now) c.self.inside.grants.live c.in-Some.live.now c.self.inside.tables
coming g c = record {
  lawful = all_of_map _ c.args.on.kinds.now.list.items c.requires.ready.kinded.lawful;
  legal = c.requires.ready.kinded.legal;
  kept = subst (λ (b : BookState). IsKept c.args.on.net.now (kinds_of (λ k. (goal.UnitKind-dyn g k).meaning k.1) c.args.on.kinds.now) b.grants b.set) (sym c.self.view_is) c.requires.ready.kept;
  placed = subst (λ (w : Grant). IsGrantFor c.args.on.net.now c.self.inside.grants.live w) (sym (same_grant g c)) (subst (λ (b : BookState). IsGrantFor c.args.on.net.now b.grants c.args.grant) (sym c.self.view_is) c.requires.placed);
}

-- the set once its records were put
made : (g : Over) (c : After-write_grant g) → is_err c.write_grant.result ≡ false → c.write_grant.new.tables ≡ after_puts (kinds_of (λ k. (goal.UnitKind-dyn g k).meaning k.1) c.args.on.kinds.now) c.self.inside.tables (filter (is_used_by 0 c.self.inside.tables) (joined_slots (reverse (grant_slots c.args.on.net.now c.in-Some.live.now))))
made g c was = ok_by_err c.write_grant.result _ c.write_grant.ensures.done was

-- what was written, whether a call of the device failed or none did
told : (g : Over) (c : After-write_grant g) (failed : Bool) → c.in-Some.live.now ≡ c.args.grant → Coming c.args.on.net.now (kinds_of (λ k. (goal.UnitKind-dyn g k).meaning k.1) c.args.on.kinds.now) c.self.inside.grants.live c.in-Some.live.now c.self.inside.tables → is_err c.write_grant.result ≡ failed → AreWritten (grant_events c.args.on.net.now (kinds_of (λ k. (goal.UnitKind-dyn g k).meaning k.1) c.args.on.kinds.now) c.self.inside.grants.live c.self.inside.cleared c.in-Some.live.now) failed (g.D.Tables.log c.args.device.now) (g.D.Tables.log c.write_grant.new.device) (tables_of c.args.on.net.now (kinds_of (λ k. (goal.UnitKind-dyn g k).meaning k.1) c.args.on.kinds.now) c.self.inside.grants.live) (words_of c.write_grant.new.tables)
told g c failed same comes was =
    let kinds : List Meaning = kinds_of (λ k. (goal.UnitKind-dyn g k).meaning k.1) c.args.on.kinds.now in
    coming_written c.args.on.net.now kinds c.self.inside.grants.live c.in-Some.live.now c.self.inside.tables comes c.self.inside.cleared failed _ _ (words_of c.write_grant.new.tables)
    (subst (λ f. AreWritten (fence_events c.self.inside.cleared ++ put_log kinds c.self.inside.tables (filter (is_used_by 0 c.self.inside.tables) (joined_slots (reverse (grant_slots c.args.on.net.now c.in-Some.live.now))))) f (g.D.Tables.log c.args.device.now) (g.D.Tables.log c.write_grant.new.device) (words_of c.self.inside.tables) (words_of c.write_grant.new.tables)) was c.write_grant.ensures.written)

-- what the device was told of it
logged : (g : Over) (c : After-write_grant g) (failed : Bool) → c.in-Some.live.now ≡ c.args.grant → Coming c.args.on.net.now (kinds_of (λ k. (goal.UnitKind-dyn g k).meaning k.1) c.args.on.kinds.now) c.self.inside.grants.live c.in-Some.live.now c.self.inside.tables → is_err c.write_grant.result ≡ failed → AreAdded (grant_events c.args.on.net.now (kinds_of (λ k. (goal.UnitKind-dyn g k).meaning k.1) c.args.on.kinds.now) c.args.self.now.grants c.args.self.now.cleared c.args.grant) failed (g.D.Tables.log c.args.device.now) (g.D.Tables.log c.write_grant.new.device)
logged g c failed same comes was =
    let kinds : List Meaning = kinds_of (λ k. (goal.UnitKind-dyn g k).meaning k.1) c.args.on.kinds.now in
    subst (λ (b : BookState). AreAdded (grant_events c.args.on.net.now kinds b.grants b.cleared c.args.grant) failed (g.D.Tables.log c.args.device.now) (g.D.Tables.log c.write_grant.new.device)) c.self.view_is
    (subst (λ (w : Grant). AreAdded (grant_events c.args.on.net.now kinds c.self.inside.grants.live c.self.inside.cleared w) failed (g.D.Tables.log c.args.device.now) (g.D.Tables.log c.write_grant.new.device)) same (added _ failed _ _ _ _ (told g c failed same comes was)))

pub write_grant-requires : goal.write_grant-requires
write_grant-requires g c =
    let comes = coming g (goal.at.write_grant-requires g c).In-Some in
    record {
      lawful = c.requires.ready.kinded.lawful;
      shaped = c.requires.ready.kinded.legal.shaped;
      fits = comes.kept.fits;
      on_device = subst (λ (b : BookState). IsOnDevice b.set (g.D.Tables.units c.args.device.now) (g.D.Tables.words c.args.device.now)) (sym c.self.view_is) c.requires.ready.on_device;
      hops = coming_fit _ _ _ _ _ comes;
      rights = subst (λ (w : Grant). IsTrue (are_rights w.request.rights)) (sym (same_grant g (goal.at.write_grant-requires g c).In-Some)) c.requires.placed.rights;
      opened = coming_open _ _ _ _ _ comes;
    }

pub returns-then-is_err-clause-added : goal.returns-then-is_err-clause-added
returns-then-is_err-clause-added g c other =
    logged g (goal.at.returns-then-is_err-clause-added g c).After-write_grant true (same_grant g (goal.at.returns-then-is_err-clause-added g c).In-Some) (coming g (goal.at.returns-then-is_err-clause-added g c).In-Some) (search rules)

pub returns-then-is_err-clause-caught : goal.returns-then-is_err-clause-caught
returns-then-is_err-clause-caught g c e =
    let kinds : List Meaning = kinds_of (λ k. (goal.UnitKind-dyn g k).meaning k.1) c.args.on.kinds.now in
    let was : is_err c.write_grant.result ≡ true = search rules in
    let same : c.in-Some.live.now ≡ c.args.grant = same_grant g (goal.at.returns-then-is_err-clause-caught g c).In-Some in
    let comes = coming g (goal.at.returns-then-is_err-clause-caught g c).In-Some in
    subst (λ (b : BookState). IsCaught c.args.on.net.now kinds (words_of c.write_grant.new.tables) b.grants (b.grants ++ c.args.grant ∷ [])) c.self.view_is
    (subst (λ (w : Grant). IsCaught c.args.on.net.now kinds (words_of c.write_grant.new.tables) c.self.inside.grants.live (c.self.inside.grants.live ++ w ∷ [])) same
    (coming_caught c.args.on.net.now kinds c.self.inside.grants.live c.in-Some.live.now c.self.inside.tables comes c.self.inside.cleared true _ _ _ (told g (goal.at.returns-then-is_err-clause-caught g c).After-write_grant true same comes was)))

pub add_uses-requires-clause-hops : goal.add_uses-requires-clause-hops
add_uses-requires-clause-hops g c = coming_fit _ _ _ _ _ (coming g (goal.at.add_uses-requires-clause-hops g c).In-Some)

pub add_uses-requires-clause-may : goal.add_uses-requires-clause-may
add_uses-requires-clause-may g c =
    let was : is_err c.write_grant.result ≡ false = search rules in
    coming_uses _ _ _ _ _ (coming g (goal.at.add_uses-requires-clause-may g c).In-Some) _ (made g (goal.at.add_uses-requires-clause-may g c).After-write_grant was)

pub returns-clause-changed : goal.returns-clause-changed
returns-clause-changed g c =
    let kinds : List Meaning = kinds_of (λ k. (goal.UnitKind-dyn g k).meaning k.1) c.args.on.kinds.now in
    let was : is_err c.write_grant.result ≡ false = search rules in
    let same : c.in-Some.live.now ≡ c.args.grant = same_grant g (goal.at.returns-clause-changed g c).In-Some in
    let comes = coming g (goal.at.returns-clause-changed g c).In-Some in
    let all : c.push.new.self.live ≡ c.self.inside.grants.live ++ c.in-Some.live.now ∷ [] = c.in-Ok.ensures.pushed ∙ ap (λ (w : Grant). c.self.inside.grants.live ++ w ∷ []) (sym same) in
    let kept : IsKept c.args.on.net.now kinds c.push.new.self.live c.add_uses.new.tables = subst (λ (b : List Grant). IsKept c.args.on.net.now kinds b c.add_uses.new.tables) (sym all) (committed c.args.on.net.now kinds c.self.inside.grants.live c.in-Some.live.now c.self.inside.tables comes c.self.inside.cleared _ _ c.write_grant.new.tables c.add_uses.new.tables (made g (goal.at.returns-clause-changed g c).After-write_grant was) (told g (goal.at.returns-clause-changed g c).After-write_grant false same comes was) c.add_uses.ensures) in
    changed_book _ _ _ _ _ _ _ _ _ kept refl (search rules) (search rules) (search rules)

pub returns-clause-added : goal.returns-clause-added
returns-clause-added g c other =
    logged g (goal.at.returns-clause-added g c).After-write_grant false (same_grant g (goal.at.returns-clause-added g c).In-Some) (coming g (goal.at.returns-clause-added g c).In-Some) (search rules)

pub returns-then-is_err-clause-refused : goal.returns-then-is_err-clause-refused
returns-then-is_err-clause-refused g c =
    let new : has_id c.args.grant.id c.self.inside.grants.live ≡ false = ap (λ (b : BookState). has_id c.args.grant.id b.grants) c.self.view_is ∙ c.requires.placed.new in
    let pushed : c.push.new.self.live ≡ c.self.inside.grants.live ++ c.args.grant ∷ [] = c.in-Ok.ensures.pushed in
    c.remove.ensures.left ∙ taken_back c.self.inside.grants.live c.push.new.self.live c.args.grant new pushed ∙ ap (λ (b : BookState). b.grants) c.self.view_is

pub unreachable-requires : goal.unreachable-requires
unreachable-requires g c =
    let none : c.get.result ≡ None = search rules in
    let new : has_id c.args.grant.id c.self.inside.grants.live ≡ false = ap (λ (b : BookState). has_id c.args.grant.id b.grants) c.self.view_is ∙ c.requires.placed.new in
    let pushed : c.push.new.self.live ≡ c.self.inside.grants.live ++ c.args.grant ∷ [] = c.in-Ok.ensures.pushed in
    some_behind c.self.inside.grants.live c.push.new.self.live c.args.grant new pushed (sym (ap option_copied none) ∙ c.get.ensures)
