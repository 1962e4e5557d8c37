use Rattle.std.proofs.Common.{◌≡◌, ◌∙◌, refl, sym, ap, subst, rules, filter, option_copied, List, None, Bool, true, false, is_err}
use Rattle.std.proofs.lemmas.Bool.{false≢true}
use Rattle.dn_net.specs.Chain.{Member}
use Rattle.dn_kind.specs.Kind.{Meaning}
use Rattle.dn_kind.specs.Kinded.{kinds_of}
use Rattle.dn_tables.specs.Set.{words_of}
use Rattle.dn_tables.proofs.Slots.{all_of_map}
use Rattle.dn_book.specs.declared.grant.Grant.{Grant}
use Rattle.dn_book.specs.Between.{IsCaught}
use Rattle.dn_book.specs.Book.{IsFaithful, has_id, without_id}
use Rattle.dn_book.specs.Events.{AreWritten}
use Rattle.dn_book.specs.Sets.{AreHopsChanged, after_clears, clear_log, is_used_by, one_use_less}
use Rattle.dn_book.specs.State.{BookState}
use Rattle.dn_book.specs.Tables.{IsKept, tables_of}
use Rattle.dn_book.specs.Writes.{AreAdded, grant_slots, joined_slots, revoke_events}
use Rattle.dn_book.proofs.Faithful.{revoke_keeps_book}
use Rattle.dn_book.proofs.Facts.{changed_book}
use Rattle.dn_book.proofs.Live.{one_grant}
use Rattle.dn_book.proofs.Revoke.{Going, going_caught, going_fit, going_uses, going_written, revoked}
use Rattle.dn_book.proofs.Ids.{IsLive, has_live, live_found, none_live}
use Rattle.dn_book.proofs.Written.{added}
use Rattle.dn_book.proofs.book.Book.revoke.Given.{Over}
use Rattle.dn_book.proofs.book.Book.revoke.Goals.{In-Some, After-clear_grant}
use Rattle.dn_book.proofs.book.Book.revoke.Goals as goal

-- the grant that was found has the id
found : (g : Over) (c : In-Some g) → IsLive c.self.inside.grants.live c.args.id c.in-Some.live.now
found g c = live_found c.self.inside.grants.live c.args.id c.in-Some.live.now (sym (ap option_copied c.in-Some.is) ∙ c.get.ensures)

-- what is known of it
going : (g : Over) (c : In-Some g) → Going c.args.on.net.now (kinds_of (λ k. (goal.UnitKind-dyn g k).meaning k.1) c.args.on.kinds.now) c.self.inside.grants.live c.in-Some.live.now c.self.inside.tables
going g c = record {
  lawful = all_of_map _ c.args.on.kinds.now.list.items c.requires.ready.kinded.lawful;
  legal = c.requires.ready.kinded.legal;
  kept = subst (λ (b : BookState). IsKept c.args.on.net.now (kinds_of (λ k. (goal.UnitKind-dyn g k).meaning k.1) c.args.on.kinds.now) b.grants b.set) (sym c.self.view_is) c.requires.ready.kept;
  live = (found g c).live;
}

-- so a grant lives that has the id
known : (g : Over) (c : In-Some g) → has_id c.args.id c.args.self.now.grants ≡ true
known g c = sym (ap (λ (b : BookState). has_id c.args.id b.grants) c.self.view_is) ∙ has_live c.self.inside.grants.live c.args.id c.in-Some.live.now (found g c)

-- what was written, whether a write failed or none did
told : (g : Over) (c : After-clear_grant g) (failed : Bool) → Going c.args.on.net.now (kinds_of (λ k. (goal.UnitKind-dyn g k).meaning k.1) c.args.on.kinds.now) c.self.inside.grants.live c.in-Some.live.now c.self.inside.tables → is_err c.clear_grant.result ≡ failed → AreWritten (revoke_events c.args.on.net.now (kinds_of (λ k. (goal.UnitKind-dyn g k).meaning k.1) c.args.on.kinds.now) c.self.inside.grants.live c.in-Some.live.now) failed (g.D.Tables.log c.args.device.now) (g.D.Tables.log c.clear_grant.new.device) (tables_of c.args.on.net.now (kinds_of (λ k. (goal.UnitKind-dyn g k).meaning k.1) c.args.on.kinds.now) c.self.inside.grants.live) (words_of c.clear_grant.new.tables)
told g c failed goes was =
    let kinds : List Meaning = kinds_of (λ k. (goal.UnitKind-dyn g k).meaning k.1) c.args.on.kinds.now in
    going_written c.args.on.net.now kinds c.self.inside.grants.live c.in-Some.live.now c.self.inside.tables goes failed _ _ (words_of c.clear_grant.new.tables)
    (subst (λ f. AreWritten (clear_log c.self.inside.tables (filter (is_used_by 1 c.self.inside.tables) (joined_slots (grant_slots c.args.on.net.now c.in-Some.live.now)))) f (g.D.Tables.log c.args.device.now) (g.D.Tables.log c.clear_grant.new.device) (words_of c.self.inside.tables) (words_of c.clear_grant.new.tables)) was c.clear_grant.ensures.cleared.written)

-- what the device was told of it
logged : (g : Over) (c : After-clear_grant g) (failed : Bool) → IsLive c.self.inside.grants.live c.args.id c.in-Some.live.now → Going c.args.on.net.now (kinds_of (λ k. (goal.UnitKind-dyn g k).meaning k.1) c.args.on.kinds.now) c.self.inside.grants.live c.in-Some.live.now c.self.inside.tables → is_err c.clear_grant.result ≡ failed → (k : Grant) → Member k c.args.self.now.grants → k.id ≡ c.args.id → AreAdded (revoke_events c.args.on.net.now (kinds_of (λ k. (goal.UnitKind-dyn g k).meaning k.1) c.args.on.kinds.now) c.args.self.now.grants k) failed (g.D.Tables.log c.args.device.now) (g.D.Tables.log c.clear_grant.new.device)
logged g c failed live goes was k m e =
    let kinds : List Meaning = kinds_of (λ k. (goal.UnitKind-dyn g k).meaning k.1) c.args.on.kinds.now in
    let one : k ≡ c.in-Some.live.now = one_grant c.args.on.net.now c.requires.ready.kinded.legal.legal c.self.inside.grants.live c.in-Some.live.now goes.kept.sound live.live k (subst (λ (b : BookState). Member k b.grants) (sym c.self.view_is) m) (e ∙ sym live.same) in
    subst (λ (b : BookState). AreAdded (revoke_events c.args.on.net.now kinds b.grants k) failed (g.D.Tables.log c.args.device.now) (g.D.Tables.log c.clear_grant.new.device)) c.self.view_is
    (subst (λ (w : Grant). AreAdded (revoke_events c.args.on.net.now kinds c.self.inside.grants.live w) failed (g.D.Tables.log c.args.device.now) (g.D.Tables.log c.clear_grant.new.device)) (sym one) (added _ failed _ _ _ _ (told g c failed goes was)))

pub returns-in_default-clause-unknown : goal.returns-in_default-clause-unknown
returns-in_default-clause-unknown g c =
    let none : c.get.result ≡ None = search rules in
    let no : has_id c.args.id c.args.self.now.grants ≡ false = sym (ap (λ (b : BookState). has_id c.args.id b.grants) c.self.view_is) ∙ none_live c.self.inside.grants.live c.args.id (sym (ap option_copied none) ∙ c.get.ensures) in
    ((λ e. no), (λ e. refl))

pub returns-in_default-clause-added : goal.returns-in_default-clause-added
returns-in_default-clause-added g c k m e =
    let none : c.get.result ≡ None = search rules in
    let no : has_id c.args.id c.self.inside.grants.live ≡ false = none_live c.self.inside.grants.live c.args.id (sym (ap option_copied none) ∙ c.get.ensures) in
    let yes : has_id c.args.id c.self.inside.grants.live ≡ true = has_live c.self.inside.grants.live c.args.id k (record { live = subst (λ (b : BookState). Member k b.grants) (sym c.self.view_is) m; same = e }) in
    absurd (false≢true (sym no ∙ yes))

pub clear_grant-requires-clause-hops : goal.clear_grant-requires-clause-hops
clear_grant-requires-clause-hops g c = going_fit _ _ _ _ _ (going g (goal.at.clear_grant-requires-clause-hops g c).In-Some)

pub returns-then-is_err-clause-added : goal.returns-then-is_err-clause-added
returns-then-is_err-clause-added g c =
    logged g (goal.at.returns-then-is_err-clause-added g c).After-clear_grant true (found g (goal.at.returns-then-is_err-clause-added g c).In-Some) (going g (goal.at.returns-then-is_err-clause-added g c).In-Some) (search rules)

pub returns-then-is_err-clause-caught : goal.returns-then-is_err-clause-caught
returns-then-is_err-clause-caught g c e =
    let kinds : List Meaning = kinds_of (λ k. (goal.UnitKind-dyn g k).meaning k.1) c.args.on.kinds.now in
    let was : is_err c.clear_grant.result ≡ true = search rules in
    let goes = going g (goal.at.returns-then-is_err-clause-caught g c).In-Some in
    let same = (found g (goal.at.returns-then-is_err-clause-caught g c).In-Some).same in
    subst (λ (b : BookState). IsCaught c.args.on.net.now kinds (words_of c.clear_grant.new.tables) b.grants (without_id c.args.id b.grants)) c.self.view_is
    (subst (λ n. IsCaught c.args.on.net.now kinds (words_of c.clear_grant.new.tables) c.self.inside.grants.live (without_id n c.self.inside.grants.live)) same
    (going_caught c.args.on.net.now kinds c.self.inside.grants.live c.in-Some.live.now c.self.inside.tables goes true _ _ _ (told g (goal.at.returns-then-is_err-clause-caught g c).After-clear_grant true goes was)))

pub returns-then-is_err-clause-unknown : goal.returns-then-is_err-clause-unknown
returns-then-is_err-clause-unknown g c = ((λ e. cc), (λ e. absurd (false≢true (sym e ∙ known g (goal.at.returns-then-is_err-clause-unknown g c).In-Some))))

pub end_uses-requires-clause-hops : goal.end_uses-requires-clause-hops
end_uses-requires-clause-hops g c = going_fit _ _ _ _ _ (going g (goal.at.end_uses-requires-clause-hops g c).In-Some)

pub end_uses-requires-clause-used : goal.end_uses-requires-clause-used
end_uses-requires-clause-used g c =
    let was : is_err c.clear_grant.result ≡ false = search rules in
    let made : c.clear_grant.new.tables ≡ after_clears c.self.inside.tables (filter (is_used_by 1 c.self.inside.tables) (joined_slots (grant_slots c.args.on.net.now c.in-Some.live.now))) = c.clear_grant.ensures.cleared.done was in
    going_uses _ _ _ _ _ (going g (goal.at.end_uses-requires-clause-used g c).In-Some) c.clear_grant.new.tables made

pub returns-clause-revoked : goal.returns-clause-revoked
returns-clause-revoked g c = c.remove.ensures.left ∙ ap (λ (b : BookState). without_id c.args.id b.grants) c.self.view_is

pub returns-clause-faithful : goal.returns-clause-faithful
returns-clause-faithful g c f =
    let left : c.remove.new.self.live ≡ without_id c.args.id c.args.self.now.grants = c.remove.ensures.left ∙ ap (λ (b : BookState). without_id c.args.id b.grants) c.self.view_is in
    subst (λ (b : List Grant). IsFaithful c.args.on.net.now b) (sym left) ((revoke_keeps_book c.args.on.net.now c.args.self.now.grants c.args.id c.requires.ready.kinded.legal.legal c.requires.ready.kept.sound).1 f)

pub returns-clause-changed : goal.returns-clause-changed
returns-clause-changed g c =
    let kinds : List Meaning = kinds_of (λ k. (goal.UnitKind-dyn g k).meaning k.1) c.args.on.kinds.now in
    let was : is_err c.clear_grant.result ≡ false = search rules in
    let made : c.clear_grant.new.tables ≡ after_clears c.self.inside.tables (filter (is_used_by 1 c.self.inside.tables) (joined_slots (grant_slots c.args.on.net.now c.in-Some.live.now))) = c.clear_grant.ensures.cleared.done was in
    let all : c.remove.new.self.live ≡ without_id c.in-Some.live.now.id c.self.inside.grants.live = c.remove.ensures.left ∙ ap (λ n. without_id n c.self.inside.grants.live) (sym (found g (goal.at.returns-clause-changed g c).In-Some).same) in
    let goes = going g (goal.at.returns-clause-changed g c).In-Some in
    let changed : AreHopsChanged c.args.on.net.now c.in-Some.live.now.request.size (λ place. one_use_less) c.in-Some.live.now.placement.hops c.clear_grant.new.tables c.end_uses.new.tables = c.end_uses.ensures in
    let kept : IsKept c.args.on.net.now kinds c.remove.new.self.live c.end_uses.new.tables = subst (λ (b : List Grant). IsKept c.args.on.net.now kinds b c.end_uses.new.tables) (sym all) (revoked c.args.on.net.now kinds c.self.inside.grants.live c.in-Some.live.now c.self.inside.tables goes _ _ c.clear_grant.new.tables c.end_uses.new.tables made (told g (goal.at.returns-clause-changed g c).After-clear_grant false goes was) changed) in
    changed_book _ _ _ _ _ _ _ _ _ kept refl (search rules) (search rules) (search rules)

pub returns-clause-added : goal.returns-clause-added
returns-clause-added g c =
    logged g (goal.at.returns-clause-added g c).After-clear_grant false (found g (goal.at.returns-clause-added g c).In-Some) (going g (goal.at.returns-clause-added g c).In-Some) (search rules)

pub returns-clause-unknown : goal.returns-clause-unknown
returns-clause-unknown g c = ((λ e. cc), (λ e. absurd (false≢true (sym e ∙ known g (goal.at.returns-clause-unknown g c).In-Some))))
