use Rattle.std.proofs.Common.{◌≡◌, subst, rules, filter, reverse, List, true, false, is_err}
use Rattle.dn_base.specs.declared.device.TableEvent.{TableEvent}
use Rattle.dn_kind.specs.Kind.{Meaning}
use Rattle.dn_kind.specs.Kinded.{kinds_of}
use Rattle.dn_tables.specs.Set.{words_of}
use Rattle.dn_book.specs.Events.{AreWritten}
use Rattle.dn_book.specs.Sets.{is_used_by, put_log}
use Rattle.dn_book.specs.Writes.{fence_events, grant_slots, joined_slots}
use Rattle.dn_book.proofs.Written.{written_fence, written_stop, written_then}
use Rattle.dn_book.proofs.puts.write_grant.Goals as goal

pub returns-in_err-fence-clause-written : goal.returns-in_err-fence-clause-written
returns-in_err-fence-clause-written g c =
    let kinds : List Meaning = kinds_of (λ k. (goal.UnitKind-dyn g k).meaning k.1) c.args.on.kinds.now in
    let puts : List TableEvent = put_log kinds c.args.tables.now (filter (is_used_by 0 c.args.tables.now) (joined_slots (reverse (grant_slots c.args.on.net.now c.args.grant.now)))) in
    let failed : is_err c.from_residual.result ≡ true = search rules in
    let was : is_err c.fence.result ≡ true = search rules in
    written_stop (fence_events c.args.is_due) puts (is_err c.fence.result) _ _ _ (words_of c.args.tables.now) (words_of c.args.tables.now) failed was (written_fence c.args.is_due (is_err c.fence.result) _ _ (words_of c.args.tables.now) c.fence.ensures.added)

pub returns-clause-written : goal.returns-clause-written
returns-clause-written g c =
    let kinds : List Meaning = kinds_of (λ k. (goal.UnitKind-dyn g k).meaning k.1) c.args.on.kinds.now in
    let puts : List TableEvent = put_log kinds c.args.tables.now (filter (is_used_by 0 c.args.tables.now) (joined_slots (reverse (grant_slots c.args.on.net.now c.args.grant.now)))) in
    let was : is_err c.fence.result ≡ false = search rules in
    let words = words_of c.args.tables.now in
    written_then (fence_events c.args.is_due) puts (is_err c.put_grant.result) _ _ _ words words (words_of c.put_grant.new.tables)
    (subst (λ f. AreWritten (fence_events c.args.is_due) f (g.D.Tables.log c.args.device.now) (g.D.Tables.log c.fence.new.device) words words) was (written_fence c.args.is_due (is_err c.fence.result) _ _ words c.fence.ensures.added))
    c.put_grant.ensures.put.written
