-- A description that breaks no rule, as a session.
use Rattle.std.proofs.Common.{◌≡◌, ◌∙◌, ap, sym, subst, arith, ℕ, ◌≤◌, false, List, [], length, map, Ok, None}
use Rattle.std.proofs.lemmas.List.{length-map}
use Rattle.dn_net.specs.declared.node.NodeDecl.{NodeDecl}
use Rattle.dn_kind.specs.Kind.{Meaning}
use Rattle.dn_kind.specs.Units.{IsLegalWith, shape_fault}
use Rattle.dn_kind.proofs.Shapes.{shape_fault_is_first}
use Rattle.dn_tables.specs.Set.{fresh_set, tables_of_set}
use Rattle.dn_tables.specs.Writes.{make_event}
use Rattle.dn_walk.specs.Rows.{AreWalksOf, Table}
use Rattle.dn_tool.specs.Compiled.{compilation, platform_view, with_refusal}
use Rattle.dn_tool.specs.Platform.{PlatformState}
use Rattle.dn_session.specs.Open.{SessionState}
use Rattle.dn_session.specs.Shipped.{shipped_kinds}
use Rattle.netconf_c.specs.Opening.{IsOpenedFrom}

four : length shipped_kinds ≤ 255
unfolding shipped_kinds
four = omega arith

-- the shipped kinds are few
pub few_kinds : {X : Type 0} (f : X → Meaning) (xs : List X) → map f xs ≡ shipped_kinds → length xs ≤ 255
few_kinds f xs e = subst (λ n. n ≤ 255) (sym (ap length e) ∙ length-map xs f) four

-- the net of a platform is legal with the shipped kinds
pub platform_legal : (ks : List Meaning) (net : List NodeDecl) (walks : Table) → ks ≡ shipped_kinds → AreWalksOf net walks → shape_fault ks net ≡ None → IsLegalWith shipped_kinds net
platform_legal ks net walks shipped walked none =
    subst (λ (l : List Meaning). IsLegalWith l net) shipped (record { legal = walked.legal; shaped = (shape_fault_is_first ks net).0.0 none })

-- a session is that of the text
pub opened_from : (text : List ℕ) (ks : List Meaning) (p : PlatformState) (net : List NodeDecl) (s : SessionState) → ks ≡ shipped_kinds → with_refusal (compilation ks text) ≡ Ok (platform_view p) → net ≡ p.net → s.net ≡ net → s.book.grants ≡ [] → s.book.cleared ≡ false → s.pending ≡ map make_event (tables_of_set (fresh_set shipped_kinds net)) → IsOpenedFrom text s
opened_from text ks p net s shipped compiled same is none cleared pending = record {
  made = platform_view p;
  compiled = subst (λ (l : List Meaning). with_refusal (compilation l text) ≡ Ok (platform_view p)) shipped compiled;
  net = is ∙ same;
  none = none;
  cleared = cleared;
  pending = pending ∙ ap (λ (n : List NodeDecl). map make_event (tables_of_set (fresh_set shipped_kinds n))) same;
}
