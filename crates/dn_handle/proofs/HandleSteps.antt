-- The machine value of a `Handle`, and what it owns. Assumes `Logic`.
use Rattle.std.proofs.Common.{◌≡◌, ℕ, List, [], ◌∷◌, ◌++◌, refl, subst}
use seplogic.Ra.Ura.{Ura}
use mir.Raw.{raw as bare}
use mir.Val.{Val, vstruct, vcons, vnil, of_list}
use base.Logic.{ent, guard, via, never, fst∗, snd∗, guard_i}
use contract.Monad.{fact_use}
use types.Logic.{Logic, sem}
use types.Kit.{Item, Goal, Seq, Step, step, ‵, given, ◌$◌, drop, fsplit, fjoin, fpick, fpack, feq_i, feq_l, learn, use1}
use denote.RattleType.{RattleType, Valss}
use denote.Builtin.{RawPtr}
use denote.Memory.{lone}
use denote.RawPtr.{Ptr, block_ptr, null_ptr, ptr_val, in_a_block, lies_at, Testable}
use denote.Steps.{nothing}
use denote.Struct.Struct.{within}
use denote.Struct.Owning.{shape}
use base.Fraction.{full_share}
use Rattle.std.specs.declared.option.Option.{Option}
use Rattle.std.specs.declared.option.Option.TheVariants.{None, Some}
use Rattle.std.specs.contracts.impls.GlobalAllocator.TheImpl.{ghosts}
use Rattle.std.proofs.GlobalToken.{dealloc_token-Testable}
use Rattle.std.specs.Box.Ownership.{box_owns}
use Rattle.dn_session.specs.contracts.session.Session as session
use Rattle.dn_session.specs.declared.session.Session.{Session}
use Rattle.dn_handle.specs.contracts.Handle as handle
use Rattle.dn_handle.specs.Handle.{handle_owns, heap}

abbrev pub R : RattleType
R = session.the_row

abbrev pub Handle : RattleType
Handle = handle.the_row

abbrev pub word : Ptr → Val
word p = vstruct (vcons (ptr_val p) vnil)

module _ {M : Type 1} {𝓤 : Ura M} {𝓛 : Logic 𝓤} {K : Type 0} {Γ : List (Item 𝓤)} {G : Goal 𝓤 𝓛.H} where
  pub handle_out : K → (d : Handle.Denot) (vs : List Val)
      → (vs ≡ word d.at ∷ [] → Seq K 𝓛 (‵ (handle_owns d.at d.held) ∷ Γ) G)
      → Seq K 𝓛 (‵ (Handle.own_val d vs) ∷ Γ) G
  handle_out t d vs k =
      fsplit t $ fpick t (λ vss. fsplit t $ feq_l t (λ ev. fsplit t $ feq_l t (λ ep. drop t $
      k (subst (λ (ps : List Val). vs ≡ vstruct (of_list (ps ++ [])) ∷ []) ep ev))))

  pub handle_in : K → (p : Ptr) (k : Option Session)
      → Step K 𝓛 (‵ (Handle.own_val (record { at = p; held = k }) (word p ∷ [])) ∷ Γ) G (‵ (handle_owns p k) ∷ Γ) G
  handle_in t p k = step (λ s. let v : Val = word p in
      nothing t $ feq_i t (List Val) (ptr_val p ∷ []) (ptr_val p ∷ []) refl $ fjoin t $ feq_i t (List Val) (v ∷ []) (v ∷ []) refl $ fjoin t $
      fpack t (Valss (RawPtr ∷ [])) (within (shape handle.the_type) (p, tt) (v ∷ [])) (ptr_val p ∷ [], tt) $ fjoin t $ s)

tested : {M : Type 1} {𝓤 : Ura M} (𝓛 : Logic 𝓤) (p : Ptr) (x : Session)
    → ent 𝓤 (sem 𝓛 (box_owns (ghosts.dealloc_token heap) R p x)) (guard 𝓤 (Testable p) (sem 𝓛 (box_owns (ghosts.dealloc_token heap) R p x)))
tested {𝓤 = 𝓤} 𝓛 p x = let B = sem 𝓛 (box_owns (ghosts.dealloc_token heap) R p x) in
    fact_use 𝓤 (Testable p) (via 𝓤 _ (snd∗ 𝓤 (sem 𝓛 (lies_at R full_share p x)) (sem 𝓛 (ghosts.dealloc_token heap (bare (lone R.mir)) p))) (dealloc_token-Testable 𝓛 heap (bare (lone R.mir)) p)) (guard_i 𝓤 (Testable p) B)

module _ {M : Type 1} {𝓤 : Ura M} {𝓛 : Logic 𝓤} {K : Type 0} {Γ : List (Item 𝓤)} {G : Goal 𝓤 𝓛.H} where
  -- null with nothing, or a block with a session
  pub either_held : K → (p : Ptr) (k : Option Session) → (p ≡ null_ptr → k ≡ None → Seq K 𝓛 Γ G)
      → ((b o : ℕ) (x : Session) → p ≡ block_ptr b o → k ≡ Some x → Testable (block_ptr b o) → Seq K 𝓛 (‵ (box_owns (ghosts.dealloc_token heap) R (block_ptr b o) x) ∷ Γ) G)
      → Seq K 𝓛 (‵ (handle_owns p k) ∷ Γ) G
  either_held t p None none one = feq_l t (λ e. none e refl)
  either_held t p (Some x) none one =
      in_a_block t p (λ q. box_owns (ghosts.dealloc_token heap) R q x) (fst∗ 𝓤 (never 𝓤) (sem 𝓛 (ghosts.dealloc_token heap (bare (lone R.mir)) null_ptr))) (λ b o e.
      use1 𝓛 (given (Testable (block_ptr b o)) (‵ (box_owns (ghosts.dealloc_token heap) R (block_ptr b o) x))) (tested 𝓛 (block_ptr b o) x) $ learn t (λ test. one b o x e refl test))
