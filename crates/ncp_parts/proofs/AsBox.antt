-- The parts and the handle own what a box at the same types owns, and a handle at null nothing.
use mir.Syntax.{impl, tnil, dnil}
use Rattle.std.proofs.Common.{◌≡◌, ℕ, List, [], ◌∷◌, refl}
use seplogic.Ra.Ura.{Ura}
use base.Fraction.{full_share}
use base.Logic.{SProp, ent, via, never, fst∗, snd∗, guard, guard_i}
use types.Logic.{Logic, sem}
use types.Kit.{Item, Goal, Seq, ‵, given, ◌$◌, use1, learn, feq_l}
use contract.Monad.{fact_use}
use denote.RattleType.{RattleType}
use denote.Param.Laws.{Laws}
use denote.Signature.{Slot, plain}
use denote.Memory.{lone}
use denote.RawPtr.{Ptr, block_ptr, null_ptr, lies_at, Testable, in_a_block}
use mir.Raw.{raw as bare}
use Rattle.std.proofs.BoxSteps.Form.{Bx}
use Rattle.std.proofs.GlobalToken.{dealloc_token-Testable}
use Rattle.std.specs.Box.Ownership.{box_owns}
use Rattle.std.specs.Global.{Global}
use Rattle.std.specs.declared.option.Option.{Option}
use Rattle.std.specs.declared.option.Option.TheVariants.{None, Some}
use Rattle.std.specs.contracts.alloc.Global as Heap
use Rattle.std.specs.contracts.impls.GlobalAllocator.TheImpl.{ghosts, dict}
use Rattle.std.proofs.alloc.Global.TheLaws as heap
use Rattle.ncp_parts.specs.Owning.{owned_if_any}
use Rattle.ncp_parts.specs.contracts.parts.Parts as Parts

module _ (row : RattleType) (laws : Laws row) where
  abbrev pub E : Bx
  E = record { row = row; laws = laws; al = record { row = Heap.the_row; laws = heap.the_row_laws; g = ghosts; d = dict; drops = impl [] tnil dnil } }

abbrev pub FromParts : RattleType → Slot 0
FromParts row = plain (λ _. Parts.the_row row Heap.the_row ghosts)

module _ (row : RattleType) where
  abbrev pub boxed : Global → Ptr → row.Denot → base.Fml.Fml
  boxed a = box_owns (ghosts.dealloc_token a) row

  module _ {M : Type 1} {𝓤 : Ura M} (𝓛 : Logic 𝓤) (a : Global) where
    tested : (p : Ptr) (x : row.Denot) → ent 𝓤 (sem 𝓛 (boxed a p x)) (guard 𝓤 (Testable p) (sem 𝓛 (boxed a p x)))
    tested p x = let B : SProp 𝓤 = sem 𝓛 (boxed a p x) in
        fact_use 𝓤 (Testable p) (via 𝓤 _ (snd∗ 𝓤 (sem 𝓛 (lies_at row full_share p x)) (sem 𝓛 (ghosts.dealloc_token a (bare (lone row.mir)) p))) (dealloc_token-Testable 𝓛 a (bare (lone row.mir)) p)) (guard_i 𝓤 (Testable p) B)

  module _ {M : Type 1} {𝓤 : Ura M} {𝓛 : Logic 𝓤} {K : Type 0} {Γ : List (Item 𝓤)} {G : Goal 𝓤 𝓛.H} where
    -- a handle is null and has no value, or its value is behind the pointer
    pub either : K → (a : Global) (p : Ptr) (t : Option row.Denot) → (p ≡ null_ptr → t ≡ None → Seq K 𝓛 Γ G)
        → ((b o : ℕ) (x : row.Denot) → p ≡ block_ptr b o → t ≡ Some x → Testable (block_ptr b o) → Seq K 𝓛 (‵ (boxed a (block_ptr b o) x) ∷ Γ) G) → Seq K 𝓛 (‵ (owned_if_any row a p t) ∷ Γ) G
    either k a p None none one = feq_l k (λ e. none e refl)
    either k a p (Some x) none one =
        in_a_block k p (λ q. boxed a q x) (fst∗ 𝓤 (never 𝓤) (sem 𝓛 (ghosts.dealloc_token a (bare (lone row.mir)) null_ptr))) (λ b o e.
        use1 𝓛 (given (Testable (block_ptr b o)) (‵ (boxed a (block_ptr b o) x))) (tested 𝓛 a (block_ptr b o) x) $ learn k (λ t. one b o x e refl t))
