-- Meant for other crates too: they cite what is public here.
--
-- What of the commands underway will act at the host to which they go, in the life that it has or is
-- about to begin.
use Rattle.std.proofs.Common.{◌≡◌, ℕ, Bool, true, false, not, ◌&&◌, ◌||◌, nat_lt, List, [], ◌∷◌, ◌++◌, refl, sym, ap, ◌∙◌, arith}
use Rattle.std.proofs.lemmas.List.{append_assoc}
use Rattle.ncp_wire.specs.declared.command.Command.{Command}
use Rattle.ncp_wire.specs.declared.command.Command.TheVariants.{Rst, Rrp}
use Rattle.ncp_model.specs.Phase.{is_other}
use Rattle.ncp_proof_machine.specs.Resets.{ResetHost, is_up}
use Rattle.ncp_model.proofs.ResetLists.{rsts, rrps, others, purged, rrps-append, rrps-purged, arrives, arrives_nothing, arrives_on}
use Rattle.ncp_proof_machine.proofs.ResetKept.{Kept}

-- the others up to the first RST or RRP
abbrev pub fronts : List Command → List Command
fronts [] = []
fronts (Rst ∷ u) = []
fronts (Rrp ∷ u) = []
fronts (c ∷ u) = c ∷ fronts u

-- those after the first RRP
abbrev pub behind : List Command → List Command
behind [] = []
behind (Rrp ∷ u) = fronts u
behind (c ∷ u) = behind u

-- for a host that waits, or does not
abbrev pub live : Bool → List Command → List Command
live true u = behind u
live false u = fronts u

-- the host is up, or will be by an RRP of the c RRPs that are underway to it
abbrev pub alive : ResetHost → ℕ → Bool
alive h c = not (h.phase.down || h.phase.want || h.phase.owe) && (not h.phase.wait || nat_lt 0 c)

-- a prefix; the commands after it were struck
abbrev pub Cut : List Command → List Command → Type 0
Cut us vs = (lost : List Command) × (us ++ lost ≡ vs)

-- any other command
pub fronts_other : (c : Command) (u : List Command) → is_other c ≡ true → fronts (c ∷ u) ≡ c ∷ fronts u
fronts_other Rst u o = cc
fronts_other Rrp u o = cc
fronts_other c u o = refl

pub after_other : (c : Command) (u : List Command) → is_other c ≡ true → behind (c ∷ u) ≡ behind u
after_other Rst u o = cc
after_other Rrp u o = cc
after_other c u o = refl

fronts_more : (c : Command) (u : List Command) → is_other c ≡ true → rsts u ≡ 0 → rrps u ≡ 0 → fronts (u ++ c ∷ []) ≡ fronts u ++ c ∷ []
fronts_more c [] o r p = fronts_other c [] o
fronts_more c (Rst ∷ u) o r p = absurd (omega arith)
fronts_more c (Rrp ∷ u) o r p = absurd (omega arith)
fronts_more c (d ∷ u) o r p = ap (λ (l : List Command). d ∷ l) (fronts_more c u o (omega arith) (omega arith))

following_more : (c : Command) (u : List Command) → is_other c ≡ true → rsts u ≡ 0 → rrps u ≡ 1 → behind (u ++ c ∷ []) ≡ behind u ++ c ∷ []
following_more c [] o r p = absurd (omega arith)
following_more c (Rst ∷ u) o r p = absurd (omega arith)
following_more c (Rrp ∷ u) o r p = fronts_more c u o (omega arith) (omega arith)
following_more c (d ∷ u) o r p = following_more c u o (omega arith) (omega arith)

fronts_rst : (u : List Command) → fronts (u ++ Rst ∷ []) ≡ fronts u
fronts_rst [] = refl
fronts_rst (Rst ∷ u) = refl
fronts_rst (Rrp ∷ u) = refl
fronts_rst (d ∷ u) = ap (λ (l : List Command). d ∷ l) (fronts_rst u)

following_rst : (u : List Command) → behind (u ++ Rst ∷ []) ≡ behind u
following_rst [] = refl
following_rst (Rrp ∷ u) = fronts_rst u
following_rst (d ∷ u) = following_rst u

pub live_rst : (w : Bool) (u : List Command) → live w (u ++ Rst ∷ []) ≡ live w u
live_rst true u = following_rst u
live_rst false u = fronts_rst u

-- no command follows an RRP that was made now
pub after_new : (u : List Command) → rrps u ≡ 0 → behind (u ++ Rrp ∷ []) ≡ []
after_new [] p = refl
after_new (Rrp ∷ u) p = absurd (omega arith)
after_new (d ∷ u) p = after_new u (omega arith)

pub fronts_others : (u : List Command) → rsts u ≡ 0 → rrps u ≡ 0 → fronts u ≡ others u
fronts_others [] r p = refl
fronts_others (Rst ∷ u) r p = absurd (omega arith)
fronts_others (Rrp ∷ u) r p = absurd (omega arith)
fronts_others (d ∷ u) r p = ap (λ (l : List Command). d ∷ l) (fronts_others u (omega arith) (omega arith))

pub after_arrives : (c u : List Command) → rsts u ≡ 0 → rrps u ≡ 1 → behind u ≡ arrives c u
after_arrives c [] r p = absurd (omega arith)
after_arrives c (Rst ∷ u) r p = absurd (omega arith)
after_arrives c (Rrp ∷ u) r p = fronts_others u (omega arith) (omega arith) ∙ sym (arrives_on [] u (omega arith) (omega arith))
after_arrives c (d ∷ u) r p = after_arrives (c ++ d ∷ []) u (omega arith) (omega arith)

-- A purge.

fronts_purged : (q : List Command) → fronts (purged q) ≡ []
fronts_purged [] = refl
fronts_purged (Rst ∷ q) = refl
fronts_purged (Rrp ∷ q) = refl
fronts_purged (d ∷ q) = fronts_purged q

after_purged : (q : List Command) → behind (purged q) ≡ []
after_purged [] = refl
after_purged (Rst ∷ q) = after_purged q
after_purged (Rrp ∷ q) = fronts_purged q
after_purged (d ∷ q) = after_purged q

fronts_cut : (x q : List Command) → Cut (fronts (x ++ purged q)) (fronts (x ++ q))
fronts_cut [] q = (fronts q, rw (fronts_purged q) refl)
fronts_cut (Rst ∷ x) q = ([], refl)
fronts_cut (Rrp ∷ x) q = ([], refl)
fronts_cut (d ∷ x) q = let k = fronts_cut x q in (k.0, ap (λ (l : List Command). d ∷ l) k.1)

following_cut : (x q : List Command) → Cut (behind (x ++ purged q)) (behind (x ++ q))
following_cut [] q = (behind q, rw (after_purged q) refl)
following_cut (Rrp ∷ x) q = fronts_cut x q
following_cut (d ∷ x) q = following_cut x q

pub live_cut : (w : Bool) (x q : List Command) → Cut (live w (x ++ purged q)) (live w (x ++ q))
live_cut true x q = following_cut x q
live_cut false x q = fronts_cut x q

pub rrps_cut : (x q : List Command) → rrps (x ++ purged q) ≡ rrps (x ++ q)
rrps_cut x q = grind (arith, rrps-append, rrps-purged)

-- With what the reset machine keeps.

module _ (h k : ResetHost) (x y : List Command) (p : Kept h k x y) where
  -- h is up: what it makes is live for a peer that is
  pub live_more : (c : Command) → is_other c ≡ true → is_up h ≡ true → alive k (rrps (x ++ h.phase.waiting)) ≡ true
      → live k.phase.wait (x ++ (h.phase.waiting ++ c ∷ [])) ≡ live k.phase.wait (x ++ h.phase.waiting) ++ c ∷ []
  live_more c o e f = rw (sym (append_assoc x h.phase.waiting (c ∷ []))) (go k.phase.wait refl)
    where
      go : (b : Bool) → k.phase.wait ≡ b → live b ((x ++ h.phase.waiting) ++ c ∷ []) ≡ live b (x ++ h.phase.waiting) ++ c ∷ []
      go true b = following_more c (x ++ h.phase.waiting) o (grind (arith, p.there.count)) (grind (arith, p.here.count))
      go false b = fronts_more c (x ++ h.phase.waiting) o (grind (arith, p.there.count)) (grind (arith, p.here.count))

  -- the due RRP goes to a peer that waits, for which nothing was made yet
  pub owed : h.phase.owe ≡ true → (k.phase.wait ≡ true) × (rrps (x ++ h.phase.waiting) ≡ 0) × (rsts (y ++ k.phase.waiting) ≡ 0)
  owed e = (grind (arith, p.here.count), grind (arith, p.here.count), grind (arith, p.here.count))

  -- nothing lives on its way from a peer that waits
  pub live_none : k.phase.wait ≡ true → rsts (y ++ k.phase.waiting) ≡ 0 → not h.phase.wait || nat_lt 0 (rrps (y ++ k.phase.waiting)) ≡ true → live h.phase.wait (y ++ k.phase.waiting) ≡ []
  live_none w r a = go h.phase.wait refl
    where
      made : k.made ≡ []
      made = p.that.made (grind arith)

      came : arrives h.came (y ++ k.phase.waiting) ≡ []
      came = p.here.waits w ∙ made

      go : (b : Bool) → h.phase.wait ≡ b → live b (y ++ k.phase.waiting) ≡ []
      go true e = after_arrives h.came (y ++ k.phase.waiting) r (grind (arith, p.there.count)) ∙ came
      go false e = fronts_others (y ++ k.phase.waiting) r (grind (arith, p.there.count)) ∙ (sym (arrives_on [] (y ++ k.phase.waiting) r (grind (arith, p.there.count))) ∙ arrives_nothing h.came (y ++ k.phase.waiting) came)
