-- What is kept of one link, and what its deeds have come to.
use Rattle.std.proofs.Common.{◌≡◌, ℕ, Bool, true, false, List, [], ◌∷◌, refl}
use Rattle.ncp_transcript_two.specs.Honest.{MessageEvent, Other, InFlight, Clear, Flying, Landed, HonestFrom, RepeatsFrom}
use Rattle.ncp_interface.specs.declared.sent_message.SentMessage.{SentMessage}
use Rattle.ncp_interface.specs.declared.sent_message.LinkState.{LinkState}

-- what the deeds have come to: what is in flight, the last message, and whether the next one may be another
pub record State : Type 0 where
  pub p : InFlight
  pub last : List Bool
  pub fresh : Bool

abbrev pub Good : ℕ → State → List MessageEvent → Type 0
Good from s ds = HonestFrom from s.p ds × RepeatsFrom s.last s.fresh ds

abbrev pub StandsOne : State → LinkState → List Bool → Type 0
StandsOne s LinkState.Unknown m = ⊥
StandsOne s LinkState.Empty m = ⊥
StandsOne s LinkState.Out m = (s.p ≡ Flying m) × (s.last ≡ m)
StandsOne s LinkState.Came m = s.p ≡ Landed
StandsOne s LinkState.Again m = (s.p ≡ Clear) × (s.last ≡ m) × (s.fresh ≡ false)

abbrev pub Stands : State → List SentMessage → Type 0
Stands s [] = (s.p ≡ Clear) × (s.fresh ≡ true)
Stands s (k ∷ []) = StandsOne s k.slot k.message
Stands s (k ∷ other ∷ more) = ⊥

pub only : (s : State) (k : SentMessage) (rest : List SentMessage) → Stands s (k ∷ rest) → (rest ≡ []) × StandsOne s k.slot k.message
only s k [] h = (refl, h)
only s k (other ∷ more) h = absurd h

-- nothing was done
pub other_is : (from : ℕ) (s : State) (ds : List MessageEvent) → (Good from s (Other ∷ ds) → Good from s ds) × (Good from s ds → Good from s (Other ∷ ds))
other_is from s ds = go s.p s.fresh
  where
    go : (p : InFlight) (f : Bool) → (HonestFrom from p (Other ∷ ds) × RepeatsFrom s.last f (Other ∷ ds) → HonestFrom from p ds × RepeatsFrom s.last f ds) × (HonestFrom from p ds × RepeatsFrom s.last f ds → HonestFrom from p (Other ∷ ds) × RepeatsFrom s.last f (Other ∷ ds))
    go Clear true = (λ x. x, λ x. x)
    go (Flying m) true = (λ x. x, λ x. x)
    go Landed true = (λ x. x, λ x. x)
    go Clear false = (λ x. x, λ x. x)
    go (Flying m) false = (λ x. x, λ x. x)
    go Landed false = (λ x. x, λ x. x)
