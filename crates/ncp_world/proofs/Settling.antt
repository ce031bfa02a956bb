-- What was tried, and what that leaves, of hosts of any kind.
use Rattle.std.proofs.Common.{◌≡◌, ◌≢◌, ◌<◌, ℕ, Bool, Some, subst}
use Rattle.std.specs.Prelude.{slice_get}
use Rattle.ncp_transcript_two.specs.Transcript.{Noted_hosts}
use Rattle.ncp_world.specs.Kinds.{Kind, IsTriedOf, IsStillAt}

module _ {Name E N H : Type 0} (kind : Kind Name E N H) where
  -- it was tried, and happened, or not
  pub tried-so : (event called : E) (before now : Noted_hosts H N) (done is : Bool) → called ≡ event → IsTriedOf kind called done before now → done ≡ is → IsTriedOf kind event is before now
  tried-so event called before now done is same tried e = subst (λ (b : Bool). IsTriedOf kind event b before now) e (subst (λ (it : E). IsTriedOf kind it done before now) same tried)

  -- nothing of the host at a place to those before another place is ready, in transit or held; then: of all
  -- hosts before a place

  abbrev pub StillBefore : ℕ → Name → ℕ → H → Type 0
  StillBefore at from place h = (k : ℕ) (to : Name) → k < place → slice_get (kind.names h) k ≡ Some to → at ≢ k → kind.IsStill from to h

  abbrev pub AllStillBefore : ℕ → H → Type 0
  AllStillBefore place h = (i : ℕ) → i < place → IsStillAt kind i h
