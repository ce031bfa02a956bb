-- The event that is next without a call, in this profile's order, and hosts that perform such events. The
-- first host that has one performs it.
use Rattle.std.specs.Prelude.{◌≡◌, ℕ, zero, suc, ◌==◌, Bool, true, false, if◌then◌else◌, List, [], ◌∷◌, Option, None, Some, option_map}
use Rattle.std.specs.Option.{option_or}
use Rattle.ncp_subnet.specs.declared.transit.Transit.TheVariants.{Free, Accepted, Delivered, Lost, Dead}
use Rattle.ncp_subnet.specs.Ways.{OnLink}
use Rattle.ncp_world.specs.Lowest.{lowest_kept}
use Rattle.ncp_transcript_two.specs.Transcript.{Noted_hosts}
use Rattle.ncp_world.specs.Kinds.{Kind, IsStepOf}

-- the first `Some` that `has` returns, over the elements of a list with their indexes
abbrev pub first_at : {A B : Type 0} → (ℕ → A → Option B) → List A → Option B
first_at has [] = None
first_at has (x ∷ xs) = option_or (has 0 x) (first_at (λ place. has (suc place)) xs)

module _ {Name E N H : Type 0} (kind : Kind Name E N H) where
  -- The event of a message that a host keeps on a link. If the message may still arrive, it is delivered; if
  -- it arrived, was lost, or its destination is dead, it is answered; if the subnet has none, and the host
  -- has no message ready, the host holds it, and wakes it.
  abbrev pub next_of_kept : Name → Name → H → ℕ → OnLink → E
  next_of_kept from to h link Free = kind.wake from to h
  next_of_kept from to h link (Accepted message) = kind.deliver from to link
  next_of_kept from to h link Delivered = kind.answer from to link
  next_of_kept from to h link Lost = kind.answer from to link
  next_of_kept from to h link Dead = kind.answer from to link

  -- the next event of the messages that a host keeps for another: that of the lowest link
  abbrev pub next_to : Name → Name → H → Option E
  next_to from to h = option_map (λ link. next_of_kept from to h link (kind.transit from to h link)) (lowest_kept (kind.kept from to h))

  -- the same for the hosts at two places; a host keeps none for itself
  abbrev pub next_between : ℕ → Name → H → ℕ → Name → Option E
  next_between at from h place to = if place == at then None else next_to from to h

  -- the next event of the messages that a host keeps for the other hosts: of those to the first host for
  -- which it keeps one
  abbrev pub next_to_others : ℕ → Name → H → Option E
  next_to_others at from h = first_at (next_between at from h) (kind.names h)

  -- the next event of a host: it sends its next message; if none is ready, the messages that it keeps go on
  abbrev pub next_at : H → ℕ → Name → Option E
  next_at h at from = if kind.ready from h then Some (kind.out from) else next_to_others at from h

  -- the next event of all hosts: earlier ones take precedence
  abbrev pub next_by_itself : H → Option E
  next_by_itself h = first_at (next_at h) (kind.names h)

  -- whether there was an event, and then it happened; else all is unchanged
  abbrev pub Takes : Option E → Bool → Noted_hosts H N → Noted_hosts H N → Type 0
  Takes next true before now = (event : E) × (next ≡ Some event) × IsStepOf kind event before now
  Takes next false before now = (next ≡ None) × (now ≡ before)

  -- they performed the next event; or there is none, and all is unchanged
  abbrev pub GoesNext : Bool → Noted_hosts H N → Noted_hosts H N → Type 0
  GoesNext more before now = Takes (next_by_itself before.hosts) more before now

  -- as many events as the first argument says, each the next by itself
  abbrev pub RunBy : ℕ → Noted_hosts H N → Noted_hosts H N → Type 0
  RunBy zero before now = now ≡ before
  RunBy (suc many) before now = (between : Noted_hosts H N) × GoesNext true before between × RunBy many between now

  -- any number of such events
  abbrev pub RunsOn : Noted_hosts H N → Noted_hosts H N → Type 0
  RunsOn before now = (many : ℕ) × RunBy many before now

  -- such events, until there is none
  abbrev pub Settles : Noted_hosts H N → Noted_hosts H N → Type 0
  Settles before now = RunsOn before now × (next_by_itself now.hosts ≡ None)
