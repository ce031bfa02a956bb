-- The notes of what happens at one of many hosts, and what they leave.
use Rattle.std.proofs.Common.{◌≡◌, ℕ, Bool, true, List, None, Some, Result, Ok, Err, OnErr, refl, sym, ap, ◌∙◌, subst}
use Rattle.ncp_subnet.specs.Messages.{arriving, answer_about}
use Rattle.ncp_subnet.specs.Subnet.{Subnet, transit_at}
use Rattle.ncp_host.specs.Host.{Host}
use Rattle.ncp_transcript.specs.declared.call.Call.{Call}
use Rattle.ncp_transcript.specs.declared.note.HostNote.{HostNote}
use Rattle.ncp_transcript.specs.Noting.{CallNoted, note_of_output}
use Rattle.ncp_transcript_two.specs.declared.side.Side.TheVariants.{A}
use Rattle.ncp_transcript_two.specs.declared.note.Move.TheVariants as moves
use Rattle.ncp_transcript_two.specs.declared.note.Note.{Note}
use Rattle.ncp_transcript_two.specs.declared.note.Note.TheVariants as notes
use Rattle.ncp_transcript_two.specs.Happening.{Noted}
use Rattle.ncp_transcript_two.specs.Seen.{CallFits}
use Rattle.ncp_step.specs.Noted.{note_if_any}
use Rattle.ncp_step.proofs.Telling.{came-noted, came-vain, answer-noted, answer-vain}
use Rattle.ncp_transcript_many.specs.declared.many_event.ManyEvent.{ManyEvent}
use Rattle.ncp_transcript_many.specs.declared.many_event.ManyEvent.TheVariants as events
use Rattle.ncp_transcript_many.specs.declared.many_note.ManyNote.{ManyNote}
use Rattle.ncp_transcript_many.specs.declared.many_note.ManyNote.TheVariants as many
use Rattle.ncp_transcript_many.specs.Network.{Network, is_there, between, host_at}
use Rattle.ncp_transcript_many.specs.ManyHappening.{are_there, are_two, as_of_two, by_numbers, ends_of, IfThere, ManyNoted}

-- what its two hosts note, where they are there
noted-two : (event : ManyEvent) (n : ManyNote) (m : Network) (two : Note) → are_there event m ≡ true → Noted (as_of_two event) two (between (ends_of event).0 (ends_of event).1 m)
    → n ≡ by_numbers (ends_of event).0 (ends_of event).1 two → ManyNoted event n m
noted-two event n m two e noted said = subst (λ (b : Bool). IfThere b event n m) (sym e) (record { two = two; noted = noted; said = said })

pub noted-call : (m : Network) (host : ℕ) (call : Call) (n : HostNote) → is_there host m ≡ true → CallNoted call n (host_at host m) → CallFits call → ManyNoted (events.Call host call) (many.Called host n) m
noted-call m host call n e noted fits = noted-two (events.Call host call) (many.Called host n) m (notes.Called A n) e (record { of_host = n; said = refl; noted = noted; fits = fits }) refl

pub noted-out : (m : Network) (host : ℕ) (n : HostNote) → is_there host m ≡ true → n ≡ note_of_output (host_at host m) → ManyNoted (events.Out host) (many.Out host n) m
noted-out m host n e is = noted-two (events.Out host) (many.Out host n) m (notes.Out A n) e (ap (notes.Out A) is) refl

module _ (m : Network) (from to link : ℕ) (e : are_two from to m ≡ true) where
  pub noted-came : (n : HostNote) → Some n ≡ note_if_any (arriving from (transit_at m.subnet from to link)) (host_at to m) → ManyNoted (events.Deliver from to link) (many.Came from to link n) m
  noted-came n is =
      noted-two (events.Deliver from to link) (many.Came from to link n) m (notes.Came A link n) e (came-noted A link (arriving from (transit_at m.subnet from to link)) (between from to m) n is) refl

  pub vain-came : None ≡ note_if_any (arriving from (transit_at m.subnet from to link)) (host_at to m) → ManyNoted (events.Deliver from to link) (many.Nothing (events.Deliver from to link)) m
  vain-came is =
      noted-two (events.Deliver from to link) (many.Nothing (events.Deliver from to link)) m (notes.Nothing A link moves.Deliver) e (came-vain A link (arriving from (transit_at m.subnet from to link)) (between from to m) is) refl

  pub noted-answer : (n : HostNote) → Some n ≡ note_if_any (answer_about to link (transit_at m.subnet from to link)) (host_at from m) → ManyNoted (events.Answer from to link) (many.Answered from to link n) m
  noted-answer n is =
      noted-two (events.Answer from to link) (many.Answered from to link n) m (notes.Answered A link n) e (answer-noted A link (answer_about to link (transit_at m.subnet from to link)) (between from to m) n is) refl

  pub vain-answer : None ≡ note_if_any (answer_about to link (transit_at m.subnet from to link)) (host_at from m) → ManyNoted (events.Answer from to link) (many.Nothing (events.Answer from to link)) m
  vain-answer is =
      noted-two (events.Answer from to link) (many.Nothing (events.Answer from to link)) m (notes.Nothing A link moves.Answer) e (answer-vain A link (answer_about to link (transit_at m.subnet from to link)) (between from to m) is) refl

-- a crowd by its parts
pub crowd-is : (hosts : List (ℕ × Host)) (subnet : Subnet) (m : Network) → hosts ≡ m.hosts → subnet ≡ m.subnet → ◌≡◌ {A = Network} (record { hosts = hosts; subnet = subnet }) m
crowd-is hosts subnet m h s = λ k. record { hosts = h k; subnet = s k }

-- the same with its hosts as they are lent
pub lent : (hosts items : List (ℕ × Host)) (subnet : Subnet) (m : Network) → hosts ≡ items → ◌≡◌ {A = Network} (record { hosts = items; subnet = subnet }) m → ◌≡◌ {A = Network} (record { hosts = hosts; subnet = subnet }) m
lent hosts items subnet m e is = crowd-is hosts subnet (record { hosts = items; subnet = subnet }) e refl ∙ is

pub on-err : {A E P : Type 0} (r : Result A E) → P → OnErr r P
on-err (Ok a) p = tt
on-err (Err f) p = p
