-- What two hosts note where the subnet gives bits, or none.
use Rattle.std.proofs.Common.{◌≡◌, ℕ, Bool, true, false, List, Option, None, Some, refl, ap}
use Rattle.std.specs.Option.{is_some}
use Rattle.ncp_subnet.specs.declared.transit.Transit.{Transit}
use Rattle.ncp_subnet.specs.declared.transit.Transit.TheVariants.{Free, Accepted, Delivered, Lost, Dead}
use Rattle.ncp_subnet.specs.Transit.{is_accepted, answer_kind}
use Rattle.ncp_subnet.specs.Messages.{arriving, answer_about}
use Rattle.ncp_host.specs.Host.{Host}
use Rattle.ncp_transcript.specs.declared.note.HostNote.{HostNote}
use Rattle.ncp_transcript.specs.Noting.{note_of_bits}
use Rattle.ncp_transcript_two.specs.declared.side.Side.{Side}
use Rattle.ncp_transcript_two.specs.declared.note.Move.TheVariants as moves
use Rattle.ncp_transcript_two.specs.declared.note.Note.TheVariants as notes
use Rattle.ncp_transcript_two.specs.Between.{Hosts, other, host_of}
use Rattle.ncp_transcript_two.specs.Happening.{note_of_coming, note_of_answering}
use Rattle.ncp_step.specs.Noted.{note_if_any}

said : (bits : List Bool) (h : Host) (n : HostNote) → Some n ≡ note_if_any (Some bits) h → n ≡ note_of_bits bits h
said bits h n e = cc

pub came-noted : (side : Side) (link : ℕ) (o : Option (List Bool)) (w : Hosts) (n : HostNote) → Some n ≡ note_if_any o (host_of (other side) w) → notes.Came side link n ≡ note_of_coming side link o w
came-noted side link None w n e = absurd (cc e)
came-noted side link (Some bits) w n e = ap (notes.Came side link) (said bits (host_of (other side) w) n e)

pub came-vain : (side : Side) (link : ℕ) (o : Option (List Bool)) (w : Hosts) → None ≡ note_if_any o (host_of (other side) w) → notes.Nothing side link moves.Deliver ≡ note_of_coming side link o w
came-vain side link None w e = refl
came-vain side link (Some bits) w e = absurd (cc e)

pub answer-noted : (side : Side) (link : ℕ) (o : Option (List Bool)) (w : Hosts) (n : HostNote) → Some n ≡ note_if_any o (host_of side w) → notes.Answered side link n ≡ note_of_answering side link o w
answer-noted side link None w n e = absurd (cc e)
answer-noted side link (Some bits) w n e = ap (notes.Answered side link) (said bits (host_of side w) n e)

pub answer-vain : (side : Side) (link : ℕ) (o : Option (List Bool)) (w : Hosts) → None ≡ note_if_any o (host_of side w) → notes.Nothing side link moves.Answer ≡ note_of_answering side link o w
answer-vain side link None w e = refl
answer-vain side link (Some bits) w e = absurd (cc e)

-- what is not accepted does not come; what is, does
pub not-arriving : (from : ℕ) (t : Transit (List Bool)) → is_accepted t ≡ false → arriving from t ≡ None
not-arriving from Free e = refl
not-arriving from (Accepted message) e = absurd (cc)
not-arriving from Delivered e = refl
not-arriving from Lost e = refl
not-arriving from Dead e = refl

pub is-arriving : (from : ℕ) (t : Transit (List Bool)) → is_accepted t ≡ true → arriving from t ≡ None → ⊥
is-arriving from Free e none = cc
is-arriving from (Accepted message) e none = cc
is-arriving from Delivered e none = cc
is-arriving from Lost e none = cc
is-arriving from Dead e none = cc

-- where no answer is to give there is none; else there is
pub not-answered : (to link : ℕ) (t : Transit (List Bool)) → is_some (answer_kind t) ≡ false → answer_about to link t ≡ None
not-answered to link Free e = refl
not-answered to link (Accepted message) e = refl
not-answered to link Delivered e = absurd (cc)
not-answered to link Lost e = absurd (cc)
not-answered to link Dead e = absurd (cc)

pub is-answered : (to link : ℕ) (t : Transit (List Bool)) → is_some (answer_kind t) ≡ true → answer_about to link t ≡ None → ⊥
is-answered to link Free e none = cc
is-answered to link (Accepted message) e none = cc
is-answered to link Delivered e none = cc
is-answered to link Lost e none = cc
is-answered to link Dead e none = cc
