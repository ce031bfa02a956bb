-- Each command that came was read, and no text that came was complained of.
use Rattle.std.proofs.Common.{◌≡◌, ℕ, ◌==◌, Bool, true, false, List, [], ◌∷◌, ◌||◌, length, Some, refl, ap, ◌∙◌}
use Rattle.ncp_model.specs.declared.outcomes.Took.{Took}
use Rattle.ncp_peer.specs.declared.received.Received.{Received}
use Rattle.ncp_transcript.specs.declared.note.HostNote.{HostNote}
use Rattle.ncp_transcript_two.specs.World.{World, In}
use Rattle.ncp_transcript_two.specs.Refused.{is_refused}
use Rattle.ncp_transcript_two.specs.declared.side.Side.{Side}
use Rattle.ncp_transcript_two.specs.declared.side.Side.TheVariants.{A, B}
use Rattle.ncp_transcript_two.specs.declared.note.Note.{Note}
use Rattle.ncp_transcript_two.specs.Between.{Hosts, hosts_after_note}
use Rattle.ncp_transcript_two.specs.Seen.{seen, as_rules, body_of, side_of}
use Rattle.ncp_proof_promises.specs.EachNote.{OfBody, OfEachNote}
use Rattle.ncp_proof_promises.specs.Judged.{ActsOnce, MakesNoErr}
use Rattle.ncp_statement.specs.Statement.{Each, ReadsAll, HasNoProtocolError, is_protocol_error}
use Rattle.ncp_proof_statement.specs.Since.{ComesRight}
use Rattle.std.specs.List.{list_any}
use Rattle.ncp_wire.specs.declared.command.Command.{Command}
use Rattle.ncp_statement.specs.Statement.{is_err}
use Rattle.ncp_proof_promises.specs.Judged.{is_error}
use Rattle.ncp_transcript_two.specs.Underway.{commands_of}
use Rattle.ncp_transcript_two.specs.World.{Out}
use Rattle.ncp_transcript_two.specs.Subnet.{link_in}
use Rattle.ncp_proof_statement.proofs.ErrFree.{GoesRight}

read-in : (side : Side) (link : ℕ) (m : List Bool) (told : Received) (v next : World) → OfBody ActsOnce (as_rules side) (Some (In link m told)) v next → (link == 0) ≡ true → told ≡ Received.Control (length (commands_of m))
read-in A link m told v next o z = (o z).0
read-in B link m told v next o z = (o z).0

read-one : (note : Note) (v next : World) → OfBody ActsOnce (as_rules (side_of note)) (body_of note) v next → ReadsAll note
read-one (Note.Came side link (HostNote.In m told)) v next o = read-in side link m told v next o
read-one note v next o = tt

pub read-all : (ns : List Note) (w : Hosts) → OfEachNote ActsOnce ns w → Each ReadsAll ns
read-all [] w o = tt
read-all (note ∷ ns) w o = (read-one note (seen w) (seen (hosts_after_note note w)) o.0, read-all ns (hosts_after_note note w) o.1)

no-complaint : (told : Received) → is_refused told ≡ false → is_protocol_error told ≡ false
no-complaint (Received.Text Took.Over) e = absurd (cc e)
no-complaint (Received.Text Took.WrongSize) e = absurd (cc e)
no-complaint (Received.Text Took.NotOpen) e = absurd (cc e)
no-complaint told e = refl

right-in : (side : Side) (link : ℕ) (m : List Bool) (told : Received) (v next : World) → OfBody MakesNoErr (as_rules side) (Some (In link m told)) v next → is_protocol_error told ≡ false
right-in A link m told v next o = no-complaint told o.1
right-in B link m told v next o = no-complaint told o.1

right-one : (note : Note) (v next : World) → OfBody MakesNoErr (as_rules (side_of note)) (body_of note) v next → ComesRight note
right-one (Note.Came side link (HostNote.In m told)) v next o = right-in side link m told v next o
right-one note v next o = tt

pub right-all : (ns : List Note) (w : Hosts) → OfEachNote MakesNoErr ns w → Each ComesRight ns
right-all [] w o = tt
right-all (note ∷ ns) w o = (right-one note (seen w) (seen (hosts_after_note note w)) o.0, right-all ns (hosts_after_note note w) o.1)

-- No message that goes out has an ERR.

one-err : (c : Command) → is_err c ≡ is_error c
one-err (Command.Err code bytes) = refl
one-err c = refl

errs-same : (cs : List Command) → list_any is_err cs ≡ list_any is_error cs
errs-same [] = refl
errs-same (c ∷ cs) = ap (λ (b : Bool). b || list_any is_err cs) (one-err c) ∙ ap (λ (b : Bool). is_error c || b) (errs-same cs)

stated : (m : List Bool) → list_any is_error (commands_of m) ≡ false → list_any is_err (commands_of m) ≡ false
stated m e = errs-same (commands_of m) ∙ e

out-in : (side : Side) (m : List Bool) (v next : World) → OfBody GoesRight (as_rules side) (Some (Out m)) v next → (link_in m == 0) ≡ true → list_any is_err (commands_of m) ≡ false
out-in A m v next o z = stated m (o z)
out-in B m v next o z = stated m (o z)

whole-one : (note : Note) (v next : World) → OfBody GoesRight (as_rules (side_of note)) (body_of note) v next → ComesRight note → HasNoProtocolError note
whole-one (Note.Out side (HostNote.Out m)) v next o r = out-in side m v next o
whole-one (Note.Came side link (HostNote.In m told)) v next o r = r
whole-one note v next o r = tt

pub whole-all : (ns : List Note) (w : Hosts) → OfEachNote GoesRight ns w → Each ComesRight ns → Each HasNoProtocolError ns
whole-all [] w o r = tt
whole-all (note ∷ ns) w o r = (whole-one note (seen w) (seen (hosts_after_note note w)) o.0 r.0, whole-all ns (hosts_after_note note w) o.1 r.1)
