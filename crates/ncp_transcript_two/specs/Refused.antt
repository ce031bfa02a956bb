-- Refused messages and answers, as the notes show them.
use Rattle.std.specs.Prelude.{Bool, true, false, ◌||◌, List, [], ◌∷◌}
use Rattle.ncp_model.specs.declared.outcomes.Took.{Took}
use Rattle.ncp_model.specs.declared.outcomes.Took.TheVariants as took
use Rattle.ncp_peer.specs.declared.received.Received.{Received}
use Rattle.ncp_peer.specs.declared.received.Received.TheVariants as cases
use Rattle.ncp_transcript_two.specs.World.{NoteBody, In, Answered, WorldNote}

-- a text for a connection that is not open, of the wrong size, or beyond the allocation
abbrev pub is_refused_text : Took → Bool
is_refused_text took.WrongSize = true
is_refused_text took.Over = true
is_refused_text took.NotOpen = true
is_refused_text t = false

-- such a text; bits that are no message; a message of another type, from no peer, or on a link that
-- carries nothing; a control message of the wrong byte size; or an answer to nothing
abbrev pub is_refused : Received → Bool
is_refused (cases.Text t) = is_refused_text t
is_refused (cases.Fault fault) = true
is_refused cases.WrongLink = true
is_refused cases.WrongSize = true
is_refused cases.Short = true
is_refused (cases.Other kind) = true
is_refused cases.Unknown = true
is_refused cases.Stray = true
is_refused r = false

abbrev pub refuses : NoteBody → Bool
refuses (In on m r) = is_refused r
refuses (Answered on how r) = is_refused r
refuses told = false

abbrev pub any_refused : List WorldNote → Bool
any_refused [] = false
any_refused (n ∷ ns) = refuses n.told || any_refused ns
