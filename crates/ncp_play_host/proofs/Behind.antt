-- The effect of the lines after the first, with a feed at their end.
use Rattle.std.proofs.Common.{◌≡◌, inl, inr, ℕ, List, [], Option, Result, Ok, Err, refl, sym, subst}
use Rattle.ncp_play_stream.specs.Streams.{SaidSoFar}
use Rattle.ncp_play_script.specs.declared.host_lines.HostEvent.{HostEvent}
use Rattle.ncp_transcript.specs.declared.note.HostNote.{HostNote}
use Rattle.ncp_transcript.specs.Alone.{Alone}
use Rattle.ncp_play_script.specs.Scripts as scripts
use Rattle.ncp_play_script.specs.Scripts.{EventPlan, Ending, lines_of}
use Rattle.ncp_play_feed.specs.Feeds.{FeedDoes}
use Rattle.ncp_play_notes.specs.declared.fault.PlayFault.{PlayFault}
use Rattle.ncp_play_notes.specs.declared.fault.PlayFault.TheVariants.{BadLine, LineTooLong, BadHosts, Feed, ReadFailed, WriteFailed, OutOfMemory}
use Rattle.ncp_play_notes.specs.Playing.{Tells}
use Rattle.ncp_play_host.specs.Asking.{course_of}
use Rattle.ncp_play_host.specs.Doing.{DoesAll, LinesDo}
use Rattle.ncp_play_host.specs.Played.{EndDoes, CourseDoes, AfterDoes, first_line_prefix}

-- all inputs were applied, and then the end took effect
ends_as : (peers : List ℕ) (course : EventPlan HostEvent) (ending : Ending) (before mid : Alone) (r : Result Unit PlayFault) (now : Alone) (left : Option (List ℕ)) → DoesAll peers course ending before mid → EndDoes ending mid r now left → CourseDoes peers course before r now left
ends_as peers course ending before mid r now left all end = (mid, all.1, subst (λ (e : Ending). EndDoes e mid r now left) (sym all.0) end)

-- there is no line
pub after_none : (peers : List ℕ) (first : ℕ) (bytes : List ℕ) (alone : Alone) (left : Option (List ℕ)) → bytes ≡ [] → CourseDoes peers (course_of peers first (lines_of bytes)) alone (Ok tt) alone left
after_none peers first bytes alone left none = subst (λ (b : List ℕ). CourseDoes peers (course_of peers first (lines_of b)) alone (Ok tt) alone left) (sym none) (alone, refl, (refl, refl))

-- the lines end
pub after_over : (peers : List ℕ) (first : ℕ) (bytes : List ℕ) (before now : Alone) (left : Option (List ℕ)) → DoesAll peers (course_of peers first (lines_of bytes)) scripts.Over before now → CourseDoes peers (course_of peers first (lines_of bytes)) before (Ok tt) now left
after_over peers first bytes before now left all = ends_as peers (course_of peers first (lines_of bytes)) scripts.Over before now (Ok tt) now left all (refl, refl)

-- they were not played to their end
pub following_fault : (peers : List ℕ) (first : ℕ) (bytes : List ℕ) (before now : Alone) (fault : PlayFault) (window : List ℕ) (left : Option (List ℕ)) → LinesDo peers first bytes before (Err fault) now window left → AfterDoes peers first bytes before (Err fault) now left
following_fault peers first bytes before now (BadLine line) window left all = ends_as peers (course_of peers first (lines_of bytes)) (scripts.Faulty (scripts.BadLine line)) before now (Err (BadLine line)) now left all (refl, refl)
following_fault peers first bytes before now (LineTooLong line) window left all = ends_as peers (course_of peers first (lines_of bytes)) (scripts.Faulty (scripts.LineTooLong line)) before now (Err (LineTooLong line)) now left all (refl, refl)
following_fault peers first bytes before now ReadFailed window left does = does
following_fault peers first bytes before now OutOfMemory window left some = inr some
following_fault peers first bytes before now WriteFailed window left some = inr some
following_fault peers first bytes before now BadHosts window left none = absurd none
following_fault peers first bytes before now (Feed fault) window left none = absurd none

-- a feed follows them
pub after_feed : (peers : List ℕ) (first : ℕ) (bytes feed : List ℕ) (before mid now : Alone) (r : Result Unit PlayFault) (left : Option (List ℕ)) → DoesAll peers (course_of peers first (lines_of bytes)) (scripts.Fed feed) before mid → FeedDoes feed mid r now left → AfterDoes peers first bytes before r now left
after_feed peers first bytes feed before mid now (Ok done) left all fed = ends_as peers (course_of peers first (lines_of bytes)) (scripts.Fed feed) before mid (Ok done) now left all fed
after_feed peers first bytes feed before mid now (Err (Feed fault)) left all fed = ends_as peers (course_of peers first (lines_of bytes)) (scripts.Fed feed) before mid (Err (Feed fault)) now left all fed
after_feed peers first bytes feed before mid now (Err OutOfMemory) left all fed = inl (ends_as peers (course_of peers first (lines_of bytes)) (scripts.Fed feed) before mid (Err OutOfMemory) now left all fed)
after_feed peers first bytes feed before mid now (Err WriteFailed) left all fed = inl (ends_as peers (course_of peers first (lines_of bytes)) (scripts.Fed feed) before mid (Err WriteFailed) now left all fed)
after_feed peers first bytes feed before mid now (Err ReadFailed) left all fed = absurd fed
after_feed peers first bytes feed before mid now (Err BadHosts) left all fed = absurd fed
after_feed peers first bytes feed before mid now (Err (BadLine line)) left all fed = absurd fed
after_feed peers first bytes feed before mid now (Err (LineTooLong line)) left all fed = absurd fed

-- no note is rendered yet
pub prints_none : (was : List ℕ) (notes : List HostNote) (page : List ℕ) (written : Option (List ℕ)) → notes ≡ [] → SaidSoFar was page written [] → Tells was first_line_prefix notes first_line_prefix page written
prints_none was notes page written none said = subst (λ (n : List HostNote). Tells was first_line_prefix n first_line_prefix page written) (sym none) (refl, said)
