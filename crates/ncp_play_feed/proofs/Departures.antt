-- Messages that are sent, one after another.
use Rattle.std.proofs.Common.{◌≡◌, ◌⊎◌, inl, inr, ◌<◌, Bool, true, false, List, [], ◌∷◌, ◌++◌, map, Option, Some, None, Result, Ok, Err, refl, sym, ap, ◌∙◌, subst}
use Rattle.std.proofs.lemmas.List.{append_assoc, append-nil}
use Rattle.ncp_host.specs.Host.{Host}
use Rattle.ncp_host.specs.Turns.{next_output, after_next_output}
use Rattle.ncp_transcript.specs.declared.input.Input.TheVariants as inputs
use Rattle.ncp_transcript.specs.declared.note.HostNote.{HostNote}
use Rattle.ncp_transcript.specs.declared.note.HostNote.TheVariants as notes
use Rattle.ncp_transcript.specs.After.{after_note}
use Rattle.ncp_transcript.specs.Noting.{note_of_message}
use Rattle.ncp_transcript.specs.Alone.{Alone, IsHostStep}
use Rattle.ncp_play_notes.specs.declared.fault.PlayFault.{PlayFault}
use Rattle.ncp_play_notes.specs.declared.fault.PlayFault.TheVariants.{BadLine, LineTooLong, BadHosts, Feed, ReadFailed, WriteFailed, OutOfMemory}
use Rattle.ncp_play_notes.specs.Playing.{Does}
use Rattle.ncp_play_feed.specs.Steps.{AskedForOutput, SentOne, SendsNext, SentAll, SentSome, SendsFrom, is_output_note}
use Rattle.ncp_play_feed.specs.Feeds.{all_output}
use Rattle.ncp_play_feed.specs.Going.{open_links}
use Rattle.ncp_play_feed.proofs.Going.{fewer_links}

-- ---- one message

module _ (before now : Alone) (step : IsHostStep inputs.Out before now) where
  asked_for : (note : HostNote) → step.0 ≡ note → AskedForOutput note before now
  asked_for note e = (step, step.2 ∙ ap (λ (n : HostNote). before.notes ++ n ∷ []) e)

  noted : (o : Option (List Bool)) → next_output before.host ≡ o → step.0 ≡ note_of_message o
  noted o e = step.1 ∙ ap note_of_message e

  -- a message was sent, or there was none to send
  pub one_or_none : SentOne before now ⊎ AskedForOutput notes.Nothing before now
  one_or_none = go (next_output before.host) refl
    where
      go : (o : Option (List Bool)) → next_output before.host ≡ o → SentOne before now ⊎ AskedForOutput notes.Nothing before now
      go None e = inr (asked_for notes.Nothing (noted None e))
      go (Some message) e = inl (message, asked_for (notes.Out message) (noted (Some message) e))

  pub as_noted : (b : Bool) → b ≡ is_output_note step.0 → SendsNext before (Ok b) now
  as_noted b is = go (next_output before.host) refl
    where
      go : (o : Option (List Bool)) → next_output before.host ≡ o → SendsNext before (Ok b) now
      go None e =
          let note = noted None e in
          let no : b ≡ false = is ∙ ap is_output_note note in
          subst (λ (x : Bool). SendsNext before (Ok x) now) (sym no) (asked_for notes.Nothing note)
      go (Some message) e =
          let note = noted (Some message) e in
          let yes : b ≡ true = is ∙ ap is_output_note note in
          subst (λ (x : Bool). SendsNext before (Ok x) now) (sym yes) (message, asked_for (notes.Out message) note)

  pub link_fewer : (b : Bool) → b ≡ is_output_note step.0 → b ≡ true → open_links now.host < open_links before.host
  link_fewer b is went = go (next_output before.host) refl
    where
      go : (o : Option (List Bool)) → next_output before.host ≡ o → open_links now.host < open_links before.host
      go None e = let no : b ≡ false = is ∙ ap is_output_note (noted None e) in absurd (cc (went, no))
      go (Some message) e =
          let host : now.host ≡ after_next_output before.host = step.3 ∙ ap (λ (n : HostNote). after_note n before.host) (noted (Some message) e) in
          subst (λ (h : Host). open_links h < open_links before.host) (sym host) (fewer_links before.host message e)

pub next_breaks : (before now : Alone) (fault : PlayFault) → Does inputs.Out before (Err fault) now → SendsNext before (Err fault) now
next_breaks before now OutOfMemory h = h
next_breaks before now WriteFailed h = one_or_none before now h
next_breaks before now ReadFailed h = absurd h
next_breaks before now BadHosts h = absurd h
next_breaks before now (BadLine line) h = absurd h
next_breaks before now (LineTooLong line) h = absurd h
next_breaks before now (Feed fault) h = absurd h

-- ---- messages from here on

nothing_yet : (before now : Alone) → now ≡ before → SentSome before now
nothing_yet before now same = ([], (same, ap (λ (a : Alone). a.notes) same ∙ sym (append-nil before.notes)))

none_more : (before now : Alone) → AskedForOutput notes.Nothing before now → SentAll before now
none_more before now h = ([], ((now, h.0, refl), h.1))

pub from_end : (before now : Alone) → SendsNext before (Ok false) now → SendsFrom before (Ok tt) now
from_end before now h = none_more before now h

one_alone : (before now : Alone) → SentOne before now → SentSome before now
one_alone before now h = (h.0 ∷ [], ((now, h.1.0, refl), h.1.1))

some_or_all : (before now : Alone) → SentOne before now ⊎ AskedForOutput notes.Nothing before now → SentSome before now ⊎ SentAll before now
some_or_all before now (inl h) = inl (one_alone before now h)
some_or_all before now (inr h) = inr (none_more before now h)

pub from_err : (before now : Alone) (fault : PlayFault) → SendsNext before (Err fault) now → SendsFrom before (Err fault) now
from_err before now OutOfMemory h = nothing_yet before now h
from_err before now WriteFailed h = some_or_all before now h
from_err before now ReadFailed h = absurd h
from_err before now BadHosts h = absurd h
from_err before now (BadLine line) h = absurd h
from_err before now (LineTooLong line) h = absurd h
from_err before now (Feed fault) h = absurd h

-- a message before others
module _ (before next : Alone) (one : SentOne before next) where
  more_notes : (now : Alone) (asked : List HostNote) → now.notes ≡ next.notes ++ asked → now.notes ≡ before.notes ++ notes.Out one.0 ∷ asked
  more_notes now asked e = e ∙ ap (λ (ns : List HostNote). ns ++ asked) one.1.1 ∙ append_assoc before.notes (notes.Out one.0 ∷ []) asked

  more_all : (now : Alone) → SentAll next now → SentAll before now
  more_all now k = (one.0 ∷ k.0, ((next, one.1.0, k.1.0), more_notes now (all_output k.0) k.1.1))

  more_some : (now : Alone) → SentSome next now → SentSome before now
  more_some now k = (one.0 ∷ k.0, ((next, one.1.0, k.1.0), more_notes now (map notes.Out k.0) k.1.1))

  more_either : (now : Alone) → SentSome next now ⊎ SentAll next now → SentSome before now ⊎ SentAll before now
  more_either now (inl k) = inl (more_some now k)
  more_either now (inr k) = inr (more_all now k)

  pub from_more : (r : Result Unit PlayFault) (now : Alone) → SendsFrom next r now → SendsFrom before r now
  from_more (Ok done) now k = more_all now k
  from_more (Err OutOfMemory) now k = more_some now k
  from_more (Err WriteFailed) now k = more_either now k
  from_more (Err ReadFailed) now k = absurd k
  from_more (Err BadHosts) now k = absurd k
  from_more (Err (BadLine line)) now k = absurd k
  from_more (Err (LineTooLong line)) now k = absurd k
  from_more (Err (Feed fault)) now k = absurd k
