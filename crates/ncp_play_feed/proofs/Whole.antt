-- A whole feed: its header, its messages, and the messages sent.
use Rattle.std.proofs.Common.{◌≡◌, ◌⊎◌, inl, inr, ℕ, Bool, List, [], ◌∷◌, ◌++◌, drop, take, map, replicate, length, Option, Some, None, Result, Ok, Err, refl, sym, subst}
use Rattle.ncp_transcript.specs.declared.input.Input.{Input}
use Rattle.ncp_transcript.specs.declared.input.Input.TheVariants as inputs
use Rattle.ncp_transcript.specs.declared.note.HostNote.{HostNote}
use Rattle.ncp_transcript.specs.declared.note.HostNote.TheVariants as notes
use Rattle.ncp_transcript.specs.Alone.{Alone, AreHostSteps}
use Rattle.ncp_play_files.specs.declared.file.Direction.{Direction}
use Rattle.ncp_play_files.specs.declared.file.Direction.TheVariants.{ToImp, FromImp}
use Rattle.ncp_play_files.specs.declared.file.FileFault.{FileFault}
use Rattle.ncp_play_files.specs.declared.file.FileFault.TheVariants as file
use Rattle.ncp_play_files.specs.File.{direction_of, HoldsMessages}
use Rattle.ncp_play_files.proofs.Files.{direction_of-short}
use Rattle.ncp_play_files.proofs.Progress.{after_header, inside_cut}
use Rattle.ncp_play_notes.specs.declared.fault.PlayFault.{PlayFault}
use Rattle.ncp_play_notes.specs.declared.fault.PlayFault.TheVariants.{BadLine, LineTooLong, BadHosts, Feed, ReadFailed, WriteFailed, OutOfMemory}
use Rattle.ncp_play_feed.specs.Feeds.{HoldsAfter, FeedHolds, Came, CameAndAsked, all_output, FeedsAll, FeedsTo, FeedsFirst, FeedsOut, FeedDoes}
use Rattle.ncp_play_feed.specs.Steps.{IsOtherHeader, ReadsFeedHeader, Hears, HearsFirst, HearsFrom, AskedFor, SentAll, SentSome, SendsFrom}

-- ---- no header

other_holds : (o : Option Direction) (bytes : List ℕ) → IsOtherHeader o → HoldsAfter o bytes [] (Some file.BadHeader)
other_holds (Some FromImp) bytes h = absurd h
other_holds (Some ToImp) bytes h = (refl, refl)
other_holds None bytes h = (refl, refl)

pub feed_ends : (bytes window : List ℕ) (left : Option (List ℕ)) (alone : Alone) (fault : FileFault) → ReadsFeedHeader bytes (Err fault) window left → FeedDoes bytes alone (Err (Feed fault)) alone left
feed_ends bytes window left alone file.BadHeader h = ([], other_holds (direction_of bytes) (drop 4 bytes) h.1, refl)
feed_ends bytes window left alone file.Truncated h = let e : ⊥ = cc (h.0) in absurd e
feed_ends bytes window left alone file.TooLong h = let e : ⊥ = cc (h.0) in absurd e
feed_ends bytes window left alone file.SpareNotZero h = let e : ⊥ = cc (h.0) in absurd e
feed_ends bytes window left alone file.BadDirection h = let e : ⊥ = cc (h.0) in absurd e
feed_ends bytes window left alone file.Mixed h = let e : ⊥ = cc (h.0) in absurd e
feed_ends bytes window left alone file.ReadFailed h =
    let none : FeedHolds window [] (Some file.BadHeader) = subst (λ (o : Option Direction). HoldsAfter o (drop 4 window) [] (Some file.BadHeader)) (sym (direction_of-short window h.0)) (refl, refl) in
    (window, h.1.0, [], Some file.BadHeader, sym h.1.2, h.1.1, h.0, none, refl)
feed_ends bytes window left alone file.WriteFailed h = absurd h

-- ---- messages received

holds : (bytes : List ℕ) (messages : List (List Bool)) (fault : Option FileFault) → direction_of bytes ≡ Some FromImp → HoldsMessages (drop 4 bytes) messages fault → FeedHolds bytes messages fault
holds bytes messages fault head h = subst (λ (o : Option Direction). HoldsAfter o (drop 4 bytes) messages fault) (sym head) h

module _ (bytes : List ℕ) (head : direction_of bytes ≡ Some FromImp) (before : Alone) where
  heard_to : (now : Alone) (fault : FileFault) → Hears (drop 4 bytes) (Some fault) before now → FeedsTo bytes fault before now
  heard_to now fault h = (h.0, holds bytes h.0 (Some fault) head h.1, h.2)

  heard_first : (now : Alone) → HearsFirst (drop 4 bytes) before now → FeedsFirst bytes before now
  heard_first now h = (h.0, h.1, h.2, holds bytes (h.0 ++ h.1) h.2 head h.3, h.4)

  pub heard_part : (left : Option (List ℕ)) (now : Alone) (fault : PlayFault) → HearsFrom (drop 4 bytes) before (Err fault) now left → FeedDoes bytes before (Err fault) now left
  heard_part left now (Feed file.BadHeader) h = heard_to now _ h
  heard_part left now (Feed file.Truncated) h = heard_to now _ h
  heard_part left now (Feed file.TooLong) h = heard_to now _ h
  heard_part left now (Feed file.SpareNotZero) h = heard_to now _ h
  heard_part left now (Feed file.BadDirection) h = heard_to now _ h
  heard_part left now (Feed file.Mixed) h = heard_to now _ h
  heard_part left now (Feed file.ReadFailed) h =
      let behind = after_header bytes h.0 h.1 FromImp head h.3 in
      let given = take 4 bytes ++ h.0 in
      let heard = h.6 in
      let same : HoldsMessages (drop 4 given) heard.0 h.2 = subst (λ (xs : List ℕ). HoldsMessages xs heard.0 h.2) (sym behind.2) heard.1 in
      (given, h.1, heard.0, h.2, behind.0, h.4, inside_cut given h.2 h.5, holds given heard.0 h.2 behind.1 same, heard.2)
  heard_part left now (Feed file.WriteFailed) h = absurd h
  heard_part left now OutOfMemory h = inl (heard_first now h)
  heard_part left now WriteFailed h = inl (heard_first now h)
  heard_part left now ReadFailed h = absurd h
  heard_part left now BadHosts h = absurd h
  heard_part left now (BadLine line) h = absurd h
  heard_part left now (LineTooLong line) h = absurd h

-- ---- and then messages sent

steps_append : (some more : List Input) (before between now : Alone) → AreHostSteps some before between → AreHostSteps more between now → AreHostSteps (some ++ more) before now
steps_append [] more before between now h k = subst (λ (a : Alone). AreHostSteps more a now) h k
steps_append (input ∷ some) more before between now h k = (h.0, h.1, steps_append some more h.0 between now h.2 k)

both : (messages : List (List Bool)) (asked : List HostNote) (before between now : Alone) → Came messages before between → AskedFor asked between now → CameAndAsked messages asked before now
both messages asked before between now h k = (steps_append (map inputs.In messages) (replicate (length asked) inputs.Out) before between now h k.0, (between.notes, k.1))

module _ (bytes : List ℕ) (head : direction_of bytes ≡ Some FromImp) (before between : Alone) (heard : Hears (drop 4 bytes) None before between) where
  all : FeedHolds bytes heard.0 None
  all = holds bytes heard.0 None head heard.1

  sent_all : (now : Alone) → SentAll between now → FeedsAll bytes before now
  sent_all now k = (heard.0, k.0, all, both heard.0 (all_output k.0) before between now heard.2 k.1)

  sent_some : (now : Alone) → SentSome between now → FeedsOut bytes before now
  sent_some now k = (heard.0, k.0, all, both heard.0 (map notes.Out k.0) before between now heard.2 k.1)

  some_or_all : (now : Alone) → SentSome between now ⊎ SentAll between now → FeedsFirst bytes before now ⊎ (FeedsOut bytes before now ⊎ FeedsAll bytes before now)
  some_or_all now (inl k) = inr (inl (sent_some now k))
  some_or_all now (inr k) = inr (inr (sent_all now k))

  pub feed_sent : (left : Option (List ℕ)) (now : Alone) (r : Result Unit PlayFault) → SendsFrom between r now → FeedDoes bytes before r now left
  feed_sent left now (Ok done) k = sent_all now k
  feed_sent left now (Err OutOfMemory) k = inr (sent_some now k)
  feed_sent left now (Err WriteFailed) k = some_or_all now k
  feed_sent left now (Err ReadFailed) k = absurd k
  feed_sent left now (Err BadHosts) k = absurd k
  feed_sent left now (Err (BadLine line)) k = absurd k
  feed_sent left now (Err (LineTooLong line)) k = absurd k
  feed_sent left now (Err (Feed fault)) k = absurd k
