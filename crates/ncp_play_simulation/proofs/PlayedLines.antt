-- The events of lines, in order.
use Rattle.std.proofs.Common.{◌≡◌, ◌⊎◌, inl, inr, ℕ, suc, Bool, true, false, List, [], ◌∷◌, ◌++◌, Option, Some, None, Result, Ok, Err, refl, sym, ap, ◌∙◌, subst}
use Rattle.std.proofs.lemmas.List.{append-nil}
use Rattle.ncp_play_script.specs.Scripts.{EventPlan, Ending, Over, course_ends}
use Rattle.ncp_play_stream.specs.Streams.{SaidSoFar, WritesText, WritesPrefixOf}
use Rattle.ncp_play_reader.specs.declared.lines.Lines.{Lines}
use Rattle.ncp_play_notes.specs.Faults.{play_read_failed, play_write_failed}
use Rattle.ncp_play_notes.specs.declared.fault.PlayFault.{PlayFault}
use Rattle.ncp_play_notes.specs.declared.fault.PlayFault.TheVariants.{BadLine, LineTooLong, BadHosts, Feed, ReadFailed, WriteFailed, OutOfMemory}
use Rattle.ncp_play_simulation.specs.Rules.{Rules, Begins, Step, Steps, NextBegins}
use Rattle.ncp_play_simulation.specs.Printing.{Rendering, told}
use Rattle.ncp_play_simulation.specs.Playing.{DoesEvent, Tells, PrintsPrefixOf, PrintsAs}
use Rattle.ncp_play_simulation.specs.NextEvents.{course_of, course_cut, with_event, AsksOne, AsksNext}
use Rattle.ncp_play_simulation.specs.Players.{PlayedTo, PlayedFirst, PlaysLines, GoesOn, PlaysNext, WritesAll, WritesAs, AnswersGood}

module _ {F E N W : Type 0} (rules : Rules F E N W) where
  no_events : (course : EventPlan E) (ending : Ending) (before : W) → course ≡ course_ends ending → PlayedTo rules course ending before before
  no_events course ending before e = (ap (λ c. c.ending) e, subst (λ (c : EventPlan E). Steps (Step rules) c.events before before) (sym e) refl)

  none_begins : (events : List E) (before : W) → NextBegins rules events before before
  none_begins [] before = refl
  none_begins (event ∷ events) before = (0, refl)

  pub none_first : (course : EventPlan E) (before : W) → PlayedFirst rules course before before
  none_first course before = ([], course.events, before, refl, refl, none_begins course.events before)

  -- the first event has begun
  begun_first : (course rest : EventPlan E) (event : E) (many : ℕ) (before now : W) → course ≡ with_event event rest → Begins rules event 0 many before now → PlayedFirst rules course before now
  begun_first course rest event many before now e h = ([], course.events, before, refl, refl, subst (λ (c : EventPlan E). NextBegins rules c.events before now) (sym e) (many, h))

  -- ---- one event, and those after it

  module _ (course rest : EventPlan E) (event : E) (before mid : W) (e : course ≡ with_event event rest) (step : Step rules event before mid) where
    more_to : (ending : Ending) (now : W) → PlayedTo rules rest ending mid now → PlayedTo rules course ending before now
    more_to ending now h = (ap (λ c. c.ending) e ∙ h.0, subst (λ (c : EventPlan E). Steps (Step rules) c.events before now) (sym e) (mid, step, h.1))

    more_first : (now : W) → PlayedFirst rules rest mid now → PlayedFirst rules course before now
    more_first now h = (event ∷ h.0, h.1, h.2, ap (λ c. c.events) e ∙ ap (λ (events : List E). event ∷ events) h.3, (mid, step, h.4), h.5)

  module _ (named : F) (first : ℕ) (bytes : List ℕ) (before : W) where
    goes_on : (event : E) (lines : Lines) (left : Option (List ℕ)) (mid : W) (asks : AsksOne rules named first bytes event lines left) → Step rules event before mid → GoesOn rules named first bytes before lines.number asks.0 mid
    goes_on event lines left mid asks step (Ok done) last left' h = more_to (course_of rules named first bytes) (course_of rules named lines.number asks.0) event before mid asks.1 step Over last h
    goes_on event lines left mid asks step (Err (BadLine line)) last left' h = more_to (course_of rules named first bytes) (course_of rules named lines.number asks.0) event before mid asks.1 step _ last h
    goes_on event lines left mid asks step (Err (LineTooLong line)) last left' h = more_to (course_of rules named first bytes) (course_of rules named lines.number asks.0) event before mid asks.1 step _ last h
    goes_on event lines left mid asks step (Err ReadFailed) last left' h =
        let cut = asks.3 h.0 left' h.1 in (
          cut.0,
          cut.1,
          more_to (course_cut rules named first cut.0) (course_cut rules named lines.number h.0) event before mid cut.2 step Over last h.2,
          more_first (course_of rules named first bytes) (course_of rules named lines.number asks.0) event before mid asks.1 step last h.3,
        )
    goes_on event lines left mid asks step (Err OutOfMemory) last left' h = more_first (course_of rules named first bytes) (course_of rules named lines.number asks.0) event before mid asks.1 step last h
    goes_on event lines left mid asks step (Err WriteFailed) last left' h = more_first (course_of rules named first bytes) (course_of rules named lines.number asks.0) event before mid asks.1 step last h
    goes_on event lines left mid asks step (Err BadHosts) last left' h = absurd h
    goes_on event lines left mid asks step (Err (Feed fault)) last left' h = absurd h

    pub asks_none : (lines : Lines) (left : Option (List ℕ)) → AsksNext rules named first bytes (Ok None) lines left → PlaysLines rules {X = Unit} named first bytes before (Ok tt) before left
    asks_none lines left asks = no_events (course_of rules named first bytes) Over before asks

    pub asks_err : (lines : Lines) (left : Option (List ℕ)) (fault : PlayFault) → AsksNext rules named first bytes (Err fault) lines left → PlaysLines rules {X = Unit} named first bytes before (Err fault) before left
    asks_err lines left (BadLine line) asks = no_events (course_of rules named first bytes) _ before asks
    asks_err lines left (LineTooLong line) asks = no_events (course_of rules named first bytes) _ before asks
    asks_err lines left ReadFailed asks = (asks.0, asks.1, no_events (course_cut rules named first asks.0) Over before asks.2, none_first (course_of rules named first bytes) before)
    asks_err lines left OutOfMemory asks = none_first (course_of rules named first bytes) before
    asks_err lines left WriteFailed asks = absurd asks
    asks_err lines left BadHosts asks = absurd asks
    asks_err lines left (Feed fault) asks = absurd asks

    course_some : (event : E) (ended : Bool) (lines : Lines) (left : Option (List ℕ)) → AsksNext rules named first bytes (Ok (Some (event, ended))) lines left → (rest : EventPlan E) × (course_of rules named first bytes ≡ with_event event rest)
    course_some event true lines left asks = (course_of rules named lines.number asks.0, asks.1)
    course_some event false lines left asks = (course_ends Over, asks)

    pub event_err : (event : E) (ended : Bool) (lines : Lines) (left : Option (List ℕ)) (now : W) (fault : PlayFault) → AsksNext rules named first bytes (Ok (Some (event, ended))) lines left → DoesEvent rules event before (Err fault) now
        → PlaysLines rules {X = Unit} named first bytes before (Err fault) now left
    event_err event ended lines left now OutOfMemory asks does =
        let some = course_some event ended lines left asks in
        begun_first (course_of rules named first bytes) some.0 event does.0 before now some.1 does.1
    event_err event ended lines left now WriteFailed asks (inl does) =
        let some = course_some event ended lines left asks in
        begun_first (course_of rules named first bytes) some.0 event (suc does.0) before now some.1 does.1
    event_err event ended lines left now WriteFailed asks (inr does) =
        let some = course_some event ended lines left asks in
        more_first (course_of rules named first bytes) some.0 event before now some.1 does now (none_first some.0 now)
    event_err event ended lines left now ReadFailed asks does = absurd does
    event_err event ended lines left now BadHosts asks does = absurd does
    event_err event ended lines left now (BadLine line) asks does = absurd does
    event_err event ended lines left now (LineTooLong line) asks does = absurd does
    event_err event ended lines left now (Feed fault) asks does = absurd does

    pub event_ok : (event : E) (ended : Bool) (lines : Lines) (left : Option (List ℕ)) (now : W) → AsksNext rules named first bytes (Ok (Some (event, ended))) lines left → Step rules event before now
        → PlaysNext rules named first bytes before (Ok ended) now lines.number lines.window left
    event_ok event true lines left now asks step = (asks.0, asks.2, goes_on event lines left now asks step)
    event_ok event false lines left now asks step = more_to (course_of rules named first bytes) (course_ends Over) event before now asks step Over now (refl, refl)

    -- no line follows the first
    pub no_lines : (good : Bool) (left : Option (List ℕ)) → bytes ≡ [] → PlaysLines rules named first bytes before (Ok good) before left
    no_lines good left none = no_events (course_of rules named first bytes) Over before (ap (λ b. course_of rules named first b) none)

    -- in every case a prefix of the events happened
    pub first_of_all : {X : Type 0} (now : W) (left : Option (List ℕ)) (r : Result X PlayFault) → PlaysLines rules named first bytes before r now left → PlayedFirst rules (course_of rules named first bytes) before now
    first_of_all now left (Ok done) h = let all = course_of rules named first bytes in (all.events, [], now, sym (append-nil all.events), h.1, refl)
    first_of_all now left (Err (BadLine line)) h = let all = course_of rules named first bytes in (all.events, [], now, sym (append-nil all.events), h.1, refl)
    first_of_all now left (Err (LineTooLong line)) h = let all = course_of rules named first bytes in (all.events, [], now, sym (append-nil all.events), h.1, refl)
    first_of_all now left (Err ReadFailed) h = h.3
    first_of_all now left (Err OutOfMemory) h = h
    first_of_all now left (Err WriteFailed) h = h
    first_of_all now left (Err BadHosts) h = absurd h
    first_of_all now left (Err (Feed fault)) h = absurd h

    pub plays_finished : (now : W) (left : Option (List ℕ)) (played r : Result Bool PlayFault) → PlaysLines rules named first bytes before played now left → (r ≡ played) ⊎ (r ≡ Err WriteFailed) → PlaysLines rules named first bytes before r now left
    plays_finished now left played r h (inl e) = subst (λ (x : Result Bool PlayFault). PlaysLines rules named first bytes before x now left) (sym e) h
    plays_finished now left played r h (inr e) = subst (λ (x : Result Bool PlayFault). PlaysLines rules named first bytes before x now left) (sym e) (first_of_all now left played h)

    -- the same fault as a result of another type
    pub plays_err : (X Y : Type 0) (now : W) (left : Option (List ℕ)) (fault : PlayFault) → PlaysLines rules {X = X} named first bytes before (Err fault) now left → PlaysLines rules {X = Y} named first bytes before (Err fault) now left
    plays_err X Y now left (BadLine line) h = h
    plays_err X Y now left (LineTooLong line) h = h
    plays_err X Y now left ReadFailed h = h
    plays_err X Y now left OutOfMemory h = h
    plays_err X Y now left WriteFailed h = h
    plays_err X Y now left BadHosts h = absurd h
    plays_err X Y now left (Feed fault) h = absurd h

  -- ---- the result

  pub good_finished : (notes : List N) (played r : Result Bool PlayFault) → AnswersGood rules played notes → (r ≡ played) ⊎ (r ≡ Err WriteFailed) → AnswersGood rules r notes
  good_finished notes played r h (inl e) = subst (λ (x : Result Bool PlayFault). AnswersGood rules x notes) (sym e) h
  good_finished notes played r h (inr e) = subst (λ (x : Result Bool PlayFault). AnswersGood rules x notes) (sym e) tt

  -- an event never returns a read fault
  pub never_reads : (event : E) (before now : W) (r : Result Unit PlayFault) → DoesEvent rules event before r now → play_read_failed r ≡ false
  never_reads event before now (Ok done) does = refl
  never_reads event before now (Err OutOfMemory) does = refl
  never_reads event before now (Err WriteFailed) does = refl
  never_reads event before now (Err ReadFailed) does = absurd does
  never_reads event before now (Err BadHosts) does = absurd does
  never_reads event before now (Err (BadLine line)) does = absurd does
  never_reads event before now (Err (LineTooLong line)) does = absurd does
  never_reads event before now (Err (Feed fault)) does = absurd does

  -- ---- output

  module _ (rendering : Rendering N W) (began : W) (was : List ℕ) (world : W) where
    module _ {X : Type 0} (number : ℕ) (page : List ℕ) (written : Option (List ℕ)) where
      pub prints_any : (r : Result X PlayFault) → Tells rules rendering began was world number page written → PrintsAs rules rendering began was world r number page written
      prints_any (Ok x) told = told
      prints_any (Err WriteFailed) told = (page, told.2)
      prints_any (Err OutOfMemory) told = told
      prints_any (Err ReadFailed) told = told
      prints_any (Err BadHosts) told = told
      prints_any (Err (BadLine line)) told = told
      prints_any (Err (LineTooLong line)) told = told
      prints_any (Err (Feed fault)) told = told

      pub prints_all : (r : Result X PlayFault) → play_write_failed r ≡ false → PrintsAs rules rendering began was world r number page written → Tells rules rendering began was world number page written
      prints_all (Ok x) other told = told
      prints_all (Err WriteFailed) other told = let f : ⊥ = cc in absurd f
      prints_all (Err OutOfMemory) other told = told
      prints_all (Err ReadFailed) other told = told
      prints_all (Err BadHosts) other told = told
      prints_all (Err (BadLine line)) other told = told
      prints_all (Err (LineTooLong line)) other told = told
      prints_all (Err (Feed fault)) other told = told

    -- the same fault as a result of another type
    pub prints_err : (X Y : Type 0) (number : ℕ) (page : List ℕ) (written : Option (List ℕ)) (fault : PlayFault) → PrintsAs rules {X = X} rendering began was world (Err fault) number page written
        → PrintsAs rules {X = Y} rendering began was world (Err fault) number page written
    prints_err X Y number page written WriteFailed told = told
    prints_err X Y number page written OutOfMemory told = told
    prints_err X Y number page written ReadFailed told = told
    prints_err X Y number page written BadHosts told = told
    prints_err X Y number page written (BadLine line) told = told
    prints_err X Y number page written (LineTooLong line) told = told
    prints_err X Y number page written (Feed fault) told = told

    -- the out buffer was written
    writes_all : (number : ℕ) (page last : List ℕ) (written now : Option (List ℕ)) → Tells rules rendering began was world number page written → last ≡ [] → WritesText page written [] last now → WritesAll rules rendering began was (rules.notes world) now
    writes_all number page last written now so_far none says =
        let said = says was (told rules.after rendering began (rules.notes world)) so_far.2 in
        said.1 ∙ ap (λ text. Some (was ++ text)) (sym (append-nil said.0) ∙ ap (λ rest. said.0 ++ rest) (sym none) ∙ said.2 ∙ append-nil (told rules.after rendering began (rules.notes world)))

    writes_as : (r : Result Bool PlayFault) (written : Option (List ℕ)) → play_write_failed r ≡ false → WritesAll rules rendering began was (rules.notes world) written → WritesAs rules rendering began was (rules.notes world) r written
    writes_as (Ok x) written other h = h
    writes_as (Err WriteFailed) written other h = let f : ⊥ = cc in absurd f
    writes_as (Err OutOfMemory) written other h = h
    writes_as (Err ReadFailed) written other h = h
    writes_as (Err BadHosts) written other h = h
    writes_as (Err (BadLine line)) written other h = h
    writes_as (Err (LineTooLong line)) written other h = h
    writes_as (Err (Feed fault)) written other h = h

    module _ (number : ℕ) (page : List ℕ) (written : Option (List ℕ)) (played : Result Bool PlayFault) (so_far : PrintsAs rules rendering began was world played number page written) where
      pub finish_flushed : (last : List ℕ) (now : Option (List ℕ)) → play_write_failed played ≡ false → (last ≡ []) × WritesText page written [] last now → WritesAs rules rendering began was (rules.notes world) played now
      finish_flushed last now other flushed = writes_as played now other (writes_all number page last written now (prints_all number page written played other so_far) flushed.0 flushed.1)

      pub finish_broken : (now : Option (List ℕ)) → play_write_failed played ≡ false → WritesPrefixOf page written [] now → PrintsPrefixOf rules rendering began was (rules.notes world) now
      finish_broken now other says =
          let all = prints_all number page written played other so_far in
          let said = says.1 was (told rules.after rendering began (rules.notes world)) all.2 in
          (says.0, subst (λ text. SaidSoFar was says.0 now text) (append-nil (told rules.after rendering began (rules.notes world))) said)

    pub finish_failed : (number : ℕ) (page : List ℕ) (written : Option (List ℕ)) (played : Result Bool PlayFault) → play_write_failed played ≡ true → PrintsAs rules rendering began was world played number page written → WritesAs rules rendering began was (rules.notes world) played written
    finish_failed number page written (Ok x) blamed told = let f : ⊥ = cc in absurd f
    finish_failed number page written (Err WriteFailed) blamed told = told
    finish_failed number page written (Err OutOfMemory) blamed told = let f : ⊥ = cc in absurd f
    finish_failed number page written (Err ReadFailed) blamed told = let f : ⊥ = cc in absurd f
    finish_failed number page written (Err BadHosts) blamed told = let f : ⊥ = cc in absurd f
    finish_failed number page written (Err (BadLine line)) blamed told = let f : ⊥ = cc in absurd f
    finish_failed number page written (Err (LineTooLong line)) blamed told = let f : ⊥ = cc in absurd f
    finish_failed number page written (Err (Feed fault)) blamed told = let f : ⊥ = cc in absurd f
