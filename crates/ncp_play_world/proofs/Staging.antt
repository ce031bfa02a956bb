-- Hosts that are played, behind a note more or a mark more.
use Rattle.std.proofs.Common.{◌≡◌, ◌≤◌, ℕ, Result, Ok, Err, OnErr, ◌+◌, Bool, true, false, suc, ◌-◌, ◌<◌, ◌^◌, List, [], ◌∷◌, ◌++◌, length, Some, None, sym, ap, ◌∙◌, subst, arith}
use Rattle.std.specs.Prelude.{slice_get}
use Rattle.std.specs.List.{list_any}
use Rattle.ncp_transcript_two.specs.Transcript.{Noted_hosts}
use Rattle.ncp_world.specs.Kinds.{Kind, IsStepOf, GoOrRest}
use Rattle.ncp_world.specs.Next.{next_by_itself, Takes}
use Rattle.ncp_play_world_lines.specs.declared.settling.Directive.TheVariants.{Event as Does, Settle}
use Rattle.ncp_play_world_lines.specs.declared.settling.ScriptNote.TheVariants.{Noted, Settled}
use Rattle.ncp_play_world.specs.declared.marks.Mark.{Mark}
use Rattle.ncp_play_world.specs.Traces.{Staged, traces_of, notes_marked, last_marked, marked_place, position_of_line, IsLast, is_trace_refusal}
use Rattle.ncp_play_world.specs.HostsRules.{traced_of, PartOf, IsRunOf}
use Rattle.ncp_play_world.proofs.Traces.{traces_note, traces_mark, notes_marked_more, one_more, same_last, length-traces, notes_again, any_in, settled_last, noted_last, none_last}
use Rattle.ncp_play_world.proofs.Places.{place_is}

-- what stays after an error
pub on_err : {A E P : Type 0} (r : Result A E) → P → OnErr r P
on_err (Ok x) p = tt
on_err (Err e) p = p

-- one mark more
abbrev pub marked : List Mark → ℕ → ℕ → List Mark
marked marks since many = marks ++ record { behind = since; many = many } ∷ []

-- as many notes stand before and behind the last mark as there are
pub all_marked : (marks : List Mark) (since many notes : ℕ) → notes_marked marks + since ≡ notes → notes_marked (marked marks since many) + 0 ≡ notes
all_marked marks since many notes all = let more = notes_marked_more marks (record { behind = since; many = many }) in omega (arith, all, more)

module _ {N : Type 0} where
  pub one_noted : (all before : List N) (note : N) (marks : List Mark) (since : ℕ) → all ≡ before ++ note ∷ [] → notes_marked marks + since ≡ length before → notes_marked marks + (since + 1) ≡ length all
  one_noted all before note marks since e k = let longer = one_more all before note e in omega (arith, k, longer)

  -- there is room to count them
  pub room_so : (notes : List N) (marks : List Mark) → length notes < 2 ^ 63 → length marks < 2 ^ 63 → length (traces_of notes marks) < 2 ^ 64
  room_so notes marks a b = let both = length-traces notes marks in omega (arith, a, b, both)

  few : (notes : List N) (marks : List Mark) (since : ℕ) → notes_marked marks + since ≡ length notes → notes_marked marks ≤ length notes
  few notes marks since all = omega (arith, all)

module _ {Name E N H : Type 0} (kind : Kind Name E N H) where
  abbrev pub staged : Noted_hosts H N → List Mark → Staged (Noted_hosts H N) N
  staged w marks = record { hosts = w; traces = traces_of w.notes marks }

  pub note_more : (w next : Noted_hosts H N) (marks : List Mark) (note : N) → notes_marked marks ≤ length w.notes → next.notes ≡ w.notes ++ note ∷ [] → next.hosts ≡ kind.after note w.hosts → staged next marks ≡ traced_of kind (Noted note) (staged w marks)
  note_more w next marks note small longer after =
      let told = ap (λ (ns : List N). traces_of ns marks) longer ∙ traces_note w.notes note marks small in
      λ i. record { hosts = record { hosts = after i; notes = longer i }; traces = told i }

  pub mark_more : (w : Noted_hosts H N) (marks : List Mark) (since many : ℕ) → notes_marked marks + since ≡ length w.notes → staged w (marked marks since many) ≡ traced_of kind (Settled many) (staged w marks)
  mark_more w marks since many all = let told = traces_mark w.notes (record { behind = since; many = many }) marks all in λ i. record { hosts = w; traces = told i }

  module _ (w : Noted_hosts H N) (marks : List Mark) (since : ℕ) (all : notes_marked marks + since ≡ length w.notes) (before : Staged (Noted_hosts H N) N) (was : staged w marks ≡ before) where
    pub event_part : (event : E) (next : Noted_hosts H N) → IsStepOf kind event w next → PartOf kind (Does event) 0 false before (staged next marks)
    event_part event next step =
        subst (λ (s : Staged (Noted_hosts H N) N). PartOf kind (Does event) 0 false s (staged next marks)) was (step.0, step.1, note_more w next marks step.0 (few w.notes marks since all) step.2 step.3)

    pub on_part : (left : ℕ) (more : Bool) (next : Noted_hosts H N) → more ≡ true → GoOrRest kind more w next → Takes kind (next_by_itself kind w.hosts) more w next → PartOf kind Settle left true before (staged next marks)
    on_part left more next is on takes =
        let once = subst (λ (b : Bool). GoOrRest kind b w next) is on in
        let taken = subst (λ (b : Bool). Takes kind (next_by_itself kind w.hosts) b w next) is takes in
        let step = taken.2 in
        let same : step.0 ≡ once.0 = same_last next.notes w.notes w.notes once.0 step.0 once.3 step.2 in
        let alone = subst (λ (note : N). kind.ByItself note w.hosts) (sym same) once.2 in
        subst (λ (s : Staged (Noted_hosts H N) N). PartOf kind Settle left true s (staged next marks)) was
        (step.0, (taken.0, taken.1, step.1), alone, note_more w next marks step.0 (few w.notes marks since all) step.2 step.3)

    pub rest_part : (left : ℕ) (more : Bool) (next : Noted_hosts H N) → more ≡ false → GoOrRest kind more w next → Takes kind (next_by_itself kind w.hosts) more w next → PartOf kind Settle left false before (staged next (marked marks since left))
    rest_part left more next is on takes =
        let quiescent = subst (λ (b : Bool). GoOrRest kind b w next) is on in
        let none = subst (λ (b : Bool). Takes kind (next_by_itself kind w.hosts) b w next) is takes in
        subst (λ (s : Staged (Noted_hosts H N) N). PartOf kind Settle left false s (staged next (marked marks since left))) was
        (none.0, quiescent.1, ap (λ (x : Noted_hosts H N). staged x (marked marks since left)) quiescent.0 ∙ mark_more w marks since left all)

    -- the marks are behind all notes again
    pub rest_all : (left : ℕ) (more : Bool) (next : Noted_hosts H N) (others : List Mark) (behind : ℕ) → more ≡ false → GoOrRest kind more w next → others ≡ marked marks since left → behind ≡ 0 → notes_marked others + behind ≡ length next.notes
    rest_all left more next others behind is on e none =
        let quiescent = subst (λ (b : Bool). GoOrRest kind b w next) is on in
        let same = ap (λ (x : Noted_hosts H N). length x.notes) quiescent.0 in
        let longer = notes_marked_more marks (record { behind = since; many = left }) in
        let items = ap notes_marked e in
        omega (arith, all, same, longer, items, none)

    -- and behind a note more
    pub event_all : (event : E) (next : Noted_hosts H N) (others : List Mark) (behind : ℕ) → IsStepOf kind event w next → others ≡ marks → behind ≡ since + 1 → notes_marked others + behind ≡ length next.notes
    event_all event next others behind step e one =
        let longer = one_more next.notes w.notes step.0 step.2 in
        let items = ap notes_marked e in
        omega (arith, all, longer, items, one)

    pub on_all : (more : Bool) (next : Noted_hosts H N) (others : List Mark) (behind : ℕ) → more ≡ true → GoOrRest kind more w next → others ≡ marks → behind ≡ since + 1 → notes_marked others + behind ≡ length next.notes
    on_all more next others behind is on e one =
        let once = subst (λ (b : Bool). GoOrRest kind b w next) is on in
        let longer = one_more next.notes w.notes once.0 once.3 in
        let items = ap notes_marked e in
        omega (arith, all, longer, items, one)

    -- or where nothing came
    pub still_all : (more : Bool) (next : Noted_hosts H N) (others : List Mark) (behind : ℕ) → more ≡ false → GoOrRest kind more w next → others ≡ marks → behind ≡ since → notes_marked others + behind ≡ length next.notes
    still_all more next others behind is on e same =
        let quiescent = subst (λ (b : Bool). GoOrRest kind b w next) is on in
        let notes = ap (λ (x : Noted_hosts H N). length x.notes) quiescent.0 in
        let items = ap notes_marked e in
        omega (arith, all, notes, items, same)

    pub still_staged : (more : Bool) (next : Noted_hosts H N) (others : List Mark) → more ≡ false → GoOrRest kind more w next → others ≡ marks → staged next others ≡ before
    still_staged more next others is on e =
        let quiescent = subst (λ (b : Bool). GoOrRest kind b w next) is on in
        ap (λ (ms : List Mark). staged next ms) e ∙ ap (λ (x : Noted_hosts H N). staged x marks) quiescent.0 ∙ was

    pub same_staged : (next : Noted_hosts H N) → next ≡ w → staged next marks ≡ before
    same_staged next same = ap (λ (x : Noted_hosts H N). staged x marks) same ∙ was

    pub printed_so : length w.notes + length marks ≡ length before.traces
    printed_so = subst (λ (s : Staged (Noted_hosts H N) N). length w.notes + length marks ≡ length s.traces) was (sym (length-traces w.notes marks))

    pub place_so : (line : ℕ) → marked_place marks since 0 line ≡ position_of_line before.traces (suc line)
    place_so line = subst (λ (s : Staged (Noted_hosts H N) N). marked_place marks since 0 line ≡ position_of_line s.traces (suc line)) was (place_is w.notes marks since line all)

    pub refused_so : (refused : N → Bool) → list_any refused w.notes ≡ list_any (is_trace_refusal refused) before.traces
    refused_so refused =
        subst (λ (s : Staged (Noted_hosts H N) N). list_any refused w.notes ≡ list_any (is_trace_refusal refused) s.traces) was
        (sym (any_in refused (traces_of w.notes marks) ∙ ap (list_any refused) (notes_again w.notes marks)))

    pub run_so : kind.IsTranscript w.notes w.hosts → IsRunOf kind before
    run_so run = subst (IsRunOf kind) was (run, notes_again w.notes marks)

    pub settled_so : (many : ℕ) → Some many ≡ last_marked marks since → IsLast (Settled many) before.traces
    settled_so many last = subst (λ (s : Staged (Noted_hosts H N) N). IsLast (Settled many) s.traces) was (settled_last w.notes marks since many all last)

    pub noted_so : (note : N) → None ≡ last_marked marks since → Some note ≡ slice_get w.notes (length w.notes - 1) → IsLast (Noted note) before.traces
    noted_so note last at = subst (λ (s : Staged (Noted_hosts H N) N). IsLast (Noted note) s.traces) was (noted_last w.notes marks since note all last at)

    pub none_so : None ≡ last_marked marks since → None ≡ slice_get w.notes (length w.notes - 1) → before.traces ≡ []
    none_so last at = subst (λ (s : Staged (Noted_hosts H N) N). s.traces ≡ []) was (none_last w.notes marks since all last at)
