-- The messages at a host's interface, in a file that has records of other interfaces too, are the
-- recording of inputs with their notes: of none, of one, and of two lists in sequence. Rules that report
-- no violation by a host in its whole recording report none in such a file.
use Rattle.std.proofs.Common.{◌≡◌, ℕ, ◌<◌, ◌==◌, Bool, true, false, if◌then◌else◌, List, [], ◌∷◌, ◌++◌, refl, sym, ap, ◌∙◌}
use Rattle.std.proofs.lemmas.List.{append_assoc, append-nil}
use Rattle.ncp_host.specs.Host.{Host, is_one_of, are_peers, new_host}
use Rattle.ncp_transcript.specs.declared.input.Input.{Input}
use Rattle.ncp_transcript.specs.declared.note.HostNote.{HostNote}
use Rattle.ncp_transcript.specs.After.{after_note, after_notes}
use Rattle.ncp_transcript.specs.Alone.{Alone, AreHostSteps}
use Rattle.ncp_transcript.specs.Noting.{HostNoted}
use Rattle.ncp_transcript.specs.Runs.{AreHostNotes}
use Rattle.ncp_interface.specs.declared.imp_direction.ImpDirection.{ImpDirection}
use Rattle.ncp_monitor.specs.declared.finding.Rule.{Rule}
use Rattle.ncp_monitor.specs.Judged.{new_monitor}
use Rattle.ncp_monitor.proofs.Passing.{Pass}
use Rattle.ncp_proof_monitor.specs.Recordings.{passes_with, recording, begun_alone, AreFit, spares, at_interface, found_at, NobodyBlamed}
use Rattle.ncp_proof_monitor.proofs.PhaseLists.{itself}

pub record Recorded (me : ℕ) (file : List (ℕ × ImpDirection × List Bool)) (noted : List HostNote) (h : Host) : Type 0 where
  pub given : List Input
  pub each : AreHostNotes given noted h
  pub fit : AreFit given
  pub here : at_interface me file ≡ recording given noted

-- ---- one record

pub at_own : (me : ℕ) (way : ImpDirection) (bits : List Bool) → at_interface me ((me, way, bits) ∷ []) ≡ (way, bits) ∷ []
at_own me way bits = ap (λ (b : Bool). if b then (way, bits) ∷ [] else []) (itself me)

pub at_other : (me host : ℕ) (way : ImpDirection) (bits : List Bool) → (host == me) ≡ false → at_interface me ((host, way, bits) ∷ []) ≡ []
at_other me host way bits d = ap (λ (b : Bool). if b then (way, bits) ∷ [] else []) d

-- ---- nothing, or one input

pub nothing_recorded : (me : ℕ) (file : List (ℕ × ImpDirection × List Bool)) (h : Host) → at_interface me file ≡ [] → Recorded me file [] h
nothing_recorded me file h none = record { given = []; each = tt; fit = tt; here = none }

pub input_recorded : (me : ℕ) (file : List (ℕ × ImpDirection × List Bool)) (h : Host) (input : Input) (note : HostNote) → HostNoted input note h → AreFit (input ∷ []) → at_interface me file ≡ passes_with input note ++ [] → Recorded me file (note ∷ []) h
input_recorded me file h input note said fit here = record { given = input ∷ []; each = (said, tt); fit = fit; here = here }

-- ---- some, and more

fit_both : (some more : List Input) → AreFit some → AreFit more → AreFit (some ++ more)
fit_both [] more f g = g
fit_both (Input.Call call ∷ some) more f g = (f.0, fit_both some more f.1 g)
fit_both (Input.In bits ∷ some) more f g = fit_both some more f g
fit_both (Input.Out ∷ some) more f g = fit_both some more f g

notes_both : (some more : List Input) (ns ms : List HostNote) (h : Host) → AreHostNotes some ns h → AreHostNotes more ms (after_notes ns h) → AreHostNotes (some ++ more) (ns ++ ms) h
notes_both [] more [] ms h p q = q
notes_both [] more (n ∷ ns) ms h p q = absurd p
notes_both (i ∷ some) more [] ms h p q = absurd p
notes_both (i ∷ some) more (n ∷ ns) ms h p q = (p.0, notes_both some more ns ms (after_note n h) p.1 q)

passed_both : (some more : List Input) (ns ms : List HostNote) (h : Host) → AreHostNotes some ns h → recording (some ++ more) (ns ++ ms) ≡ recording some ns ++ recording more ms
passed_both [] more [] ms h p = refl
passed_both [] more (n ∷ ns) ms h p = absurd p
passed_both (i ∷ some) more [] ms h p = absurd p
passed_both (i ∷ some) more (n ∷ ns) ms h p =
    ap (λ (xs : List (ImpDirection × List Bool)). passed ++ xs) (passed_both some more ns ms (after_note n h) p.1) ∙ sym (append_assoc passed (recording some ns) (recording more ms))
  where
    passed : List (ImpDirection × List Bool)
    passed = passes_with i n

at_both : (me : ℕ) (xs ys : List (ℕ × ImpDirection × List Bool)) → at_interface me (xs ++ ys) ≡ at_interface me xs ++ at_interface me ys
at_both me [] ys = refl
at_both me (x ∷ xs) ys = go (x.0 == me) (at_both me xs ys)
  where
    go : (b : Bool) → at_interface me (xs ++ ys) ≡ at_interface me xs ++ at_interface me ys
        → (if b then (x.1, x.2) ∷ at_interface me (xs ++ ys) else at_interface me (xs ++ ys)) ≡ (if b then (x.1, x.2) ∷ at_interface me xs else at_interface me xs) ++ at_interface me ys
    go true r = ap (λ (zs : List (ImpDirection × List Bool)). (x.1, x.2) ∷ zs) r
    go false r = r

pub both_recorded : (me : ℕ) (file more : List (ℕ × ImpDirection × List Bool)) (noted later : List HostNote) (h : Host) → Recorded me file noted h → Recorded me more later (after_notes noted h) → Recorded me (file ++ more) (noted ++ later) h
both_recorded me file more noted later h r s = record {
  given = r.given ++ s.given;
  each = notes_both r.given s.given noted later h r.each s.each;
  fit = fit_both r.given s.given r.fit s.fit;
  here =
      at_both me file more
      ∙ ap (λ (xs : List (ImpDirection × List Bool)). xs ++ at_interface me more) r.here
      ∙ ap (λ (xs : List (ImpDirection × List Bool)). recording r.given noted ++ xs) s.here
      ∙ sym (passed_both r.given s.given noted later h r.each);
}

-- ---- the whole recording of a host

-- notes, one for each input, are those of steps
stepped : (given : List Input) (all : List HostNote) (before : Alone) → AreHostNotes given all before.host → (now : Alone) × (now.notes ≡ before.notes ++ all) × AreHostSteps given before now
stepped [] [] before p = (before, sym (append-nil before.notes), refl)
stepped [] (note ∷ all) before p = absurd p
stepped (input ∷ given) [] before p = absurd p
stepped (input ∷ given) (note ∷ all) before p =
    let next : Alone = record { host = after_note note before.host; notes = before.notes ++ note ∷ [] } in
    let rest = stepped given all next p.1 in
    (rest.0, rest.1 ∙ append_assoc before.notes (note ∷ []) all, (next, (note, p.0, refl, refl), rest.2))

pub recorded_spares : (judged : Rule → Bool) → NobodyBlamed judged → (me : ℕ) (ns : List ℕ) (file : List (ℕ × ImpDirection × List Bool)) (noted : List HostNote) → are_peers me ns ≡ true → ((n : ℕ) → is_one_of n ns ≡ true → n < 256) → me < 256 → Recorded me file noted (new_host me ns)
    → Pass (spares judged me) (found_at (new_monitor false) me file)
recorded_spares judged none me ns file noted peers places small r =
    let s = stepped r.given noted (begun_alone me ns) r.each in
    none me ns r.given s.0 file peers places small r.fit s.2 (r.here ∙ ap (recording r.given) (sym s.1))
