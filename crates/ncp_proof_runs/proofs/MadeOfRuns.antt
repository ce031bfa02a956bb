-- What was made, less what was struck, is what went out followed by what waits.
use Rattle.std.proofs.Common.{◌≡◌, ℕ, ◌+◌, ◌-◌, Bool, true, false, not, ◌&&◌, if◌then◌else◌, nat_le, List, [], ◌∷◌, ◌++◌, length, take, drop, refl, sym, ap, ◌∙◌, subst}
use Rattle.std.proofs.lemmas.List.{append_assoc, length-append}
use Rattle.std.proofs.Math.Seq.{take-append_seam, drop-append_seam}
use Rattle.std.specs.List.{filter, list_any}
use Rattle.ncp_wire.specs.declared.command.Command.{Command}
use Rattle.ncp_wire.specs.Spelling.{spelling}
use Rattle.ncp_model.specs.Effect.{answer, made_by_hearing}
use Rattle.ncp_model.specs.Ends.{hear}
use Rattle.ncp_model.specs.Phase.{Phase, Reaction, up, is_rst, is_rrp, is_reset, is_other, has_room_for_one, wants_reset, owes_answer, hears_rrp, goes_down, queued, makes_all, phase_answers, phase_asks, phase_hears, phase_makes, phase_settles}
use Rattle.ncp_model.specs.Sending.{fitting, next_commands}
use Rattle.ncp_model.specs.Peers.{Peer, is_full_up, echo_replies, hears, hears_other, reaction}
use Rattle.ncp_proof_runs.specs.Making.{Made, made, made_heard, went_down, reset_asked, made_rst_came, rrp_came, made_sent, counts_rrp, counts_rst, made_in, all_made_in, answer_made, reset_made, settling_made, by_other, by_command}

-- of these that are gone, and the phase: those that wait, and its flags
pub record Agrees (l : Made) (p : Phase) (gone : List Command) : Type 0 where
  pub all : l.all ≡ gone ++ p.waiting
  pub count : l.gone ≡ length gone
  pub down : p.down ≡ not l.began
  pub want : p.want ≡ not l.did_reset
  pub wait : p.wait ≡ not l.got_answer
  pub owe : p.owe ≡ not l.gave_answer

-- What goes out next is a beginning of what waits.

fitting-first : (room : ℕ) (cs : List Command) → fitting room cs ++ drop (length (fitting room cs)) cs ≡ cs
fitting-first room [] = refl
fitting-first room (c ∷ cs) = go (nat_le (length (spelling c)) room) (fitting-first (room - length (spelling c)) cs)
  where
    go : (b : Bool) → fitting (room - length (spelling c)) cs ++ drop (length (fitting (room - length (spelling c)) cs)) cs ≡ cs
        → (if b then c ∷ fitting (room - length (spelling c)) cs else []) ++ drop (length (if b then c ∷ fitting (room - length (spelling c)) cs else [])) (c ∷ cs) ≡ c ∷ cs
    go true rest = ap (λ (xs : List Command). c ∷ xs) rest
    go false rest = refl

pub next-first : (cs : List Command) → next_commands cs ++ drop (length (next_commands cs)) cs ≡ cs
next-first cs = fitting-first 120 cs

not_gone : (l : Made) (p : Phase) (g : List Command) → Agrees l p g → drop l.gone l.all ≡ p.waiting
not_gone l p g a = ap (λ (xs : List Command). drop l.gone xs) a.all ∙ ap (λ (k : ℕ). drop k (g ++ p.waiting)) a.count ∙ drop-append_seam g p.waiting

pub sent-agrees : (l : Made) (p : Phase) (g : List Command) → Agrees l p g → Agrees (made_sent l) (record p { waiting = drop (length (next_commands p.waiting)) p.waiting }) (g ++ next_commands p.waiting)
sent-agrees l p g a =
    let w = p.waiting in
    record {
      all = a.all ∙ ap (λ (xs : List Command). g ++ xs) (sym (next-first w)) ∙ sym (append_assoc g (next_commands w) (drop (length (next_commands w)) w));
      count = ap (λ (k : ℕ). k + length (next_commands (drop l.gone l.all))) a.count ∙ ap (λ (xs : List Command). length g + length (next_commands xs)) (not_gone l p g a) ∙ sym (length-append g (next_commands w));
      down = a.down;
      want = a.want;
      wait = a.wait;
      owe = a.owe;
    }

module _ (g : List Command) where
  made-all : (c : Command) (l : Made) (p : Phase) → Agrees l p g → l.all ++ c ∷ [] ≡ g ++ (p.waiting ++ c ∷ [])
  made-all c l p a = ap (λ (xs : List Command). xs ++ c ∷ []) a.all ∙ append_assoc g p.waiting (c ∷ [])

  made-agrees : (c : Command) (l : Made) (p : Phase) → Agrees l p g → Agrees (made c l) (queued c p) g
  made-agrees c l p a = record { all = made-all c l p a; count = a.count; down = a.down; want = a.want; wait = a.wait; owe = a.owe }

  -- The clearings.

  struck-all : (l : Made) (p : Phase) → Agrees l p g → take l.gone l.all ++ filter is_reset (drop l.gone l.all) ≡ g ++ filter is_reset p.waiting
  struck-all l p a =
      ap (λ (xs : List Command). take l.gone l.all ++ filter is_reset xs) (not_gone l p g a)
      ∙ ap (λ (xs : List Command). take l.gone xs ++ filter is_reset p.waiting) a.all
      ∙ ap (λ (k : ℕ). take k (g ++ p.waiting) ++ filter is_reset p.waiting) a.count
      ∙ ap (λ (xs : List Command). xs ++ filter is_reset p.waiting) (take-append_seam g p.waiting)

  fallen-agrees : (l : Made) (p : Phase) → Agrees l p g → Agrees (went_down l) (goes_down p) g
  fallen-agrees l p a = record { all = struck-all l p a; count = a.count; down = refl; want = a.want; wait = a.wait; owe = a.owe }

  wanted-agrees : (l : Made) (p : Phase) → Agrees l p g → Agrees (reset_asked l) (wants_reset p) g
  wanted-agrees l p a = record { all = struck-all l p a; count = a.count; down = a.down; want = refl; wait = a.wait; owe = a.owe }

  owed-agrees : (l : Made) (p : Phase) → Agrees l p g → Agrees (made_rst_came l) (owes_answer p) g
  owed-agrees l p a = record { all = struck-all l p a; count = a.count; down = a.down; want = a.want; wait = a.wait; owe = refl }

  met-agrees : (l : Made) (p : Phase) → Agrees l p g → Agrees (rrp_came l) (hears_rrp p) g
  met-agrees l p a = record { all = a.all; count = a.count; down = a.down; want = a.want; wait = refl; owe = a.owe }

  -- What is made.

  made_in-agrees : (c : Command) (p : Phase) (l : Made) → Agrees l p g → Agrees (made_in c p l) (phase_makes c p) g
  made_in-agrees c p l a = go (up p && is_other c) (has_room_for_one p)
    where
      go : (b d : Bool) → Agrees (if b then (if d then made c l else went_down l) else l) (if b then (if d then queued c p else goes_down p) else p) g
      go true true = made-agrees c l p a
      go true false = fallen-agrees l p a
      go false d = a

  pub all_made-agrees : (cs : List Command) (p : Phase) (l : Made) → Agrees l p g → Agrees (all_made_in cs p l) (makes_all cs p) g
  all_made-agrees [] p l a = a
  all_made-agrees (c ∷ cs) p l a = all_made-agrees cs (phase_makes c p) (made_in c p l) (made_in-agrees c p l a)

  answer-agrees : (p : Phase) (l : Made) → Agrees l p g → Agrees (answer_made p l) (phase_answers p) g
  answer-agrees p l a = go p.owe (list_any is_rrp p.waiting)
    where
      go : (b d : Bool) → Agrees (if b then counts_rrp (if d then l else made Command.Rrp l) else l) (if b then record p { down = false; owe = false; waiting = if d then p.waiting else p.waiting ++ Command.Rrp ∷ [] } else p) g
      go true true = record { all = a.all; count = a.count; down = refl; want = a.want; wait = a.wait; owe = refl }
      go true false = record { all = made-all Command.Rrp l p a; count = a.count; down = refl; want = a.want; wait = a.wait; owe = refl }
      go false d = a

  reset-agrees : (p : Phase) (l : Made) → Agrees l p g → Agrees (reset_made p l) (phase_asks p) g
  reset-agrees p l a = go p.want (list_any is_rst p.waiting)
    where
      go : (b d : Bool) → Agrees (if b then counts_rst (if d then l else made Command.Rst l) else l) (if b then record p { down = false; want = false; wait = true; waiting = if d then p.waiting else p.waiting ++ Command.Rst ∷ [] } else p) g
      go true true = record { all = a.all; count = a.count; down = refl; want = refl; wait = refl; owe = a.owe }
      go true false = record { all = made-all Command.Rst l p a; count = a.count; down = refl; want = refl; wait = refl; owe = a.owe }
      go false d = a

  pub settling-agrees : (quiet : Bool) (p : Phase) (l : Made) → Agrees l p g → Agrees (settling_made quiet p l) (phase_settles quiet p) g
  settling-agrees true p l a = reset-agrees (phase_answers p) (answer_made p l) (answer-agrees p l a)
  settling-agrees false p l a = a

  pub asked-agrees : (quiet : Bool) (p : Phase) (l : Made) → Agrees l p g → Agrees (settling_made quiet (wants_reset p) (reset_asked l)) (phase_settles quiet (wants_reset p)) g
  asked-agrees quiet p l a = settling-agrees quiet (wants_reset p) (reset_asked l) (wanted-agrees l p a)

  -- A command that comes.

  other-agrees : (quiet : Bool) (c : Command) (p : Peer) (l : Made)
      → ((r : Reaction) → phase_hears c r p.phase ≡ (if up p.phase then (if r.full then goes_down p.phase else makes_all r.replies p.phase) else p.phase))
      → Agrees l p.phase g → Agrees (by_other c p l) (if up p.phase then hears_other quiet c p else p).phase g
  other-agrees quiet c p l is a = go (up p.phase) refl
    where
      then-is : up p.phase ≡ true → (hears_other quiet c p).phase ≡ (if is_full_up (answer (hear c p.ends)) then goes_down p.phase else makes_all (made_by_hearing (answer (hear c p.ends)) ++ echo_replies c) p.phase)
      then-is e = is (reaction quiet c p) ∙ ap (λ (b : Bool). if b then (if is_full_up (answer (hear c p.ends)) then goes_down p.phase else makes_all (made_by_hearing (answer (hear c p.ends)) ++ echo_replies c) p.phase) else p.phase) e

      heard-agrees : Agrees (made_heard c l) p.phase g
      heard-agrees = record { all = a.all; count = a.count; down = a.down; want = a.want; wait = a.wait; owe = a.owe }

      full : (b : Bool) → Agrees (if b then went_down l else all_made_in (made_by_hearing (answer (hear c p.ends)) ++ echo_replies c) p.phase (made_heard c l)) (if b then goes_down p.phase else makes_all (made_by_hearing (answer (hear c p.ends)) ++ echo_replies c) p.phase) g
      full true = fallen-agrees l p.phase a
      full false = all_made-agrees (made_by_hearing (answer (hear c p.ends)) ++ echo_replies c) p.phase (made_heard c l) heard-agrees

      go : (b : Bool) → up p.phase ≡ b
          → Agrees (if b then (if is_full_up (answer (hear c p.ends)) then went_down l else all_made_in (made_by_hearing (answer (hear c p.ends)) ++ echo_replies c) p.phase (made_heard c l)) else l) (if b then hears_other quiet c p else p).phase g
      go true e =
          subst (λ (q : Phase). Agrees (if is_full_up (answer (hear c p.ends)) then went_down l else all_made_in (made_by_hearing (answer (hear c p.ends)) ++ echo_replies c) p.phase (made_heard c l)) q g) (sym (then-is e))
          (full (is_full_up (answer (hear c p.ends))))
      go false e = a

  pub command-agrees : (quiet : Bool) (c : Command) (p : Peer) (l : Made) → Agrees l p.phase g → Agrees (by_command quiet c p l) (hears quiet c p).phase g
  command-agrees quiet Command.Rst p l a = settling-agrees quiet (owes_answer p.phase) (made_rst_came l) (owed-agrees l p.phase a)
  command-agrees quiet Command.Rrp p l a = met-agrees l p.phase a
  command-agrees quiet c p l a = other-agrees quiet c p l (λ r. refl) a
