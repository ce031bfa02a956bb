-- What waits, and the flags: how their work changes.
use Rattle.std.proofs.Common.{◌≡◌, ℕ, ◌+◌, ◌-◌, ◌≤◌, Bool, true, false, cond, ◌&&◌, nat_le, List, [], ◌∷◌, ◌++◌, length, drop, refl, arith, le_trans}
use Rattle.std.specs.List.{filter, list_any}
use Rattle.ncp_wire.specs.declared.command.Command.{Command}
use Rattle.ncp_wire.specs.declared.command.Command.TheVariants.{Rst, Rrp}
use Rattle.ncp_wire.specs.Spelling.{spelling}
use Rattle.ncp_model.specs.Phase.{Phase, up, purge, phase_answers, phase_asks, phase_settles, resets, wants_reset, owes_answer, hears_rst, goes_down, has_room_for_one, queued, phase_makes, makes_all, is_reset, is_other, is_rrp, is_rst, is_resetting}
use Rattle.ncp_model.specs.Sending.{fitting}
use Rattle.ncp_proof_progress.specs.Work.{causes, queue_work, phase_work}

pub queue-append : (xs ys : List Command) → queue_work (xs ++ ys) ≡ queue_work xs + queue_work ys
unfolding queue_work
queue-append [] ys = omega arith
queue-append (c ∷ xs) ys = let h = queue-append xs ys in omega (arith, h)

pub queue-filter : (test : Command → Bool) (xs : List Command) → queue_work (filter test xs) ≤ queue_work xs
unfolding queue_work
queue-filter test [] = omega arith
queue-filter test (c ∷ xs) = go (test c) (queue-filter test xs)
  where
    go : (b : Bool) → queue_work (filter test xs) ≤ queue_work xs → queue_work (cond b (c ∷ filter test xs) (filter test xs)) ≤ 1 + causes c + queue_work xs
    go true h = omega (arith, h)
    go false h = omega (arith, h)

-- what the next control message takes, and what stays
pub queue-fitting : (room : ℕ) (cs : List Command) → queue_work (fitting room cs) + queue_work (drop (length (fitting room cs)) cs) ≡ queue_work cs
unfolding queue_work
queue-fitting room [] = refl
queue-fitting room (c ∷ cs) = go (nat_le (length (spelling c)) room) (queue-fitting (room - length (spelling c)) cs)
  where
    rest : List Command
    rest = fitting (room - length (spelling c)) cs

    go : (b : Bool) → queue_work rest + queue_work (drop (length rest) cs) ≡ queue_work cs → queue_work (cond b (c ∷ rest) []) + queue_work (drop (length (cond b (c ∷ rest) [])) (c ∷ cs)) ≡ queue_work (c ∷ cs)
    go true h = omega (arith, h)
    go false h = omega arith

pub purge-work : (q : Phase) → phase_work (purge q) ≤ phase_work q
purge-work q = let h = queue-filter is_reset q.waiting in omega (arith, h)

pub down-work : (q : Phase) → phase_work (goes_down q) ≤ phase_work q
down-work q = purge-work q

queued-work : (c : Command) (q : Phase) → phase_work (queued c q) ≤ phase_work q + 1 + causes c
unfolding queue_work
queued-work c q = let h : queue_work (q.waiting ++ c ∷ []) ≡ queue_work q.waiting + (1 + causes c + 0) = queue-append q.waiting (c ∷ []) in omega (arith, h)

makes-work : (c : Command) (q : Phase) → phase_work (phase_makes c q) ≤ phase_work q + 1 + causes c
makes-work c q = go (up q && is_other c) (has_room_for_one q)
  where
    go : (a b : Bool) → phase_work (cond a (cond b (queued c q) (goes_down q)) q) ≤ phase_work q + 1 + causes c
    go true true = queued-work c q
    go true false = let h = down-work q in omega (arith, h)
    go false b = omega arith

pub makes_all-work : (cs : List Command) (q : Phase) → phase_work (makes_all cs q) ≤ phase_work q + queue_work cs
unfolding queue_work
makes_all-work [] q = omega arith
makes_all-work (c ∷ cs) q = let h = makes_all-work cs (phase_makes c q) in let k = makes-work c q in omega (arith, h, k)

answers-work : (q : Phase) → phase_work (phase_answers q) ≤ phase_work q
unfolding queue_work
answers-work q = go q.owe (list_any is_rrp q.waiting) refl
  where
    go : (a b : Bool) → q.owe ≡ a → phase_work (cond a (record q { down = false; owe = false; waiting = cond b q.waiting (q.waiting ++ Rrp ∷ []) }) q) ≤ phase_work q
    go true true h = rw h (omega arith)
    go true false h = rw (h, queue-append q.waiting (Rrp ∷ [])) (omega arith)
    go false b h = omega arith

asks-work : (q : Phase) → phase_work (phase_asks q) ≤ phase_work q
unfolding queue_work
asks-work q = go q.want (list_any is_rst q.waiting) refl
  where
    go : (a b : Bool) → q.want ≡ a → phase_work (cond a (record q { down = false; want = false; wait = true; waiting = cond b q.waiting (q.waiting ++ Rst ∷ []) }) q) ≤ phase_work q
    go true true h = rw h (omega arith)
    go true false h = rw (h, queue-append q.waiting (Rst ∷ [])) (omega arith)
    go false b h = omega arith

pub settles-work : (quiet : Bool) (q : Phase) → phase_work (phase_settles quiet q) ≤ phase_work q
settles-work true q = le_trans (asks-work (phase_answers q)) (answers-work q)
settles-work false q = omega arith

pub resets-work : (quiet : Bool) (q : Phase) → phase_work (resets quiet q) ≤ phase_work q + 2
resets-work quiet q = go (is_resetting q)
  where
    go : (b : Bool) → phase_work (cond b q (phase_settles quiet (wants_reset q))) ≤ phase_work q + 2
    go true = omega arith
    go false = let h = settles-work quiet (wants_reset q) in let k = queue-filter is_reset q.waiting in grind (arith, h, k)

pub hears_rst-work : (quiet : Bool) (q : Phase) → phase_work (hears_rst quiet q) ≤ phase_work q + 1
hears_rst-work quiet q = let h = settles-work quiet (owes_answer q) in let k = queue-filter is_reset q.waiting in grind (arith, h, k)
