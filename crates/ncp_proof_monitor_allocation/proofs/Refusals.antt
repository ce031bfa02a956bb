-- What the books refuse of the other's requests the host refuses too.
use Rattle.std.proofs.Common.{◌≡◌, ℕ, ◌==◌, Bool, true, false, not, ◌&&◌, ◌||◌, if◌then◌else◌, List, [], ◌∷◌, Option, None, Some, eq-eqb, refl, sym, ap, ◌∙◌, arith}
use Rattle.std.specs.FinMap.{get}
use Rattle.ncp_wire.specs.declared.command.Command.{Command}
use Rattle.ncp_wire.specs.Spelling.{error_data, error_of}
use Rattle.ncp_model.specs.declared.pair.Pair.{Pair}
use Rattle.ncp_model.specs.Pairs.{is_receive, sends}
use Rattle.ncp_model.specs.Endpoint.{Endpoint, or_new}
use Rattle.ncp_model.specs.Effect.{is_data_link}
use Rattle.ncp_model.specs.Commands.{wrong_rts}
use Rattle.ncp_model.specs.Ends.{Ends}
use Rattle.ncp_monitor.specs.ConnStates.{SeenTables}
use Rattle.ncp_interface.specs.Sockets.{is_senders, is_of_sexes}
use Rattle.ncp_monitor.specs.Replies.{says_wanted, same_bytes, error_wanted}
use Rattle.ncp_monitor.proofs.Shapes.{HasAsked, others_of, still_asked}
use Rattle.ncp_monitor.proofs.LinkOrder.{Sockets, about}
use Rattle.ncp_proof_monitor_allocation.proofs.KeptEnds.{kept, number_if}
use Rattle.ncp_proof_monitor_allocation.proofs.OwnMoves.{all_says}
use Rattle.ncp_proof_monitor_allocation.proofs.Changed.{pair_at, kept_of}
use Rattle.ncp_proof_monitor_allocation.proofs.SeenTables.{seen_of, suspended_of}
use Rattle.ncp_proof_monitor_allocation.proofs.Meets.{Meets}

-- ---- the ERR fits

pub same_as_itself : (xs : List ℕ) → same_bytes xs xs ≡ true
same_as_itself [] = refl
same_as_itself (x ∷ xs) = ap (λ (b : Bool). b && same_bytes xs xs) (eq-eqb x x refl) ∙ same_as_itself xs

pub error_fits : (code or : ℕ) (c : Command) → says_wanted (error_wanted code or c) (error_of code c) ≡ true
error_fits code or c = ap (λ (b : Bool). (b || code == or) && same_bytes (error_data c) (error_data c)) (eq-eqb code code refl) ∙ same_as_itself (error_data c)

-- by the second of two codes
pub other_error_fits : (code or : ℕ) (c : Command) → says_wanted (error_wanted code or c) (error_of or c) ≡ true
other_error_fits code or c = ap (λ (b : Bool). (or == code || b) && same_bytes (error_data c) (error_data c)) (eq-eqb or or refl) ∙ ap (λ (b : Bool). b && same_bytes (error_data c) (error_data c)) (or_true (or == code)) ∙ same_as_itself (error_data c)
  where
    or_true : (b : Bool) → (b || true) ≡ true
    or_true true = refl
    or_true false = refl

-- ---- the sexes are the same

pub receives_same : (socket : ℕ) → is_receive socket ≡ not (is_senders socket)
receives_same socket = grind arith

pub sexes_same : (receive send : ℕ) → is_of_sexes receive send ≡ sends (record { local = send; remote = receive })
sexes_same receive send = ap (λ (b : Bool). b && is_senders send) (sym (receives_same receive)) ∙ counterpart (is_receive receive) (is_senders send)
  where
    counterpart : (x y : Bool) → (x && y) ≡ (y && x)
    counterpart true true = refl
    counterpart true false = refl
    counterpart false true = refl
    counterpart false false = refl

-- ---- any of these is enough for the host

pub wrong_sexes : (pair : Pair) (on : ℕ) (taken : Bool) (before : Option Endpoint) → sends pair ≡ false → wrong_rts pair on taken before ≡ true
wrong_sexes pair on taken before s = ap (λ (b : Bool). not b || not (is_data_link on) || (or_new before).heard || taken) s

pub wrong_link : (pair : Pair) (on : ℕ) (taken : Bool) (before : Option Endpoint) → is_data_link on ≡ false → wrong_rts pair on taken before ≡ true
wrong_link pair on taken before s = go (sends pair) (is_data_link on) s
  where
    go : (x y : Bool) → y ≡ false → (not x || not y || (or_new before).heard || taken) ≡ true
    go true true e = absurd (cc e)
    go true false e = refl
    go false y e = refl

pub wrong_heard : (pair : Pair) (on : ℕ) (taken : Bool) (before : Option Endpoint) → (or_new before).heard ≡ true → wrong_rts pair on taken before ≡ true
wrong_heard pair on taken before s = go (sends pair) (is_data_link on) (or_new before).heard s
  where
    go : (x y h : Bool) → h ≡ true → (not x || not y || h || taken) ≡ true
    go true true true e = refl
    go true true false e = absurd (cc e)
    go true false h e = refl
    go false y h e = refl

pub wrong_taken : (pair : Pair) (on : ℕ) (taken : Bool) (before : Option Endpoint) → taken ≡ true → wrong_rts pair on taken before ≡ true
wrong_taken pair on taken before s = go (sends pair) (is_data_link on) (or_new before).heard taken s
  where
    go : (x y h t : Bool) → t ≡ true → (not x || not y || h || t) ≡ true
    go true true true t e = refl
    go true true false true e = refl
    go true true false false e = absurd (cc e)
    go true false h t e = refl
    go false y h t e = refl

-- ---- a second request: the end has heard the first

pub heard_before : (me n number : ℕ) (m : Ends) (w : List Command) (b : SeenTables) (p : Sockets) → suspended_of me n b p ≡ false → HasAsked number (seen_of me n b p) → Meets me n m w b → (or_new (get m (pair_at p))).heard ≡ true
heard_before me n number m w b p r h meets = go (get m (pair_at p)) (still_asked (about p (all_says w)) (kept_of m p) (seen_of me n b p) number h (meets.tally.pairs p r)).asked
  where
    go : (o : Option Endpoint) → others_of (kept (sends (pair_at p)) o) ≡ Some number → (or_new o).heard ≡ true
    go None e = absurd (cc e)
    go (Some x) e = by x.heard e
      where
        by : (y : Bool) → number_if y (if sends (pair_at p) then x.link else x.size) ≡ Some number → y ≡ true
        by true e = refl
        by false e = absurd (cc e)
