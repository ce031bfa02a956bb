-- The commands of a sent control message break no rule, by the commands that were queued at the host
-- before.
use Rattle.std.proofs.Common.{◌≡◌, ℕ, suc, ◌+◌, ◌-◌, ◌*◌, ◌≤◌, ◌<◌, Bool, true, false, not, ◌&&◌, ◌||◌, nat_le, if◌then◌else◌, List, [], ◌∷◌, ◌++◌, length, drop, All, Option, None, Ok, option_to_list, refl, ap, ◌∙◌, arith}
use Rattle.std.proofs.lemmas.List.{length-append}
use Rattle.ncp_numbers.specs.Bytes.{bits_of_bytes}
use Rattle.ncp_numbers.proofs.Bytes.{length-bits_of_bytes}
use Rattle.ncp_wire.specs.declared.command.Command.{Command}
use Rattle.ncp_wire.specs.Spelling.{IsCommand, spelling, spellings}
use Rattle.ncp_control.specs.Texts.{items_of}
use Rattle.ncp_control.proofs.Reading.{spelling_short}
use Rattle.ncp_model.specs.declared.limits.TheConstants.{MAX_CONTROL}
use Rattle.ncp_model.specs.Phase.{Phase, up, is_rst, is_rrp, is_other}
use Rattle.ncp_model.specs.Sending.{fitting, next_commands}
use Rattle.ncp_model.proofs.ResetLists.{rrps, rrps-append}
use Rattle.ncp_monitor.specs.declared.finding.Finding.{Finding}
use Rattle.ncp_monitor.specs.declared.finding.ItemKind.{ItemKind}
use Rattle.ncp_monitor.specs.declared.view.View.{View}
use Rattle.ncp_monitor.specs.Phases.{is_text, early_finding, after_thing, item_findings, after_item, items_findings, after_items, missing_finding}
use Rattle.ncp_monitor.specs.Judged.{shows_all}
use Rattle.ncp_proof_monitor.proofs.Phased.{Phased, Settled, Sees, rst_goes, rst_keeps_rest, rrp_goes, rrp_keeps_rest, other_goes}

-- what one command shows, where it is the first of those that wait
pub record Went (me : ℕ) (busy : Option ℕ) (zero : Bool) (c : Command) (u : List Command) (p : Phase) (q : Bool) (v : View) : Type 0 where
  pub none : item_findings (record { by = me; sent = true; busy = busy; zero = zero }) (Ok c) v ≡ []
  pub phased : Phased (record p { waiting = u }) q (after_item (record { by = me; sent = true; busy = busy; zero = zero }) (Ok c) v)
  pub suspended : up p ≡ true → (after_item (record { by = me; sent = true; busy = busy; zero = zero }) (Ok c) v).suspended ≡ false → v.suspended ≡ false
  -- while an RRP goes on waiting, the host acts on no less
  pub acted : up p ≡ true → (after_item (record { by = me; sent = true; busy = busy; zero = zero }) (Ok c) v).suspended ≡ false → (after_item (record { by = me; sent = true; busy = busy; zero = zero }) (Ok c) v).acted ≡ false → 0 < rrps u → v.acted ≡ false

-- what another command shows
record Other (me : ℕ) (busy : Option ℕ) (zero : Bool) (what : ItemKind) (u : List Command) (p : Phase) (q : Bool) (v : View) : Type 0 where
  none : option_to_list (early_finding (record { by = me; sent = true; busy = busy; zero = zero }) what v) ≡ []
  phased : Phased (record p { waiting = u }) q (after_thing (record { by = me; sent = true; busy = busy; zero = zero }) what v)
  suspended : up p ≡ true → (after_thing (record { by = me; sent = true; busy = busy; zero = zero }) what v).suspended ≡ false → v.suspended ≡ false
  acted : (after_thing (record { by = me; sent = true; busy = busy; zero = zero }) what v).acted ≡ false → v.acted ≡ false

pub suspended_more : (r b : Bool) → (r || b) ≡ false → r ≡ false
suspended_more true b e = absurd (cc)
suspended_more false b e = refl

other : (me : ℕ) (busy : Option ℕ) (zero : Bool) (what : ItemKind) (c : Command) (u : List Command) (p : Phase) (q : Bool) (v : View) → is_other c ≡ true → is_rst c ≡ false → is_rrp c ≡ false → is_text what ≡ false → Phased (record p { waiting = c ∷ u }) q v → Other me busy zero what u p q v
other me busy zero what c u p q v o r s t k =
    let w = other_goes me busy zero what c u p q v o r s t k in
    record { none = ap option_to_list w.0; phased = w.1; suspended = λ e x. suspended_more v.suspended _ x; acted = λ a. suspended_more v.acted _ a }

-- one RRP waits at most
only_one : (n : ℕ) → 1 + n ≤ 1 → 0 < n → ⊥
only_one n l r = omega (arith, l, r)

went : (me : ℕ) (busy : Option ℕ) (zero : Bool) (c : Command) (u : List Command) (p : Phase) (q : Bool) (v : View) → Sees q busy → Settled p q → Phased (record p { waiting = c ∷ u }) q v → Went me busy zero c u p q v
went me busy zero Command.Rst u p q v b s k =
    let w = rst_goes me busy zero u p q v b s k in
    record { none = w.0; phased = w.1; suspended = λ e x. absurd (rst_keeps_rest me busy zero u p q v k e x); acted = λ e x a r. absurd (rst_keeps_rest me busy zero u p q v k e x) }
went me busy zero Command.Rrp u p q v b s k =
    let w = rrp_goes me busy zero u p q v b s k in
    record { none = w.0; phased = w.1; suspended = λ e x. rrp_keeps_rest me busy zero v k.told x; acted = λ e x a r. absurd (only_one (rrps u) k.one_rrp r) }
went me busy zero Command.Nop u p q v b s k = let w = other me busy zero ItemKind.Nop Command.Nop u p q v refl refl refl refl k in record { none = w.none; phased = w.phased; suspended = w.suspended; acted = λ e x a r. w.acted a }
went me busy zero (Command.Rts x y z) u p q v b s k = let w = other me busy zero ItemKind.Rts (Command.Rts x y z) u p q v refl refl refl refl k in record { none = w.none; phased = w.phased; suspended = w.suspended; acted = λ e x a r. w.acted a }
went me busy zero (Command.Str x y z) u p q v b s k = let w = other me busy zero ItemKind.Str (Command.Str x y z) u p q v refl refl refl refl k in record { none = w.none; phased = w.phased; suspended = w.suspended; acted = λ e x a r. w.acted a }
went me busy zero (Command.Cls x y) u p q v b s k = let w = other me busy zero ItemKind.Cls (Command.Cls x y) u p q v refl refl refl refl k in record { none = w.none; phased = w.phased; suspended = w.suspended; acted = λ e x a r. w.acted a }
went me busy zero (Command.All x y z) u p q v b s k = let w = other me busy zero ItemKind.All (Command.All x y z) u p q v refl refl refl refl k in record { none = w.none; phased = w.phased; suspended = w.suspended; acted = λ e x a r. w.acted a }
went me busy zero (Command.Gvb x y z) u p q v b s k = let w = other me busy zero ItemKind.Gvb (Command.Gvb x y z) u p q v refl refl refl refl k in record { none = w.none; phased = w.phased; suspended = w.suspended; acted = λ e x a r. w.acted a }
went me busy zero (Command.Ret x y z) u p q v b s k = let w = other me busy zero ItemKind.Ret (Command.Ret x y z) u p q v refl refl refl refl k in record { none = w.none; phased = w.phased; suspended = w.suspended; acted = λ e x a r. w.acted a }
went me busy zero (Command.Inr x) u p q v b s k = let w = other me busy zero ItemKind.Inr (Command.Inr x) u p q v refl refl refl refl k in record { none = w.none; phased = w.phased; suspended = w.suspended; acted = λ e x a r. w.acted a }
went me busy zero (Command.Ins x) u p q v b s k = let w = other me busy zero ItemKind.Ins (Command.Ins x) u p q v refl refl refl refl k in record { none = w.none; phased = w.phased; suspended = w.suspended; acted = λ e x a r. w.acted a }
went me busy zero (Command.Eco x) u p q v b s k = let w = other me busy zero ItemKind.Eco (Command.Eco x) u p q v refl refl refl refl k in record { none = w.none; phased = w.phased; suspended = w.suspended; acted = λ e x a r. w.acted a }
went me busy zero (Command.Erp x) u p q v b s k = let w = other me busy zero ItemKind.Erp (Command.Erp x) u p q v refl refl refl refl k in record { none = w.none; phased = w.phased; suspended = w.suspended; acted = λ e x a r. w.acted a }
went me busy zero (Command.Err x y) u p q v b s k = let w = other me busy zero ItemKind.Err (Command.Err x y) u p q v refl refl refl refl k in record { none = w.none; phased = w.phased; suspended = w.suspended; acted = λ e x a r. w.acted a }

-- all commands of a message, before those that go on waiting
pub record AllWent (me : ℕ) (busy : Option ℕ) (zero : Bool) (cs rest : List Command) (p : Phase) (q : Bool) (v : View) : Type 0 where
  pub none : items_findings (record { by = me; sent = true; busy = busy; zero = zero }) (items_of cs None) v ≡ []
  pub phased : Phased (record p { waiting = rest }) q (after_items (record { by = me; sent = true; busy = busy; zero = zero }) (items_of cs None) v)
  pub suspended : up p ≡ true → (after_items (record { by = me; sent = true; busy = busy; zero = zero }) (items_of cs None) v).suspended ≡ false → v.suspended ≡ false
  pub acted : up p ≡ true → (after_items (record { by = me; sent = true; busy = busy; zero = zero }) (items_of cs None) v).suspended ≡ false → (after_items (record { by = me; sent = true; busy = busy; zero = zero }) (items_of cs None) v).acted ≡ false → 0 < rrps rest → v.acted ≡ false

more_wait : (cs rest : List Command) → 0 < rrps rest → 0 < rrps (cs ++ rest)
more_wait cs rest r = let e = rrps-append cs rest in omega (arith, e, r)

pub all_went : (me : ℕ) (busy : Option ℕ) (zero : Bool) (cs rest : List Command) (p : Phase) (q : Bool) (v : View) → Sees q busy → Settled p q → Phased (record p { waiting = cs ++ rest }) q v → AllWent me busy zero cs rest p q v
all_went me busy zero [] rest p q v b s k = record { none = refl; phased = k; suspended = λ e x. x; acted = λ e x a r. a }
all_went me busy zero (c ∷ cs) rest p q v b s k =
    let one = went me busy zero c (cs ++ rest) p q v b s k in
    let w : View = after_item (record { by = me; sent = true; busy = busy; zero = zero }) (Ok c) v in
    let more = all_went me busy zero cs rest p q w b s one.phased in
    record {
      none = ap (λ (xs : List Finding). xs ++ items_findings (record { by = me; sent = true; busy = busy; zero = zero }) (items_of cs None) w) one.none ∙ more.none;
      phased = more.phased;
      suspended = λ e x. one.suspended e (more.suspended e x);
      acted = λ e x a r. one.acted e (more.suspended e x) (more.acted e x a r) (more_wait cs rest r);
    }

-- ---- nothing is left out

-- where there was room for one more command, none was left
pub none_left : (room : ℕ) (cs : List Command) → All IsCommand cs → length (spellings (fitting room cs)) + 12 ≤ room → drop (length (fitting room cs)) cs ≡ []
none_left room [] k l = refl
none_left room (c ∷ cs) k l = go (nat_le (length (spelling c)) room) refl l (none_left (room - length (spelling c)) cs (λ i d m. k (suc i) d (omega (arith, m))))
  where
    go : (b : Bool) → nat_le (length (spelling c)) room ≡ b → length (spellings (if b then c ∷ fitting (room - length (spelling c)) cs else [])) + 12 ≤ room
        → (length (spellings (fitting (room - length (spelling c)) cs)) + 12 ≤ room - length (spelling c) → drop (length (fitting (room - length (spelling c)) cs)) cs ≡ [])
        → drop (length (if b then c ∷ fitting (room - length (spelling c)) cs else [])) (c ∷ cs) ≡ []
    go true e l rest = let a = length-append (spelling c) (spellings (fitting (room - length (spelling c)) cs)) in rest (omega (arith, a, l))
    go false e l rest = absurd (let short = spelling_short c (k 0 c (omega arith)) in grind arith)

first : (a b : Bool) → (a && b) ≡ true → a ≡ true
first true b e = refl
first false b e = absurd (cc e)

pub roomy_left : (cs : List Command) (v : View) → All IsCommand cs → shows_all (bits_of_bytes (spellings (next_commands cs))) v ≡ true → drop (length (next_commands cs)) cs ≡ []
roomy_left cs v k r =
    let room : nat_le (length (bits_of_bytes (spellings (next_commands cs)))) 864 ≡ true = first (nat_le (length (bits_of_bytes (spellings (next_commands cs)))) 864) (not v.acted) r in
    let bits : length (bits_of_bytes (spellings (next_commands cs))) ≡ 8 * length (spellings (next_commands cs)) = length-bits_of_bytes (spellings (next_commands cs)) in
    none_left MAX_CONTROL cs k (grind arith)

-- a reply that is owed while no data link is busy was made, and was sent
pub none_missing : (me : ℕ) (busy : Option ℕ) (zero room : Bool) (rest : List Command) (p : Phase) (q : Bool) (v : View) → Sees q busy → Settled p q → Phased (record p { waiting = rest }) q v → (room ≡ true → rest ≡ [])
    → missing_finding (record { by = me; sent = true; busy = busy; zero = zero }) room v ≡ None
none_missing me busy zero false rest p q v b s k e = refl
none_missing me busy zero true rest p true v b s k e = let none = e refl in let o = k.owes in let f = s.owes refl in grind arith
none_missing me busy zero true rest p false v b s k e = let some = b.some refl in grind arith
