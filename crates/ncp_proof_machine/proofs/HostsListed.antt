-- Meant for other crates too: they cite what is public here.
--
-- Two hosts whose ends and histories are plain lists, in the order of their pairs: what they do can
-- be computed, and it is what the hosts do.
use Rattle.std.proofs.Common.{◌≡◌, ℕ, Bool, true, false, cond, not, ◌||◌, nat_lt, if◌then◌else◌, List, [], ◌∷◌, ◌++◌, length, Option, None, Some, refl, sym, ap, ◌∙◌, arith}
use Rattle.std.specs.List.{count_by}
use Rattle.std.specs.declared.cmp.Ordering.TheVariants.{Equal}
use Rattle.std.specs.Ordering.{eq_by_cmp}
use Rattle.std.proofs.lemmas.Cmp.{eq_by_cmp_equiv}
use Rattle.std.specs.FinMap.{FinMap, empty, entries, entries_sorted, get, get-entries, get-remove, insert, entries-insert, remove, len-empty, len-entries}
use Rattle.std.specs.FinMap.Entries.{find, where_key, find-where_key, is_sorted-where_key, same_entries}
use Rattle.std.specs.FinMap.Entries
use Rattle.ncp_wire.specs.declared.command.Command.{Command}
use Rattle.ncp_wire.specs.declared.command.Command.TheVariants.{Rts, Str, Cls, All, Gvb, Ret, Inr, Ins, Rst, Rrp}
use Rattle.ncp_model.specs.declared.pair.Pair.{Pair}
use Rattle.ncp_model.specs.declared.outcomes.Heard.{Heard}
use Rattle.ncp_model.specs.declared.outcomes.Heard.TheVariants.{Nothing}
use Rattle.ncp_wire.specs.declared.links.TheConstants.{FIRST_LINK, DATA_LINKS}
use Rattle.ncp_model.specs.Pairs.{pair_cmp}
use Rattle.ncp_model.specs.Endpoint.{Endpoint, is_ended}
use Rattle.ncp_model.specs.Effect.{Effect, Stays, Becomes, answer, made_if_any, made_by_hearing, made_by_call}
use Rattle.ncp_model.specs.Texts.{hear_text, made_by_text, Rfnm}
use Rattle.ncp_model.specs.Commands.{hear_rts, hear_str, hear_cls, hear_all, hear_gvb, hear_ret, hear_inr, hear_ins}
use Rattle.ncp_model.specs.Ends.{Ends, has_asked, is_by_peer, hears_link, uses_link, first_by, lowest, end_of, pair_of, demux_command, hear, text_in, cut_at, cut_in, answered_at, answered_in, map_after_at, no_ends, put}
use Rattle.ncp_model.specs.EndpointEvents.{EndpointEvent, Transition, happens, of_hearing, outcome_of_text, is_violation}
use Rattle.ncp_model.specs.Demux.{comes}
use Rattle.ncp_proof_endpoint.specs.Histories.{PairHistory}
use Rattle.ncp_model.specs.Echo.{Echoes, no_echoes, echo_answer, echo_asked, purge_echo}
use Rattle.ncp_model.specs.Phase.{new_phase, is_resetting, Reaction}
use Rattle.ncp_model.specs.Sending.{is_full}
use Rattle.ncp_proof_machine.specs.Delivery.{Slot, Empty, Ready, Travelling, Held, MessageTransit, Free, Accepted, Delivered, Lost, Dead, Link, idle, undelivered, link_answered, woken}
use Rattle.ncp_proof_machine.specs.Resets.{ResetHost, is_up, anew, host_resets, host_settles, host_falls, host_makes_all, host_hears, Party, This, That, ResetStep, ResetWorld, reset_steps}
use Rattle.ncp_proof_machine.specs.Hosts.{TextOut, Pasts, or_no_past, past_of, past_after, pasts_after, pasts_after_at, Node, all_empty, quiet, set_link, node_kept, node_kept_echoes, PairCall, Ask_to_send, Ask_to_receive, Close, Give, Take, Allocate, Call_back, Interrupt, called, node_cleared, happens_at, node_calls, node_echo_called, node_calls_echo, node_calls_reset, is_full_up, echo_replies, echoes_after, node_reaction, node_hears, node_hears_other, node_hears_all, node_takes_text, node_hears_text, node_cuts, node_sends_text, node_frees, text_answered, node_text_comes, control_answered, message_comes, TwoNodes, nodes_swapped, NodeStep, Calls_reset, Calls, Calls_echo, Falls, Sends, Sends_text, Hears, Hears_text, Loses, Loses_text, Dies, Text_dies, Is_answered, Text_is_answered, Wakes, node_steps, NodeEvent, node_at, run_from, run, start}
use Rattle.ncp_model.proofs.PairOrder.{pairs_exact, pairs_total}

abbrev pub Listed : Type 0
Listed = List (Pair × Endpoint)

-- Maps as lists.

no_entries : {X : Type 0} → entries (empty {X = X} {R = pair_cmp}) ≡ []
no_entries {X} = go (entries (empty {X = X} {R = pair_cmp})) (sym (len-entries (empty {X = X} {R = pair_cmp})) ∙ len-empty pair_cmp X)
  where
    go : (es : List (Pair × X)) → length es ≡ 0 → es ≡ []
    go [] e = refl
    go (x ∷ es) e = absurd (omega (arith, e))

abbrev pub without : {X : Type 0} → Pair → List (Pair × X) → List (Pair × X)
without pair es = where_key pair_cmp (λ x. not (eq_by_cmp pair_cmp pair x)) es

apart : {X : Type 0} (b c : Bool) (o : Option X) → b ≡ c → cond (not b) o None ≡ cond c None o
apart true true o e = refl
apart false false o e = refl
apart true false o e = absurd (cc e)
apart false true o e = absurd (cc e)

mirrored : (k q : Pair) → eq_by_cmp pair_cmp k q ≡ eq_by_cmp pair_cmp q k
mirrored k q = (eq_by_cmp_equiv pairs_total).symm k q

pub entries-remove : {X : Type 0} (m : FinMap pair_cmp X) (k : Pair) → entries (remove m k) ≡ without k (entries m)
entries-remove m k =
    let alike : (q x : Pair) → pair_cmp q x ≡ Equal → not (eq_by_cmp pair_cmp k x) ≡ not (eq_by_cmp pair_cmp k q) = λ q x e. ap (λ (y : Pair). not (eq_by_cmp pair_cmp k y)) (sym (pairs_exact q x e)) in
    same_entries pair_cmp pairs_total pairs_exact (entries (remove m k)) (without k (entries m)) (entries_sorted (remove m k)) (is_sorted-where_key pair_cmp (λ x. not (eq_by_cmp pair_cmp k x)) (entries m) (entries_sorted m))
    (λ q. sym (get-entries (remove m k) q) ∙ (get-remove pairs_total m k q ∙ sym (find-where_key pair_cmp (λ x. not (eq_by_cmp pair_cmp k x)) q (alike q) (entries m) ∙ (apart (eq_by_cmp pair_cmp k q) (eq_by_cmp pair_cmp q k) (find pair_cmp q (entries m)) (mirrored k q) ∙ ap (cond (eq_by_cmp pair_cmp q k) None) (sym (get-entries m q))))))

-- What is asked of the ends.

abbrev pub free_listed : Listed → ℕ
free_listed es = lowest (λ on. not (nat_lt 0 (count_by (uses_link on) es))) DATA_LINKS FIRST_LINK

abbrev pub leads_listed : Command → Listed → Option Pair
leads_listed (Rts receive send on) es = Some (record { local = send; remote = receive })
leads_listed (Str send receive of_size) es = Some (record { local = receive; remote = send })
leads_listed (Cls my your) es = Some (record { local = your; remote = my })
leads_listed (All on a b) es = pair_of (first_by (hears_link on) es)
leads_listed (Gvb on a b) es = pair_of (first_by (hears_link on) es)
leads_listed (Ret on a b) es = pair_of (first_by (uses_link on) es)
leads_listed (Inr on) es = pair_of (first_by (hears_link on) es)
leads_listed (Ins on) es = pair_of (first_by (uses_link on) es)
leads_listed c es = None

abbrev pub hear_listed : Command → Listed → Effect Heard
hear_listed (Rts receive send on) es =
    let pair : Pair = record { local = send; remote = receive } in
    hear_rts pair on (nat_lt 0 (count_by (hears_link on) es)) (count_by is_by_peer es) (find pair_cmp pair es)
hear_listed (Str send receive of_size) es =
    let pair : Pair = record { local = receive; remote = send } in
    hear_str pair of_size (count_by is_by_peer es) (find pair_cmp pair es)
hear_listed (Cls my your) es =
    let pair : Pair = record { local = your; remote = my } in
    hear_cls pair (find pair_cmp pair es)
hear_listed (All on a b) es = hear_all on a b (end_of (first_by (hears_link on) es))
hear_listed (Gvb on a b) es = hear_gvb on a b (end_of (first_by (hears_link on) es))
hear_listed (Ret on a b) es = hear_ret on a b (end_of (first_by (uses_link on) es))
hear_listed (Inr on) es = hear_inr on (end_of (first_by (hears_link on) es))
hear_listed (Ins on) es = hear_ins on (end_of (first_by (uses_link on) es))
hear_listed c es = Stays Nothing

abbrev pub comes_listed : Command → Listed → Option EndpointEvent
comes_listed (Rts receive send on) es = Some (EndpointEvent.Rts_comes on (nat_lt 0 (count_by (hears_link on) es)) (count_by is_by_peer es))
comes_listed (Str send receive of_size) es = Some (EndpointEvent.Str_comes of_size (count_by is_by_peer es))
comes_listed (Cls my your) es = Some EndpointEvent.Cls_comes
comes_listed (All on a b) es = Some (EndpointEvent.All_comes on a b)
comes_listed (Gvb on a b) es = Some (EndpointEvent.Gvb_comes on a b)
comes_listed (Ret on a b) es = Some (EndpointEvent.Ret_comes on a b)
comes_listed (Inr on) es = Some (EndpointEvent.Inr_comes on)
comes_listed (Ins on) es = Some (EndpointEvent.Ins_comes on)
comes_listed c es = None

leads-low : (c : Command) (m : Ends) → demux_command c m ≡ leads_listed c (entries m)
leads-low c m = grind arith

comes-low : (c : Command) (m : Ends) → comes c m ≡ comes_listed c (entries m)
comes-low c m = grind arith

hear-low : (c : Command) (m : Ends) → hear c m ≡ hear_listed c (entries m)
hear-low (Rts a b d) m = ap (hear_rts (record { local = b; remote = a }) d (nat_lt 0 (count_by (hears_link d) (entries m))) (count_by is_by_peer (entries m))) (get-entries m (record { local = b; remote = a }))
hear-low (Str a b d) m = ap (hear_str (record { local = b; remote = a }) d (count_by is_by_peer (entries m))) (get-entries m (record { local = b; remote = a }))
hear-low (Cls a b) m = ap (hear_cls (record { local = b; remote = a })) (get-entries m (record { local = b; remote = a }))
hear-low (All a b d) m = refl
hear-low (Gvb a b d) m = refl
hear-low (Ret a b d) m = refl
hear-low (Inr a) m = refl
hear-low (Ins a) m = refl
hear-low c m = refl

-- Changes of the ends.

abbrev pub put_listed : Listed → Pair → Option Endpoint → Listed
put_listed es pair None = without pair es
put_listed es pair (Some e) = Entries.put pair_cmp pair e es

put-low : (m : Ends) (pair : Pair) (after : Option Endpoint) → entries (put m pair after) ≡ put_listed (entries m) pair after
put-low m pair None = entries-remove m pair
put-low m pair (Some e) = entries-insert pairs_total m pair e

abbrev pub after_listed : {A : Type 0} → Listed → Option Pair → Effect A → Listed
after_listed es None act = es
after_listed es (Some pair) (Stays a) = es
after_listed es (Some pair) (Becomes e a) = if is_ended e then without pair es else Entries.put pair_cmp pair e es

either : (b : Bool) (m n : Ends) (es fs : Listed) → entries m ≡ es → entries n ≡ fs → entries (if b then m else n) ≡ (if b then es else fs)
either true m n es fs p q = p
either false m n es fs p q = q

after-low : {A : Type 0} → (m : Ends) (o : Option Pair) (act : Effect A) → entries (map_after_at m o act) ≡ after_listed (entries m) o act
after-low m None act = refl
after-low m (Some pair) (Stays a) = refl
after-low m (Some pair) (Becomes e a) = either (is_ended e) (remove m pair) (insert m pair e) (without pair (entries m)) (Entries.put pair_cmp pair e (entries m)) (entries-remove m pair) (entries-insert pairs_total m pair e)

abbrev pub kept_listed : ResetHost → Listed → Listed
kept_listed h es = if is_up h then es else []

kept-low : (h : ResetHost) (m : Ends) → entries (node_kept h m) ≡ kept_listed h (entries m)
kept-low h m = either (is_up h) m no_ends (entries m) [] refl no_entries

-- Histories.

abbrev pub ListedPasts : Type 0
ListedPasts = List (Pair × PairHistory)

abbrev pub pasts_listed : Pair → EndpointEvent → Listed → ListedPasts → ListedPasts
pasts_listed pair what es ps =
    Entries.put pair_cmp pair (past_after (find pair_cmp pair es) what (happens pair what (find pair_cmp pair es)) (or_no_past (find pair_cmp pair ps))) ps

pasts-low : (pair : Pair) (what : EndpointEvent) (m : Ends) (pasts : Pasts) → entries (pasts_after pair what m pasts) ≡ pasts_listed pair what (entries m) (entries pasts)
pasts-low pair what m pasts =
    entries-insert pairs_total pasts pair (past_after (get m pair) what (happens pair what (get m pair)) (past_of pasts pair))
    ∙ rw (get-entries m pair, get-entries pasts pair) refl

abbrev pub pasts_listed_at : Option Pair → Option EndpointEvent → Listed → ListedPasts → ListedPasts
pasts_listed_at (Some pair) (Some what) es ps = pasts_listed pair what es ps
pasts_listed_at pair what es ps = ps

pasts_at-low : (o : Option Pair) (w : Option EndpointEvent) (m : Ends) (pasts : Pasts) → entries (pasts_after_at o w m pasts) ≡ pasts_listed_at o w (entries m) (entries pasts)
pasts_at-low (Some pair) (Some what) m pasts = pasts-low pair what m pasts
pasts_at-low (Some pair) None m pasts = refl
pasts_at-low None w m pasts = refl

-- A host.

pub record Low : Type 0 where
  pub host : ResetHost
  pub ends : Listed
  pub echoes : Echoes
  pub control : Link (List Command)
  pub texts : ℕ → Link TextOut
  pub pasts : ListedPasts
  pub violated : Bool

abbrev pub low : Node → Low
low n = record { host = n.host; ends = entries n.ends; echoes = n.echoes; control = n.control; texts = n.texts; pasts = entries n.pasts; violated = n.violated }

abbrev pub low_quiet : Low → Bool
low_quiet n = all_empty n.texts DATA_LINKS FIRST_LINK

abbrev pub low_cleared : ResetHost → Low → Low
low_cleared h n = record n { host = h; ends = []; echoes = purge_echo n.echoes }

cleared-low : (h : ResetHost) (n : Node) → low (node_cleared h n) ≡ low_cleared h (low n)
cleared-low h n = rw (no_entries {X = Endpoint}) refl

abbrev pub low_called : PairCall → Bool → Listed → EndpointEvent
low_called (Ask_to_send of_size with_room) full es = EndpointEvent.Asks_to_send of_size with_room (count_by has_asked es) full
low_called (Ask_to_receive with_room) full es = EndpointEvent.Asks_to_receive with_room (free_listed es) (count_by has_asked es) full
low_called Close full es = EndpointEvent.Closes full
low_called (Give text) full es = EndpointEvent.Gives text
low_called (Take bytes) full es = EndpointEvent.Takes bytes
low_called (Allocate a b) full es = EndpointEvent.Allocates a b full
low_called (Call_back a b) full es = EndpointEvent.Calls_back a b full
low_called Interrupt full es = EndpointEvent.Interrupts full

called-low : (call : PairCall) (full : Bool) (m : Ends) → called call full m ≡ low_called call full (entries m)
called-low call full m = grind arith

abbrev pub low_happens : Pair → EndpointEvent → Low → Low
low_happens pair what n =
    let did : Transition = happens pair what (find pair_cmp pair n.ends) in
    let host : ResetHost = host_makes_all did.made n.host in
    record n {
      host = host;
      ends = kept_listed host (put_listed n.ends pair did.after);
      echoes = node_kept_echoes host n.echoes;
      pasts = pasts_listed pair what n.ends n.pasts;
      violated = n.violated || is_violation did.outcome;
    }

happens-low : (pair : Pair) (what : EndpointEvent) (n : Node) → low (happens_at pair what n) ≡ low_happens pair what (low n)
happens-low pair what n =
    rw (kept-low (host_makes_all (happens pair what (get n.ends pair)).made n.host) (put n.ends pair (happens pair what (get n.ends pair)).after), put-low n.ends pair (happens pair what (get n.ends pair)).after, pasts-low pair what n.ends n.pasts, get-entries n.ends pair) refl

if-low : (b : Bool) (n m : Node) (x y : Low) → low n ≡ x → low m ≡ y → low (if b then n else m) ≡ (if b then x else y)
if-low true n m x y p q = p
if-low false n m x y p q = q

abbrev pub low_calls : Pair → PairCall → Low → Low
low_calls pair call n = if is_up n.host then low_happens pair (low_called call (is_full n.host.phase) n.ends) n else n

calls-low : (pair : Pair) (call : PairCall) (n : Node) → low (node_calls pair call n) ≡ low_calls pair call (low n)
calls-low pair call n =
    let what = called call (is_full n.host.phase) n.ends in
    if-low (is_up n.host) (happens_at pair what n) n (low_happens pair (low_called call (is_full n.host.phase) (entries n.ends)) (low n)) (low n)
    (happens-low pair what n ∙ ap (λ w. low_happens pair w (low n)) (called-low call (is_full n.host.phase) n.ends)) refl

abbrev pub low_echo : ℕ → Low → Low
low_echo byte n =
    let host : ResetHost = host_makes_all (made_by_call (echo_answer byte (is_full n.host.phase) n.echoes)) n.host in
    record n { host = host; ends = kept_listed host n.ends; echoes = node_kept_echoes host (echo_asked (is_full n.host.phase) n.echoes) }

abbrev pub low_calls_echo : ℕ → Low → Low
low_calls_echo byte n = if is_up n.host then low_echo byte n else n

echo-low : (byte : ℕ) (n : Node) → low (node_calls_echo byte n) ≡ low_calls_echo byte (low n)
echo-low byte n =
    if-low (is_up n.host) (node_echo_called byte n) n (low_echo byte (low n)) (low n)
    (rw (kept-low (host_makes_all (made_by_call (echo_answer byte (is_full n.host.phase) n.echoes)) n.host) n.ends) refl) refl

abbrev pub low_resets : Low → Low
low_resets n = if is_resetting n.host.phase then n else low_cleared (host_resets (low_quiet n) n.host) n

resets-low : (n : Node) → low (node_calls_reset n) ≡ low_resets (low n)
resets-low n = if-low (is_resetting n.host.phase) n (node_cleared (host_resets (quiet n) n.host) n) (low n) (low_cleared (host_resets (quiet n) n.host) (low n)) refl (cleared-low (host_resets (quiet n) n.host) n)

abbrev pub low_reaction : Command → Low → Reaction
low_reaction c n = record {
  quiet = low_quiet n;
  full = is_full_up (answer (hear_listed c n.ends));
  replies = made_by_hearing (answer (hear_listed c n.ends)) ++ echo_replies c;
}

abbrev pub low_other : Command → Low → Low
low_other c n =
    let host : ResetHost = host_hears c (low_reaction c n) n.host in
    record n {
      host = host;
      ends = kept_listed host (after_listed n.ends (leads_listed c n.ends) (hear_listed c n.ends));
      echoes = node_kept_echoes host (echoes_after c n.echoes);
      pasts = pasts_listed_at (leads_listed c n.ends) (comes_listed c n.ends) n.ends n.pasts;
      violated = n.violated || is_violation (of_hearing (answer (hear_listed c n.ends)));
    }

reaction-low : (c : Command) (n : Node) → node_reaction c n ≡ low_reaction c (low n)
reaction-low c n = rw (hear-low c n.ends) refl

other-low : (c : Command) (n : Node) → low (node_hears_other c n) ≡ low_other c (low n)
other-low c n =
    rw (kept-low (host_hears c (node_reaction c n) n.host) (map_after_at n.ends (demux_command c n.ends) (hear c n.ends)), after-low n.ends (demux_command c n.ends) (hear c n.ends), pasts_at-low (demux_command c n.ends) (comes c n.ends) n.ends n.pasts, leads-low c n.ends, comes-low c n.ends, hear-low c n.ends) refl

abbrev pub low_hears : Command → Low → Low
low_hears Rst n = low_cleared (host_hears Rst (low_reaction Rst n) n.host) n
low_hears Rrp n = record n { host = host_hears Rrp (low_reaction Rrp n) n.host }
low_hears c n = if is_up n.host then low_other c n else n

hears-low : (c : Command) (n : Node) → low (node_hears c n) ≡ low_hears c (low n)
hears-low Rst n = cleared-low (host_hears Rst (node_reaction Rst n) n.host) n
hears-low Rrp n = refl
hears-low c n = if-low (is_up n.host) (node_hears_other c n) n (low_other c (low n)) (low n) (other-low c n) refl

abbrev pub low_hears_all : List Command → Low → Low
low_hears_all [] n = n
low_hears_all (c ∷ cs) n = low_hears_all cs (low_hears c n)

hears_all-low : (cs : List Command) (n : Node) → low (node_hears_all cs n) ≡ low_hears_all cs (low n)
hears_all-low [] n = refl
hears_all-low (c ∷ cs) n = hears_all-low cs (node_hears c n) ∙ ap (low_hears_all cs) (hears-low c n)

abbrev pub low_takes_text : ℕ → List Bool → TextOut → Low → Low
low_takes_text on head t n =
    let took = hear_text t.of_size t.bits (end_of (first_by (uses_link on) n.ends)) in
    let host : ResetHost = host_makes_all (made_by_text head t.bits (answer took)) n.host in
    record n {
      host = host;
      ends = kept_listed host (after_listed n.ends (pair_of (first_by (uses_link on) n.ends)) took);
      echoes = node_kept_echoes host n.echoes;
      pasts = pasts_listed_at (pair_of (first_by (uses_link on) n.ends)) (Some (EndpointEvent.Text_comes head t.of_size t.bits)) n.ends n.pasts;
      violated = n.violated || is_violation (outcome_of_text (answer took));
    }

abbrev pub low_hears_text : ℕ → List Bool → TextOut → Low → Low
low_hears_text on head t n = if is_up n.host then low_takes_text on head t n else n

text-low : (on : ℕ) (head : List Bool) (t : TextOut) (n : Node) → low (node_hears_text on head t n) ≡ low_hears_text on head t (low n)
text-low on head t n =
    let took = text_in on t.of_size t.bits n.ends in
    let o = pair_of (first_by (uses_link on) (entries n.ends)) in
    if-low (is_up n.host) (node_takes_text on head t n) n (low_takes_text on head t (low n)) (low n)
    (rw (kept-low (host_makes_all (made_by_text head t.bits (answer took)) n.host) (map_after_at n.ends o took), after-low n.ends o took, pasts_at-low o (Some (EndpointEvent.Text_comes head t.of_size t.bits)) n.ends n.pasts) refl) refl

abbrev pub low_goes_out : ℕ → TextOut → Low → Low
low_goes_out on t n = record n { texts = set_link on (record { slot = Travelling t; subnet = Accepted t }) n.texts }

abbrev pub low_cuts : ℕ → Option (ℕ × List Bool) → Low → Low
low_cuts on None n = n
low_cuts on (Some text) n =
    let o = first_by (hears_link on) n.ends in
    low_goes_out on (record { of_size = text.0; bits = text.1 }) (record n { ends = after_listed n.ends (pair_of o) (cut_at o) })

cuts-low : (on : ℕ) (o : Option (ℕ × List Bool)) (n : Node) → low (node_cuts on o n) ≡ low_cuts on o (low n)
cuts-low on None n = refl
cuts-low on (Some text) n = rw (after-low n.ends (pair_of (first_by (hears_link on) (entries n.ends))) (cut_in on n.ends)) refl

abbrev pub low_sends_text : ℕ → Slot TextOut → Low → Low
low_sends_text on Empty n = low_cuts on (answer (cut_at (first_by (hears_link on) n.ends))) n
low_sends_text on (Ready t) n = low_goes_out on t n
low_sends_text on (Travelling t) n = n
low_sends_text on (Held t) n = n

sends_text-low : (on : ℕ) (slot : Slot TextOut) (n : Node) → low (node_sends_text on slot n) ≡ low_sends_text on slot (low n)
sends_text-low on Empty n = cuts-low on (answer (cut_in on n.ends)) n
sends_text-low on (Ready t) n = refl
sends_text-low on (Travelling t) n = refl
sends_text-low on (Held t) n = refl

abbrev pub low_settles : Low → Low
low_settles n = record n { host = host_settles (low_quiet n) n.host }

abbrev pub low_frees : ℕ → Low → Low
low_frees on n =
    let o = first_by (hears_link on) n.ends in
    let act = answered_at Rfnm o in
    let host : ResetHost = host_makes_all (made_if_any (answer act)) n.host in
    record n {
      host = host;
      ends = if is_up n.host then kept_listed host (after_listed n.ends (pair_of o) act) else n.ends;
      echoes = if is_up n.host then node_kept_echoes host n.echoes else n.echoes;
      texts = set_link on idle n.texts;
    }

frees-low : (on : ℕ) (n : Node) → low (node_frees on n) ≡ low_frees on (low n)
frees-low on n =
    let act = answered_in on Rfnm n.ends in
    let o = pair_of (first_by (hears_link on) (entries n.ends)) in
    let host : ResetHost = host_makes_all (made_if_any (answer act)) n.host in
    let m : Ends = map_after_at n.ends o act in
    rw (either (is_up n.host) (node_kept host m) n.ends (kept_listed host (after_listed (entries n.ends) o act)) (entries n.ends) (kept-low host m ∙ ap (kept_listed host) (after-low n.ends o act)) refl) refl

abbrev pub low_text_answered : ℕ → Slot TextOut → MessageTransit TextOut → Low → Low
low_text_answered on (Travelling t) Delivered n = low_settles (low_frees on n)
low_text_answered on slot s n = record n { texts = set_link on (link_answered slot s) n.texts }

text_answered-low : (on : ℕ) (slot : Slot TextOut) (s : MessageTransit TextOut) (n : Node) → low (text_answered on slot s n) ≡ low_text_answered on slot s (low n)
text_answered-low on (Travelling t) Delivered n = ap low_settles (frees-low on n)
text_answered-low on slot s n = refl

abbrev pub low_control_answered : Slot (List Command) → MessageTransit (List Command) → Low → Low
low_control_answered (Travelling m) Delivered n = low_settles (record n { control = idle })
low_control_answered slot s n = record n { control = link_answered slot s }

control_answered-low : (slot : Slot (List Command)) (s : MessageTransit (List Command)) (n : Node) → low (control_answered slot s n) ≡ low_control_answered slot s (low n)
control_answered-low (Travelling m) Delivered n = refl
control_answered-low slot s n = refl

-- Two hosts.

pub record LowWorld : Type 0 where
  pub this : Low
  pub that : Low

abbrev pub lowered : TwoNodes → LowWorld
lowered w = record { this = low w.this; that = low w.that }

abbrev pub low_swap : LowWorld → LowWorld
low_swap w = record { this = w.that; that = w.this }

abbrev pub low_base : LowWorld → ResetWorld
low_base w = record { this = w.this.host; that = w.that.host; going = w.this.control; coming = w.that.control }

abbrev pub low_moved : ResetWorld → Low → Low
low_moved b n = record n { host = b.this; control = b.going }

abbrev pub low_undelivered : MessageTransit TextOut → ℕ → Low → Low
low_undelivered as_what on n = record n { texts = set_link on (record (n.texts on) { subnet = undelivered as_what (n.texts on).subnet }) n.texts }

abbrev pub low_text_comes : ℕ → List Bool → MessageTransit TextOut → LowWorld → LowWorld
low_text_comes on head (Accepted t) w = record {
  this = low_hears_text on head t w.this;
  that = record w.that { texts = set_link on (record (w.that.texts on) { subnet = Delivered }) w.that.texts };
}
low_text_comes on head subnet w = w

text_comes-low : (on : ℕ) (head : List Bool) (s : MessageTransit TextOut) (w : TwoNodes) → lowered (node_text_comes on head s w) ≡ low_text_comes on head s (lowered w)
text_comes-low on head (Accepted t) w = rw (text-low on head t w.this) refl
text_comes-low on head Free w = refl
text_comes-low on head Delivered w = refl
text_comes-low on head Lost w = refl
text_comes-low on head Dead w = refl

abbrev pub low_message_comes : MessageTransit (List Command) → LowWorld → LowWorld
low_message_comes (Accepted m) w = record {
  this = low_hears_all m w.this;
  that = record w.that { control = record w.that.control { subnet = Delivered } };
}
low_message_comes subnet w = w

message_comes-low : (s : MessageTransit (List Command)) (w : TwoNodes) → lowered (message_comes s w) ≡ low_message_comes s (lowered w)
message_comes-low (Accepted m) w = rw (hears_all-low m w.this) refl
message_comes-low Free w = refl
message_comes-low Delivered w = refl
message_comes-low Lost w = refl
message_comes-low Dead w = refl

abbrev pub low_steps : NodeStep → LowWorld → LowWorld
low_steps Calls_reset w = record w { this = low_resets w.this }
low_steps (Calls pair call) w = record w { this = low_calls pair call w.this }
low_steps (Calls_echo byte) w = record w { this = low_calls_echo byte w.this }
low_steps Falls w = record w { this = low_cleared (host_falls w.this.host) w.this }
low_steps (Sends n) w = record w { this = low_moved (reset_steps (ResetStep.Sends n) (low_base w)) w.this }
low_steps (Sends_text on) w = record w { this = low_sends_text on (w.this.texts on).slot w.this }
low_steps Hears w = low_message_comes w.that.control.subnet w
low_steps (Hears_text on head) w = low_text_comes on head (w.that.texts on).subnet w
low_steps Loses w = record w { this = low_moved (reset_steps ResetStep.Loses (low_base w)) w.this }
low_steps (Loses_text on) w = record w { this = low_undelivered Lost on w.this }
low_steps Dies w = record w { this = low_moved (reset_steps ResetStep.Dies (low_base w)) w.this }
low_steps (Text_dies on) w = record w { this = low_undelivered Dead on w.this }
low_steps Is_answered w = record w { this = low_control_answered w.this.control.slot w.this.control.subnet w.this }
low_steps (Text_is_answered on) w = record w { this = low_text_answered on (w.this.texts on).slot (w.this.texts on).subnet w.this }
low_steps Wakes w = record w {
  this = record w.this {
    control = record w.this.control { slot = woken w.this.control.slot };
    texts = λ on. record { slot = woken (w.this.texts on).slot; subnet = (w.this.texts on).subnet };
  };
}

abbrev with_this : TwoNodes → Low → LowWorld
with_this w n = record { this = n; that = low w.that }

steps-low : (step : NodeStep) (w : TwoNodes) → lowered (node_steps step w) ≡ low_steps step (lowered w)
steps-low Calls_reset w = ap (with_this w) (resets-low w.this)
steps-low (Calls pair call) w = ap (with_this w) (calls-low pair call w.this)
steps-low (Calls_echo byte) w = ap (with_this w) (echo-low byte w.this)
steps-low Falls w = ap (with_this w) (cleared-low (host_falls w.this.host) w.this)
steps-low (Sends n) w = refl
steps-low (Sends_text on) w = ap (with_this w) (sends_text-low on (w.this.texts on).slot w.this)
steps-low Hears w = message_comes-low w.that.control.subnet w
steps-low (Hears_text on head) w = text_comes-low on head (w.that.texts on).subnet w
steps-low Is_answered w = ap (with_this w) (control_answered-low w.this.control.slot w.this.control.subnet w.this)
steps-low (Text_is_answered on) w = ap (with_this w) (text_answered-low on (w.this.texts on).slot (w.this.texts on).subnet w.this)
steps-low step w = refl

abbrev pub low_at : Party → NodeStep → LowWorld → LowWorld
low_at This step w = low_steps step w
low_at That step w = low_swap (low_steps step (low_swap w))

at-low : (side : Party) (step : NodeStep) (w : TwoNodes) → lowered (node_at side step w) ≡ low_at side step (lowered w)
at-low This step w = steps-low step w
at-low That step w = ap low_swap (steps-low step (nodes_swapped w))

abbrev pub low_run_from : List NodeEvent → LowWorld → LowWorld
low_run_from [] w = w
low_run_from (e ∷ es) w = low_run_from es (low_at e.side e.step w)

run_from-low : (es : List NodeEvent) (w : TwoNodes) → lowered (run_from es w) ≡ low_run_from es (lowered w)
run_from-low [] w = refl
run_from-low (e ∷ es) w = run_from-low es (node_at e.side e.step w) ∙ ap (low_run_from es) (at-low e.side e.step w)

abbrev pub low_new : Low
low_new = record { host = anew new_phase; ends = []; echoes = no_echoes; control = idle; texts = λ _. idle; pasts = []; violated = false }

abbrev pub low_run : List NodeEvent → LowWorld
low_run es = low_run_from es (record { this = low_new; that = low_new })

pub run-low : (es : List NodeEvent) → lowered (run es) ≡ low_run es
run-low es = run_from-low es start ∙ ap (low_run_from es) (rw (no_entries {X = Endpoint}, no_entries {X = PairHistory}) refl)

-- What a run leaves, computed.

pub this-end : (es : List NodeEvent) (pair : Pair) → get (run es).this.ends pair ≡ find pair_cmp pair (low_run es).this.ends
this-end es pair = get-entries (run es).this.ends pair ∙ ap (λ (w : LowWorld). find pair_cmp pair w.this.ends) (run-low es)

pub that-end : (es : List NodeEvent) (pair : Pair) → get (run es).that.ends pair ≡ find pair_cmp pair (low_run es).that.ends
that-end es pair = get-entries (run es).that.ends pair ∙ ap (λ (w : LowWorld). find pair_cmp pair w.that.ends) (run-low es)

pub that-past : (es : List NodeEvent) (pair : Pair) → past_of (run es).that.pasts pair ≡ or_no_past (find pair_cmp pair (low_run es).that.pasts)
that-past es pair = ap or_no_past (get-entries (run es).that.pasts pair ∙ ap (λ (w : LowWorld). find pair_cmp pair w.that.pasts) (run-low es))

pub this-past : (es : List NodeEvent) (pair : Pair) → past_of (run es).this.pasts pair ≡ or_no_past (find pair_cmp pair (low_run es).this.pasts)
this-past es pair = ap or_no_past (get-entries (run es).this.pasts pair ∙ ap (λ (w : LowWorld). find pair_cmp pair w.this.pasts) (run-low es))

pub this-control : (es : List NodeEvent) → (run es).this.control ≡ (low_run es).this.control
this-control es = ap (λ (w : LowWorld). w.this.control) (run-low es)

pub that-control : (es : List NodeEvent) → (run es).that.control ≡ (low_run es).that.control
that-control es = ap (λ (w : LowWorld). w.that.control) (run-low es)

pub this-link : (es : List NodeEvent) (on : ℕ) → (run es).this.texts on ≡ (low_run es).this.texts on
this-link es on = ap (λ (w : LowWorld). w.this.texts on) (run-low es)

pub this-host : (es : List NodeEvent) → (run es).this.host ≡ (low_run es).this.host
this-host es = ap (λ (w : LowWorld). w.this.host) (run-low es)

pub that-host : (es : List NodeEvent) → (run es).that.host ≡ (low_run es).that.host
that-host es = ap (λ (w : LowWorld). w.that.host) (run-low es)

pub right : (es : List NodeEvent) → (run es).that.violated ≡ (low_run es).that.violated
right es = ap (λ (w : LowWorld). w.that.violated) (run-low es)

pub this-echoes : (es : List NodeEvent) → (run es).this.echoes ≡ (low_run es).this.echoes
this-echoes es = ap (λ (w : LowWorld). w.this.echoes) (run-low es)

pub that-echoes : (es : List NodeEvent) → (run es).that.echoes ≡ (low_run es).that.echoes
that-echoes es = ap (λ (w : LowWorld). w.that.echoes) (run-low es)
