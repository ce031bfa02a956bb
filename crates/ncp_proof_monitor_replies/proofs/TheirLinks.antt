-- What the other says of a link: what is counted of each connection, and the replies that are due, stay what the host has, and
-- what waits.
use Rattle.std.proofs.Common.{◌≡◌, ℕ, ◌==◌, Bool, true, false, not, ◌&&◌, if◌then◌else◌, List, [], ◌∷◌, ◌++◌, Option, Some, refl, sym, ap, ◌∙◌, subst}
use Rattle.std.specs.FinMap.{get}
use Rattle.std.specs.List.{filter}
use Rattle.std.proofs.lemmas.Bool.{and_parts}
use Rattle.ncp_wire.specs.declared.command.Command.{Command}
use Rattle.ncp_wire.specs.declared.command.Command.TheVariants.{All, Gvb, Ret, Inr, Ins}
use Rattle.ncp_wire.specs.Spelling.{error_data, error_of}
use Rattle.ncp_model.specs.declared.pair.Pair.{Pair}
use Rattle.ncp_model.specs.Pairs.{sends, is_receive, is_send}
use Rattle.ncp_model.specs.Endpoint.{Endpoint, is_closing}
use Rattle.ncp_model.specs.Ends.{Ends, sender_on, receiver_on}
use Rattle.ncp_model.specs.Demux.{passes}
use Rattle.ncp_proof_endpoint.specs.Sound.{SoundAt}
use Rattle.ncp_proof_machine.proofs.EndsGood.{EndsInvariant}
use Rattle.ncp_monitor.specs.declared.conn_state.FactKind.{FactKind}
use Rattle.ncp_monitor.specs.ConnStates.{SeenTables, is_marked}
use Rattle.ncp_interface.specs.Sockets.{is_senders}
use Rattle.ncp_monitor.specs.Replies.{error_wanted}
use Rattle.ncp_monitor.specs.Allocation.{other_code, owes_error}
use Rattle.ncp_monitor.proofs.LinkOrder.{Sockets}
use Rattle.ncp_proof_monitor_allocation.proofs.OwnMoves.{sockets_of, no_sender}
use Rattle.ncp_proof_monitor_allocation.proofs.Changed.{OneEnd}
use Rattle.ncp_proof_monitor_allocation.proofs.SeenTables.{conn_seen}
use Rattle.ncp_proof_monitor_allocation.proofs.Refusals.{receives_same}
use Rattle.ncp_proof_monitor_allocation.proofs.Plain.{Plain}
use Rattle.ncp_proof_monitor_allocation.proofs.TextErrors.{is_text_error, shows_command, AllAdmitted}
use Rattle.ncp_proof_monitor_allocation.proofs.Counted.{is_worded, Counted, PairsAgree}
use Rattle.ncp_proof_monitor_replies.specs.Owed.{Gives}
use Rattle.ncp_proof_monitor_replies.proofs.OwedItems.{sent_suspended, is_open_sender, OwedBy}
use Rattle.ncp_proof_monitor_replies.proofs.OwedSteps.{owed_moves, owed_more, made_reply, unmade_reply}
use Rattle.ncp_proof_monitor_allocation.proofs.LinksReach.{led_sender, led_receiver}
use Rattle.ncp_proof_monitor_allocation.proofs.LinksDid.{SameFacts, ends_after, made_of, Quiet, Silent, Erred, is_gvb, Did, Stayed, Changed, Gave}
use Rattle.ncp_proof_monitor_allocation.proofs.LinksCome.{Wider, counted_still, rested_silent, rested_returns}

-- ---- an ERR about a command that names a link is none about a text

abbrev pub names_link : Command → Bool
names_link (All link messages bits) = true
names_link (Gvb link messages bits) = true
names_link (Ret link messages bits) = true
names_link (Inr link) = true
names_link (Ins link) = true
names_link c = false

shown : (c : Command) → names_link c ≡ true → shows_command (error_data c) ≡ true
shown (All link messages bits) k = refl
shown (Gvb link messages bits) k = refl
shown (Ret link messages bits) k = refl
shown (Inr link) k = refl
shown (Ins link) k = refl
shown c k = absurd (cc k)

pub about_command : (code : ℕ) (c : Command) → names_link c ≡ true → is_text_error (error_of code c) ≡ false
about_command code c k = ap (λ (x : Bool). code == 5 && not x) (shown c k) ∙ none (code == 5)
  where
    none : (x : Bool) → (x && false) ≡ false
    none true = refl
    none false = refl

pub nil : {A : Type 0} (xs : List A) → xs ++ [] ≡ xs
nil [] = refl
nil (x ∷ xs) = ap (λ (y : List _). x ∷ y) (nil xs)

pub quiet_unworded : (c : Command) (made : List Command) → Quiet c made → filter is_worded made ≡ []
quiet_unworded c made (Silent e) = ap (filter is_worded) e
quiet_unworded c made (Erred code fits e) = ap (filter is_worded) e

pub quiet_admits : (me n : ℕ) (c : Command) (made : List Command) (b : SeenTables) → names_link c ≡ true → Quiet c made → AllAdmitted me n made b
quiet_admits me n c made b k (Silent e) = subst (λ (x : List Command). AllAdmitted me n x b) (sym e) tt
quiet_admits me n c made b k (Erred code fits e) = subst (λ (x : List Command). AllAdmitted me n x b) (sym e) ((λ t. absurd (cc (sym t ∙ about_command code c k))), tt)

-- ---- an open sender is one that was open before

open_before : (p : Pair) (e then_end : Endpoint) (link : ℕ) → SameFacts e then_end → is_open_sender link (p, then_end) ≡ true → is_open_sender link (p, e) ≡ true
open_before p e then_end link known_facts k =
    sym (ap (λ (x : Bool). sends p && x && (then_end.link == link) && not (is_closing then_end)) known_facts.heard
    ∙ ap (λ (x : ℕ). sends p && e.heard && (x == link) && not (is_closing then_end)) known_facts.its_link
    ∙ ap (λ (x : Bool). sends p && e.heard && (e.link == link) && not x) known_facts.going)
    ∙ k

module _ (me n : ℕ) (m : Ends) (on : ℕ) (c : Command) (o : Option (Pair × Endpoint)) (there : (p : Pair × Endpoint) → o ≡ Some p → get m p.0 ≡ Some p.1) (d : Did m c on o) where
  moved_owed : (p : Pair × Endpoint) → o ≡ Some p → (then_end : Endpoint) → SameFacts p.1 then_end → OneEnd m (ends_after m c) p.0 (Some then_end) → (w : List Command) (b : SeenTables) → OwedBy me n m w b → OwedBy me n (ends_after m c) w b
  moved_owed p f then_end known_facts one w b owed =
      owed_moves me n m (ends_after m c) p.0 (Some then_end) w b one (λ link r k. ap (passes (is_open_sender link) p.0) (there p f) ∙ open_before p.0 p.1 then_end link known_facts k) owed

  -- after any effect, the pending replies are still the queued ones
  pub did_moves : (w : List Command) (b : SeenTables) → OwedBy me n m w b → OwedBy me n (ends_after m c) w b
  did_moves w b owed = go d
    where
      go : Did m c on o → OwedBy me n (ends_after m c) w b
      go (Stayed k q) = subst (λ (x : Ends). OwedBy me n x w b) (sym k) owed
      go (Changed p f then_end known_facts one made) = moved_owed p f then_end known_facts one w b owed
      go (Gave gvb p f g s then_end known_facts one x y made) = moved_owed p f then_end known_facts one w b owed

  -- ---- an ERR is admitted, that the host makes or not

  pub unsure_owed : (w : List Command) (b : SeenTables) → names_link c ≡ true → (owes_error (record { at = me; peer = n; sent = false }) c false b).full ≡ false → ((x y : ℕ) → made_of m c ≡ Ret on x y ∷ [] → sent_suspended me n b on ≡ true) → OwedBy me n m w b
      → OwedBy me n (ends_after m c) (w ++ made_of m c) (owes_error (record { at = me; peer = n; sent = false }) c false b)
  unsure_owed w b k room suspended owed = go d
    where
      after : SeenTables
      after = owes_error (record { at = me; peer = n; sent = false }) c false b

      now : Ends
      now = ends_after m c

      moved : OwedBy me n now w b
      moved = did_moves w b owed

      none_made : made_of m c ≡ [] → OwedBy me n now (w ++ made_of m c) after
      none_made e =
          subst (λ (x : List Command). OwedBy me n now x after) (sym (ap (λ (x : List Command). w ++ x) e ∙ nil w))
          (unmade_reply me n now w b (error_wanted 5 (other_code c) c) room refl moved)

      go : Did m c on o → OwedBy me n now (w ++ made_of m c) after
      go (Stayed e (Silent q)) = none_made q
      go (Stayed e (Erred code fits q)) =
          subst (λ (x : List Command). OwedBy me n now (w ++ x) after) (sym q)
          (made_reply me n now w b (error_wanted 5 (other_code c) c) false (error_of code c) room refl fits (ap (λ (x : Bool). if x then [] else Gives (error_of code c) ∷ []) (about_command code c k)) moved)
      go (Changed p f then_end known_facts one made) = none_made made
      go (Gave gvb p f g s then_end known_facts one x y made) =
          subst (λ (z : List Command). OwedBy me n now (w ++ z) after) (sym made)
          (unmade_reply me n now (w ++ Ret on x y ∷ []) b (error_wanted 5 (other_code c) c) room refl
          (owed_more me n now w (Ret on x y ∷ []) b (ap (λ (z : Bool). (if z then [] else Gives (Ret on x y) ∷ []) ++ []) (suspended x y made)) moved))

-- ---- the link is suspended: the counts

module _ (me n : ℕ) (m : Ends) (good : EndsInvariant m) (w : List Command) (b after : SeenTables) (pairs : PairsAgree me n m w b) (c : Counted me n m w b) (on : ℕ) (conns : (u : Sockets) → conn_seen me n after u ≡ conn_seen me n b u) (wider : Wider me n b after) (plain : Plain me n after) (said : Command) (named : names_link said ≡ true) where
  pub still : ends_after m said ≡ m → Quiet said (made_of m said) → Counted me n (ends_after m said) (w ++ made_of m said) after
  still k q = counted_still me n m (ends_after m said) w (made_of m said) b after k (quiet_unworded said (made_of m said) q) conns wider plain (quiet_admits me n said (made_of m said) after named q) c

  as_made : (cs : List Command) → made_of m said ≡ cs → Counted me n (ends_after m said) (w ++ cs) after → Counted me n (ends_after m said) (w ++ made_of m said) after
  as_made cs e k = subst (λ (x : List Command). Counted me n (ends_after m said) (w ++ x) after) (sym e) k

  -- on which the host sends
  pub sender_suspended : is_marked me n (FactKind.LinkSuspended false on) after ≡ true → Did m said on (sender_on on m) → Counted me n (ends_after m said) (w ++ made_of m said) after
  sender_suspended marked (Stayed k q) = still k q
  sender_suspended marked (Changed p f then_end known_facts one made) =
      let l = led_sender m on p.0 p.1 f in
      let sex : is_senders p.0.local ≡ true = (and_parts (is_senders p.0.local) (is_receive p.0.remote) l.sex).0 in
      as_made [] made
      (rested_silent me n m w b after pairs c true on (sockets_of p.0) p.1 then_end sex l.sex l.there l.marked l.its_link known_facts (ap (λ (x : Bool). is_marked me n (FactKind.LinkSuspended (not x) on) after) sex ∙ marked) conns wider
      (ends_after m said) [] one refl plain tt)
  sender_suspended marked (Gave gvb p f g o then_end known_facts one x y made) =
      let l = led_sender m on p.0 p.1 f in
      let sex : is_senders p.0.local ≡ true = (and_parts (is_senders p.0.local) (is_receive p.0.remote) l.sex).0 in
      let asked : p.1.asked ≡ true = (subst (SoundAt p.0) l.there (good.sound p.0)).asked o in
      as_made (Ret on x y ∷ []) made
      (rested_returns me n m w b after pairs c on (sockets_of p.0) p.1 then_end sex l.sex l.there l.marked l.its_link known_facts (ap (λ (x : Bool). is_marked me n (FactKind.LinkSuspended (not x) on) after) sex ∙ marked) conns wider
      (ends_after m said) x y g asked one plain ((λ t. absurd (cc t)), tt))

  -- on which it receives
  pub receiver_suspended : is_marked me n (FactKind.LinkSuspended true on) after ≡ true → is_gvb said ≡ false → Did m said on (receiver_on on m) → Counted me n (ends_after m said) (w ++ made_of m said) after
  receiver_suspended marked other (Stayed k q) = still k q
  receiver_suspended marked other (Changed p f then_end known_facts one made) =
      let l = led_receiver m on p.0 p.1 f in
      let sex : is_senders p.0.local ≡ false = unnot (is_senders p.0.local) (sym (receives_same p.0.local) ∙ (and_parts (is_receive p.0.local) (is_send p.0.remote) l.sex).0) in
      as_made [] made
      (rested_silent me n m w b after pairs c false on (sockets_of p.0) p.1 then_end sex (no_sender p.0 l.sex) l.there l.marked l.its_link known_facts (ap (λ (x : Bool). is_marked me n (FactKind.LinkSuspended (not x) on) after) sex ∙ marked) conns wider
      (ends_after m said) [] one refl plain tt)
    where
      unnot : (x : Bool) → not x ≡ true → x ≡ false
      unnot true e = absurd (cc e)
      unnot false e = refl
  receiver_suspended marked other (Gave gvb p f g o then_end known_facts one x y made) = absurd (cc (sym gvb ∙ other))
