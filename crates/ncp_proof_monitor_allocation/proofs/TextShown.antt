-- An ERR about a text contains the leader, the prefix and the first bits of the message as it was
-- received. It is the admitted ERR, and is reported as one about a text.
use Rattle.std.proofs.Common.{◌≡◌, ℕ, true, Bool, List, ◌++◌, take, replicate, false, Ok, refl, sym, ap, ◌∙◌}
use Rattle.ncp_numbers.specs.Numbers.{bits_of}
use Rattle.ncp_numbers.specs.Bytes.{bytes_of}
use Rattle.ncp_leader.specs.declared.regular.TheConstants.{FRONT_BITS}
use Rattle.ncp_leader.specs.Front.{front_bits}
use Rattle.ncp_leader.specs.Message.{Message, Encodes, message_bits, message_in}
use Rattle.ncp_leader.proofs.Messages.{found_law}
use Rattle.ncp_model.specs.Effect.{text_error}
use Rattle.ncp_monitor.specs.Texts.{text_shown}
use Rattle.ncp_proof_monitor_allocation.proofs.TextErrors.{is_text_error, shown_by, text_is_error}

front_taken : (m : Message) (rest : List Bool) → take 72 (message_bits m ++ rest) ≡ front_bits m.leader m.size m.count
unfolding bits_of
front_taken m rest = refl

-- the bits before a message's text are those of its leader, size and count
front_there : (bits : List Bool) (m : Message) → message_in bits ≡ Ok m → take FRONT_BITS bits ≡ front_bits m.leader m.size m.count
front_there bits m e = let is : Encodes bits m = found_law bits m (sym e) in ap (take FRONT_BITS) is.form ∙ front_taken m is.rest

pub error_is_shown : (n : ℕ) (bits : List Bool) (m : Message) → message_in bits ≡ Ok m → m.leader.host ≡ n → shown_by (text_error (take FRONT_BITS bits) m.text) ≡ text_shown n m
error_is_shown n bits m e h =
    ap (λ (x : List Bool). bytes_of (x ++ take 8 (m.text ++ replicate 8 false))) (front_there bits m e)
    ∙ ap (λ (k : ℕ). bytes_of (front_bits (record m.leader { host = k }) m.size m.count ++ take 8 (m.text ++ replicate 8 false))) h

pub error_is_reported : (bits : List Bool) (m : Message) → message_in bits ≡ Ok m → m.leader.kind ≡ 0 → is_text_error (text_error (take FRONT_BITS bits) m.text) ≡ true
error_is_reported bits m e k = ap (λ (x : List Bool). is_text_error (text_error x m.text)) (front_there bits m e) ∙ text_is_error m.leader m.size m.count m.text k
