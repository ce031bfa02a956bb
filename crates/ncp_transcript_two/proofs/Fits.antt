-- What an act makes can be written, where the numbers of its end and of what happened fit their places.
use Rattle.std.proofs.Common.{◌≡◌, ◌<◌, ◌≤◌, ℕ, ◌^◌, Bool, false, List, [], ◌∷◌, ◌++◌, length, take, drop, replicate, ◌*◌, All, Option, None, Some, ap, ◌∙◌, arith}
use Rattle.std.proofs.lemmas.List.Elements.{All-nil, All-cons, All-map}
use Rattle.std.proofs.lemmas.List.{length-append, length-take-le}
use Rattle.std.specs.List.{range_with_len}
use Rattle.ncp_numbers.specs.Bytes.{bytes_of, byte_of, bytes_for}
use Rattle.ncp_numbers.proofs.Bytes.{byte_of-fits}
use Rattle.ncp_control.proofs.Text.{length-bytes_of}
use Rattle.ncp_model.specs.Effect.{text_error}
use Rattle.ncp_model.specs.Amounts.{back}
use Rattle.ncp_wire.specs.declared.command.Command.{Command}
use Rattle.ncp_wire.specs.declared.command.Command.TheVariants as commands
use Rattle.ncp_wire.specs.Spelling.{IsCommand, error_of, IsByte}
use Rattle.ncp_control.proofs.Reading.{error_about}
use Rattle.ncp_model.specs.declared.pair.Pair.{Pair}
use Rattle.ncp_model.specs.Endpoint.{Endpoint}
use Rattle.ncp_proof_endpoint.specs.Limits.{InLimitsAt}
use Rattle.ncp_model.specs.Texts.{Rfnm, Incomplete, Dead}
use Rattle.ncp_model.specs.EndpointEvents.{EndpointEvent, happens}
use Rattle.ncp_model.specs.EndpointEvents as all
use Rattle.ncp_transcript_two.specs.Tie.{IsPair, EndFits}

abbrev pub Fits : EndpointEvent → Type 0
Fits (all.Asks_to_send of_size with_room own full) = of_size < 2 ^ 8
Fits (all.Asks_to_receive with_room on own full) = on < 2 ^ 8
Fits (all.Allocates m b full) = (m < 2 ^ 16) × (b < 2 ^ 32)
Fits (all.Calls_back m b full) = (m < 2 ^ 8) × (b < 2 ^ 8)
Fits (all.Rts_comes on taken by_peer) = on < 2 ^ 8
Fits (all.Str_comes of_size by_peer) = of_size < 2 ^ 8
Fits (all.All_comes on m b) = (on < 2 ^ 8) × (m < 2 ^ 16) × (b < 2 ^ 32)
Fits (all.Gvb_comes on m b) = (on < 2 ^ 8) × (m < 2 ^ 8) × (b < 2 ^ 8)
Fits (all.Ret_comes on m b) = (on < 2 ^ 8) × (m < 2 ^ 16) × (b < 2 ^ 32)
Fits (all.Inr_comes on) = on < 2 ^ 8
Fits (all.Ins_comes on) = on < 2 ^ 8
Fits (all.Text_comes head of_size text) = length head ≡ 72
Fits what = Unit {0}

pub fits-after : (pair : Pair) (what : EndpointEvent) (before : Option Endpoint) → Fits what → EndFits before → EndFits (happens pair what before).after
fits-after pair (all.Asks_to_send of_size with_room own full) None f k = grind arith
fits-after pair (all.Asks_to_send of_size with_room own full) (Some e) f k = grind arith
fits-after pair (all.Asks_to_receive with_room on own full) None f k = grind arith
fits-after pair (all.Asks_to_receive with_room on own full) (Some e) f k = grind arith
fits-after pair (all.Closes full) None f k = tt
fits-after pair (all.Closes full) (Some e) f k = grind arith
fits-after pair (all.Gives text) None f k = tt
fits-after pair (all.Gives text) (Some e) f k = grind arith
fits-after pair (all.Takes bytes) None f k = tt
fits-after pair (all.Takes bytes) (Some e) f k = grind arith
fits-after pair (all.Allocates m b full) None f k = tt
fits-after pair (all.Allocates m b full) (Some e) f k = grind arith
fits-after pair (all.Calls_back m b full) None f k = tt
fits-after pair (all.Calls_back m b full) (Some e) f k = grind arith
fits-after pair (all.Interrupts full) None f k = tt
fits-after pair (all.Interrupts full) (Some e) f k = grind arith
fits-after pair (all.Rts_comes on taken by_peer) None f k = grind arith
fits-after pair (all.Rts_comes on taken by_peer) (Some e) f k = grind arith
fits-after pair (all.Str_comes of_size by_peer) None f k = grind arith
fits-after pair (all.Str_comes of_size by_peer) (Some e) f k = grind arith
fits-after pair all.Cls_comes None f k = grind arith
fits-after pair all.Cls_comes (Some e) f k = grind arith
fits-after pair (all.All_comes on m b) None f k = tt
fits-after pair (all.All_comes on m b) (Some e) f k = grind arith
fits-after pair (all.Gvb_comes on m b) None f k = tt
fits-after pair (all.Gvb_comes on m b) (Some e) f k = grind arith
fits-after pair (all.Ret_comes on m b) None f k = tt
fits-after pair (all.Ret_comes on m b) (Some e) f k = grind arith
fits-after pair (all.Inr_comes on) None f k = tt
fits-after pair (all.Inr_comes on) (Some e) f k = grind arith
fits-after pair (all.Ins_comes on) None f k = tt
fits-after pair (all.Ins_comes on) (Some e) f k = grind arith
fits-after pair (all.Text_comes head of_size text) None f k = tt
fits-after pair (all.Text_comes head of_size text) (Some e) f k = grind arith
fits-after pair all.Text_goes_out None f k = tt
fits-after pair all.Text_goes_out (Some e) f k = grind arith
fits-after pair (all.Is_answered Rfnm) None f k = tt
fits-after pair (all.Is_answered Rfnm) (Some e) f k = grind arith
fits-after pair (all.Is_answered Incomplete) None f k = tt
fits-after pair (all.Is_answered Incomplete) (Some e) f k = k
fits-after pair (all.Is_answered Dead) None f k = tt
fits-after pair (all.Is_answered Dead) (Some e) f k = k
fits-after pair all.Is_cleared before f k = tt

abbrev pub Each : List Command → Type 0
Each [] = Unit {0}
Each (c ∷ cs) = IsCommand c × Each cs

-- the ERR about a command, and about a text

pub err : (code : ℕ) (c : Command) → code < 2 ^ 8 → IsCommand c → IsCommand (error_of code c)
err code c b k = error_about code c b k

all_bytes : (bits : List Bool) → All IsByte (bytes_of bits)
unfolding bytes_of
all_bytes bits = All-map IsByte (λ (place : ℕ). byte_of (drop (8 * place) bits)) (range_with_len 0 (bytes_for (length bits))) (each (range_with_len 0 (bytes_for (length bits))))
  where
    each : (places : List ℕ) → All (λ (place : ℕ). IsByte (byte_of (drop (8 * place) bits))) places
    each [] = All-nil (λ (place : ℕ). IsByte (byte_of (drop (8 * place) bits)))
    each (k ∷ ks) = All-cons (λ (place : ℕ). IsByte (byte_of (drop (8 * place) bits))) k ks (byte_of-fits (drop (8 * k) bits)) (each ks)

pub text_err : (head text : List Bool) → length head ≡ 72 → IsCommand (text_error head text)
text_err head text l =
    let eight : length (take 8 (text ++ replicate 8 false)) ≡ 8 = length-take-le 8 (text ++ replicate 8 false) (omega (arith, length-append text (replicate 8 false))) in
    let long : length (head ++ take 8 (text ++ replicate 8 false)) ≡ 80 = length-append head (take 8 (text ++ replicate 8 false)) ∙ omega (arith, l, eight) in
    (omega arith, length-bytes_of (head ++ take 8 (text ++ replicate 8 false)) ∙ ap bytes_for long, all_bytes (head ++ take 8 (text ++ replicate 8 false)))

back-le : (n f : ℕ) → back n f ≤ n
unfolding back
back-le n f = omega arith

pub made-fits : (pair : Pair) (what : EndpointEvent) (before : Option Endpoint) → IsPair pair → Fits what → EndFits before → InLimitsAt pair before → Each (happens pair what before).made
made-fits pair (all.Asks_to_send of_size with_room own full) None p f k l = grind arith
made-fits pair (all.Asks_to_send of_size with_room own full) (Some e) p f k l = grind arith
made-fits pair (all.Asks_to_receive with_room on own full) None p f k l = grind arith
made-fits pair (all.Asks_to_receive with_room on own full) (Some e) p f k l = grind arith
made-fits pair (all.Closes full) None p f k l = tt
made-fits pair (all.Closes full) (Some e) p f k l = grind arith
made-fits pair (all.Gives text) None p f k l = tt
made-fits pair (all.Gives text) (Some e) p f k l = tt
made-fits pair (all.Takes bytes) None p f k l = tt
made-fits pair (all.Takes bytes) (Some e) p f k l = grind arith
made-fits pair (all.Allocates m b full) None p f k l = tt
made-fits pair (all.Allocates m b full) (Some e) p f k l = grind arith
made-fits pair (all.Calls_back m b full) None p f k l = tt
made-fits pair (all.Calls_back m b full) (Some e) p f k l = grind arith
made-fits pair (all.Interrupts full) None p f k l = tt
made-fits pair (all.Interrupts full) (Some e) p f k l = grind arith
made-fits pair (all.Rts_comes on taken by_peer) None p f k l = let x = err 3 (commands.Rts pair.remote pair.local on) (omega arith) (p.1, p.0, f) in grind (arith, x)
made-fits pair (all.Rts_comes on taken by_peer) (Some e) p f k l = let x = err 3 (commands.Rts pair.remote pair.local on) (omega arith) (p.1, p.0, f) in grind (arith, x)
made-fits pair (all.Str_comes of_size by_peer) None p f k l = let x = err 3 (commands.Str pair.remote pair.local of_size) (omega arith) (p.1, p.0, f) in grind (arith, x)
made-fits pair (all.Str_comes of_size by_peer) (Some e) p f k l = let x = err 3 (commands.Str pair.remote pair.local of_size) (omega arith) (p.1, p.0, f) in grind (arith, x)
made-fits pair all.Cls_comes None p f k l =
    let x = err 3 (commands.Cls pair.remote pair.local) (omega arith) (p.1, p.0) in let y = err 4 (commands.Cls pair.remote pair.local) (omega arith) (p.1, p.0) in grind (arith, x, y)
made-fits pair all.Cls_comes (Some e) p f k l = let x = err 3 (commands.Cls pair.remote pair.local) (omega arith) (p.1, p.0) in grind (arith, x)
made-fits pair (all.All_comes on m b) None p f k l = (err 5 (commands.All on m b) (omega arith) f, tt)
made-fits pair (all.All_comes on m b) (Some e) p f k l = let x = err 5 (commands.All on m b) (omega arith) f in let y = err 3 (commands.All on m b) (omega arith) f in grind (arith, x, y)
made-fits pair (all.Gvb_comes on m b) None p f k l = (err 5 (commands.Gvb on m b) (omega arith) f, tt)
made-fits pair (all.Gvb_comes on m b) (Some e) p f k l =
    let x = err 5 (commands.Gvb on m b) (omega arith) f in
    let y : IsCommand (commands.Ret on (back e.messages m) (back e.bits b)) = (f.0, omega (arith, back-le e.messages m, l.messages), omega (arith, back-le e.bits b, l.bits)) in
    grind (arith, x, y)
made-fits pair (all.Ret_comes on m b) None p f k l = (err 5 (commands.Ret on m b) (omega arith) f, tt)
made-fits pair (all.Ret_comes on m b) (Some e) p f k l = let x = err 5 (commands.Ret on m b) (omega arith) f in let y = err 3 (commands.Ret on m b) (omega arith) f in grind (arith, x, y)
made-fits pair (all.Inr_comes on) None p f k l = (err 5 (commands.Inr on) (omega arith) f, tt)
made-fits pair (all.Inr_comes on) (Some e) p f k l = let x = err 5 (commands.Inr on) (omega arith) f in grind (arith, x)
made-fits pair (all.Ins_comes on) None p f k l = (err 5 (commands.Ins on) (omega arith) f, tt)
made-fits pair (all.Ins_comes on) (Some e) p f k l = let x = err 5 (commands.Ins on) (omega arith) f in grind (arith, x)
made-fits pair (all.Text_comes head of_size text) None p f k l = (text_err head text f, tt)
made-fits pair (all.Text_comes head of_size text) (Some e) p f k l = let x = text_err head text f in grind (arith, x)
made-fits pair all.Text_goes_out before p f k l = tt
made-fits pair (all.Is_answered Rfnm) None p f k l = tt
made-fits pair (all.Is_answered Rfnm) (Some e) p f k l = grind arith
made-fits pair (all.Is_answered Incomplete) None p f k l = tt
made-fits pair (all.Is_answered Incomplete) (Some e) p f k l = tt
made-fits pair (all.Is_answered Dead) None p f k l = tt
made-fits pair (all.Is_answered Dead) (Some e) p f k l = tt
made-fits pair all.Is_cleared before p f k l = tt
