-- Meant for other crates too: they cite what is public here.
--
-- What a receiving end counts is what its history says.
use Rattle.std.proofs.Common.{◌≡◌, true, false, if◌then◌else◌, List, [], ◌∷◌, Option, None, Some, arith}
use Rattle.std.proofs.lemmas.List.{append-nil, append_assoc, length-append, take-append-drop}
use Rattle.ncp_model.specs.declared.pair.Pair.{Pair}
use Rattle.ncp_model.specs.Pairs.{sends, receives}
use Rattle.ncp_model.specs.Endpoint.{Endpoint}
use Rattle.ncp_model.specs.EndpointEvents.{EndpointEvent, happens}
use Rattle.ncp_model.specs.Demux.{suits}
use Rattle.ncp_proof_endpoint.specs.Histories.{PairHistory, no_past, adds, opens, EndpointWithHistory, watches, watch_from, watch, reopened}
use Rattle.ncp_proof_endpoint.specs.Books.{BooksAt, Suit}
use Rattle.ncp_proof_endpoint.specs.Sound.{SoundAt}
use Rattle.ncp_proof_endpoint.proofs.SoundEnds.{one_way, sound-after}

-- after what happened the books agree
abbrev pub Kept : Pair → EndpointEvent → Option Endpoint → PairHistory → Type 0
Kept pair what before past = BooksAt (happens pair what before).after (adds what (happens pair what before).outcome (if opens before (happens pair what before).after then reopened past else past))

ruleset on_books = (append-nil, append_assoc, length-append, take-append-drop)

pub books-kept : (pair : Pair) (what : EndpointEvent) (before : Option Endpoint) (past : PairHistory) → sends pair ≡ false → suits pair what ≡ true → SoundAt pair before → BooksAt before past → Kept pair what before past
books-kept pair (EndpointEvent.Asks_to_send of_size with_room own full) None past n l s k = grind (arith, on_books)
books-kept pair (EndpointEvent.Asks_to_send of_size with_room own full) (Some e) past n l s k = grind (arith, on_books)
books-kept pair (EndpointEvent.Asks_to_receive with_room on own full) None past n l s k = grind (arith, on_books)
books-kept pair (EndpointEvent.Asks_to_receive with_room on own full) (Some e) past n l s k = grind (arith, on_books)
books-kept pair (EndpointEvent.Closes full) None past n l s k = tt
books-kept pair (EndpointEvent.Closes full) (Some e) past n l s k = grind (arith, on_books)
books-kept pair (EndpointEvent.Gives text) None past n l s k = tt
books-kept pair (EndpointEvent.Gives text) (Some e) past n l s k = grind (arith, on_books)
books-kept pair (EndpointEvent.Takes bytes) None past n l s k = tt
books-kept pair (EndpointEvent.Takes bytes) (Some e) past n l s k = grind (arith, on_books)
books-kept pair (EndpointEvent.Allocates m b full) None past n l s k = tt
books-kept pair (EndpointEvent.Allocates m b full) (Some e) past n l s k = grind (arith, on_books)
books-kept pair (EndpointEvent.Calls_back m b full) None past n l s k = tt
books-kept pair (EndpointEvent.Calls_back m b full) (Some e) past n l s k = grind (arith, on_books)
books-kept pair (EndpointEvent.Interrupts full) None past n l s k = tt
books-kept pair (EndpointEvent.Interrupts full) (Some e) past n l s k = grind (arith, on_books)
books-kept pair (EndpointEvent.Rts_comes on taken by_peer) None past n l s k = grind (arith, on_books)
books-kept pair (EndpointEvent.Rts_comes on taken by_peer) (Some e) past n l s k = grind (arith, on_books)
books-kept pair (EndpointEvent.Str_comes of_size by_peer) None past n l s k = grind (arith, on_books)
books-kept pair (EndpointEvent.Str_comes of_size by_peer) (Some e) past n l s k = grind (arith, on_books)
books-kept pair EndpointEvent.Cls_comes None past n l s k = grind (arith, on_books)
books-kept pair EndpointEvent.Cls_comes (Some e) past n l s k = grind (arith, on_books)
books-kept pair (EndpointEvent.All_comes on m b) before past n l s k = absurd (cc (n, l))
books-kept pair (EndpointEvent.Gvb_comes on m b) before past n l s k = absurd (cc (n, l))
books-kept pair (EndpointEvent.Ret_comes on m b) None past n l s k = tt
books-kept pair (EndpointEvent.Ret_comes on m b) (Some e) past n l s k = grind (arith, on_books)
books-kept pair (EndpointEvent.Inr_comes on) before past n l s k = absurd (cc (n, l))
books-kept pair (EndpointEvent.Ins_comes on) None past n l s k = tt
books-kept pair (EndpointEvent.Ins_comes on) (Some e) past n l s k = grind (arith, on_books)
books-kept pair (EndpointEvent.Text_comes head of_size text) None past n l s k = tt
books-kept pair (EndpointEvent.Text_comes head of_size text) (Some e) past n l s k = grind (arith, on_books)
books-kept pair EndpointEvent.Text_goes_out before past n l s k = absurd (cc (n, l))
books-kept pair (EndpointEvent.Is_answered how) before past n l s k = absurd (cc (n, l))
books-kept pair EndpointEvent.Is_cleared before past n l s k = tt

books-from : (pair : Pair) (whats : List EndpointEvent) (w : EndpointWithHistory) → receives pair ≡ true → Suit pair whats → SoundAt pair w.end → BooksAt w.end w.past → BooksAt (watch_from pair whats w).end (watch_from pair whats w).past
books-from pair [] w r l s k = k
books-from pair (what ∷ more) w r l s k =
    books-from pair more (watches pair what w) r l.1 (sound-after pair what w.end s) (books-kept pair what w.end w.past (one_way pair r) l.0 s k)

pub books-ever : (pair : Pair) (whats : List EndpointEvent) → receives pair ≡ true → Suit pair whats → BooksAt (watch pair whats).end (watch pair whats).past
books-ever pair whats r l = books-from pair whats (record { end = None; past = no_past }) r l tt tt
