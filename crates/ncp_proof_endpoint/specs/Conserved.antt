-- Shorthands of the laws on what an endpoint gains and loses (src/conserved.rt). Each says that `holds`
-- is true for every event of one kind that succeeds at an existing endpoint: its outcome is `Accepted`,
-- or of a text `Admitted`, `Sent` or `Took_out`. `holds` has the amounts or the text, the endpoint before
-- (`x`) and after (`e`; an event after which there is none is left out), and in three shorthands the
-- commands made. `full`: the queue has no room for the command of a call; `on`: a link.
use Rattle.std.specs.Prelude.{◌≡◌, ℕ, Bool, List, Some}
use Rattle.ncp_wire.specs.declared.command.Command.{Command}
use Rattle.ncp_model.specs.declared.pair.Pair.{Pair}
use Rattle.ncp_model.specs.Endpoint.{Endpoint}
use Rattle.ncp_model.specs.EndpointEvents.{happens, Allocates, Calls_back, Takes, All_comes, Gvb_comes, Ret_comes, Text_comes, Text_goes_out, Accepted, Admitted, Sent, Took_out}

-- the user of a receiver allocates, and an ALL is made: messages, bits, endpoint before and after,
-- commands made
abbrev pub OfEachGrant : (ℕ → ℕ → Endpoint → Endpoint → List Command → Type 0) → Type 0
OfEachGrant holds =
    (pair : Pair) (messages bits : ℕ) (full : Bool) (x e : Endpoint) → (happens pair (Allocates messages bits full) (Some x)).outcome ≡ Accepted → (happens pair (Allocates messages bits full) (Some x)).after ≡ Some e → holds messages bits x e (happens pair (Allocates messages bits full) (Some x)).made

-- an ALL arrives: its messages and bits, and the endpoint before and after
abbrev pub OfEachAll : (ℕ → ℕ → Endpoint → Endpoint → Type 0) → Type 0
OfEachAll holds =
    (pair : Pair) (on messages bits : ℕ) (x e : Endpoint) → (happens pair (All_comes on messages bits) (Some x)).outcome ≡ Accepted → (happens pair (All_comes on messages bits) (Some x)).after ≡ Some e → holds messages bits x e

-- a GVB arrives: its link, its fractions in 128ths (of the messages, of the bits), the endpoint before
-- and after, and the commands made
abbrev pub OfEachGvb : (ℕ → ℕ → ℕ → Endpoint → Endpoint → List Command → Type 0) → Type 0
OfEachGvb holds =
    (pair : Pair) (on messages bits : ℕ) (x e : Endpoint) → (happens pair (Gvb_comes on messages bits) (Some x)).outcome ≡ Accepted → (happens pair (Gvb_comes on messages bits) (Some x)).after ≡ Some e → holds on messages bits x e (happens pair (Gvb_comes on messages bits) (Some x)).made

-- a RET arrives: its messages and bits, and the endpoint before and after
abbrev pub OfEachRet : (ℕ → ℕ → Endpoint → Endpoint → Type 0) → Type 0
OfEachRet holds =
    (pair : Pair) (on messages bits : ℕ) (x e : Endpoint) → (happens pair (Ret_comes on messages bits) (Some x)).outcome ≡ Accepted → (happens pair (Ret_comes on messages bits) (Some x)).after ≡ Some e → holds messages bits x e

-- a text arrives and is admitted (the endpoint has opened and is not closing, and the text has its byte
-- size and is within the allocation): the text, and the endpoint before and after. `head`: leader and
-- prefix of the text.
abbrev pub OfEachTextIn : (List Bool → Endpoint → Endpoint → Type 0) → Type 0
OfEachTextIn holds =
    (pair : Pair) (head : List Bool) (of_size : ℕ) (text : List Bool) (x e : Endpoint) → (happens pair (Text_comes head of_size text) (Some x)).outcome ≡ Admitted → (happens pair (Text_comes head of_size text) (Some x)).after ≡ Some e → holds text x e

-- a text is sent: the text, and the endpoint before and after
abbrev pub OfEachTextOut : (List Bool → Endpoint → Endpoint → Type 0) → Type 0
OfEachTextOut holds =
    (pair : Pair) (of_size : ℕ) (text : List Bool) (x e : Endpoint) → (happens pair Text_goes_out (Some x)).outcome ≡ Sent of_size text → (happens pair Text_goes_out (Some x)).after ≡ Some e → holds text x e

-- the user of a receiver takes text, at most `bytes` bytes: the text, and the endpoint before and after
abbrev pub OfEachTaking : (List Bool → Endpoint → Endpoint → Type 0) → Type 0
OfEachTaking holds =
    (pair : Pair) (bytes : ℕ) (text : List Bool) (x e : Endpoint) → (happens pair (Takes bytes) (Some x)).outcome ≡ Took_out text → (happens pair (Takes bytes) (Some x)).after ≡ Some e → holds text x e

-- the user of a receiver calls allocation back, and a GVB is made: its fractions in 128ths, the endpoint
-- before, and the commands made (of the endpoint after: `OfEachRecalling` of OfEnds)
abbrev pub OfEachRecall : (ℕ → ℕ → Endpoint → List Command → Type 0) → Type 0
OfEachRecall holds =
    (pair : Pair) (messages bits : ℕ) (full : Bool) (x : Endpoint) → (happens pair (Calls_back messages bits full) (Some x)).outcome ≡ Accepted → holds messages bits x (happens pair (Calls_back messages bits full) (Some x)).made
