-- What the users of a pair of sockets have between them: a pipe. It is an abstract machine. No message, link, slot,
-- command or table of a host is named here.
use Rattle.std.specs.Prelude.{◌≡◌, ◌≤◌, ℕ, ◌+◌, ◌-◌, Bool, true, false, List, [], ◌∷◌, ◌++◌, length, take, drop, if◌then◌else◌}

-- the state of one side's connection
pub data Stage : Type 0 where
  Closed : Stage
  Asked : Stage  -- requested, not yet open
  Open : Stage
  Closing : Stage  -- closed by either user, not yet ended

pub record Pipe : Type 0 where
  pub sender : Stage
  pub receiver : Stage
  pub queued : List Bool  -- given, not yet sent
  pub in_flight : List Bool  -- sent to an open receiver, not yet delivered
  pub held : List Bool  -- delivered, not yet taken
  pub allowed : ℕ  -- how many more bits may be delivered
  pub fresh : Bool  -- nothing was sent since the sender asked

abbrev pub new_pipe : Pipe
new_pipe = record { sender = Closed; receiver = Closed; queued = []; in_flight = []; held = []; allowed = 0; fresh = true }

pub data Step : Type 0 where
  -- accepted calls of the sender's user
  Asks_to_send : Step
  Gives : (text : List Bool) → Step
  Closes_sender : Step
  -- accepted calls of the receiver's user
  Asks_to_receive : Step
  Takes : (text : List Bool) → Step
  Allows : (bits : ℕ) → Step
  Calls_back : Step
  Closes_receiver : Step
  -- by the pipe
  Opens_sender : Step
  Opens_receiver : Step
  Sends : (bits : ℕ) → Step  -- bits sent to a receiver that is not open are lost
  Delivers : Step
  Returns : (bits : ℕ) → Step  -- a part of the allowance, after a call back
  Leaves_sender : Step  -- the other side closed
  Leaves_receiver : Step
  Ends_sender : Step  -- both sides closed
  Ends_receiver : Step
  Cuts_sender : Step  -- by a reset of either host, or a host that goes down
  Cuts_receiver : Step

-- asked for or open
abbrev pub is_on : Stage → Bool
is_on Asked = true
is_on Open = true
is_on stage = false

abbrev pub is_open : Stage → Bool
is_open Open = true
is_open stage = false

-- A sender that closes drops its queued bits; bits in flight to a receiver that stops being open are lost.

abbrev pub without_sender : Stage → Pipe → Pipe
without_sender stage p = record p { sender = stage; queued = [] }

abbrev pub without_receiver : Stage → Pipe → Pipe
without_receiver stage p = record p { receiver = stage; in_flight = []; held = []; allowed = 0 }

abbrev pub IsStep : Step → Pipe → Pipe → Type 0
IsStep Asks_to_send p q = (p.sender ≡ Closed) × (is_open p.receiver ≡ false) × (q ≡ record p { sender = Asked; queued = []; fresh = true })
IsStep Opens_sender p q = (p.sender ≡ Asked) × (q ≡ record p { sender = Open })
IsStep (Gives text) p q = (p.sender ≡ Open) × (q ≡ record p { queued = p.queued ++ text })
IsStep Closes_sender p q = q ≡ without_sender Closing p
IsStep Leaves_sender p q = (is_on p.sender ≡ true) × (q ≡ without_sender Closing p)
IsStep Ends_sender p q = (p.sender ≡ Closing) × (q ≡ without_sender Closed p)
IsStep Cuts_sender p q = q ≡ without_sender Closed p
IsStep Asks_to_receive p q = (p.receiver ≡ Closed) × (q ≡ record p { receiver = Asked; held = []; allowed = 0 })
IsStep Opens_receiver p q = (p.receiver ≡ Asked) × (is_on p.sender ≡ true → p.fresh ≡ true) × (q ≡ record p { receiver = Open })
IsStep (Takes text) p q = (rest : List Bool) × (p.held ≡ text ++ rest) × (q ≡ record p { held = rest })
IsStep (Allows bits) p q = (p.receiver ≡ Open) × (q ≡ record p { allowed = p.allowed + bits })
IsStep Calls_back p q = (p.receiver ≡ Open) × (q ≡ p)
IsStep (Returns bits) p q = (bits ≤ p.allowed) × (q ≡ record p { allowed = p.allowed - bits })
IsStep Closes_receiver p q = q ≡ without_receiver Closing p
IsStep Leaves_receiver p q = (is_on p.receiver ≡ true) × (q ≡ record p { receiver = Closing; in_flight = []; allowed = 0 })
IsStep Ends_receiver p q = (p.receiver ≡ Closing) × (q ≡ without_receiver Closed p)
IsStep Cuts_receiver p q = q ≡ without_receiver Closed p
IsStep (Sends bits) p q =
    (p.sender ≡ Open) × (p.in_flight ≡ []) × (1 ≤ bits) × (bits ≤ length p.queued) × (q ≡ record p { queued = drop bits p.queued; in_flight = if is_open p.receiver then take bits p.queued else []; fresh = false })
IsStep Delivers p q = (p.receiver ≡ Open) × (length p.in_flight ≤ p.allowed) × (q ≡ record p { in_flight = []; held = p.held ++ p.in_flight; allowed = p.allowed - length p.in_flight })

-- the steps lead from one pipe to the other
abbrev pub IsRun : Pipe → List Step → Pipe → Type 0
IsRun p [] q = p ≡ q
IsRun p (s ∷ steps) q = (next : Pipe) × IsStep s p next × IsRun next steps q
