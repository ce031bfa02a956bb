-- What the users of a pipe gave and took, by the steps of a run.
use Rattle.std.specs.Prelude.{◌≡◌, ℕ, ◌+◌, Bool, true, false, List, [], ◌∷◌, ◌++◌, if◌then◌else◌}
use Rattle.ncp_pipe.specs.Pipe.{Pipe, Step, Asks_to_send, Gives, Closes_sender, Asks_to_receive, Takes, Allows, Calls_back, Closes_receiver, Returns, new_pipe, IsRun}

-- the steps of users
abbrev pub is_user_step : Step → Bool
is_user_step Asks_to_send = true
is_user_step (Gives text) = true
is_user_step Closes_sender = true
is_user_step Asks_to_receive = true
is_user_step (Takes text) = true
is_user_step (Allows bits) = true
is_user_step Calls_back = true
is_user_step Closes_receiver = true
is_user_step step = false

abbrev pub user_steps : List Step → List Step
user_steps [] = []
user_steps (s ∷ steps) = if is_user_step s then s ∷ user_steps steps else user_steps steps

-- The texts given and the texts taken on the successive connections, the latest first. A connection reaches from one ask
-- to the next.

-- the texts given after one more step: an ask begins a text, a give extends it
abbrev pub more_given : Step → List (List Bool) → List (List Bool)
more_given Asks_to_send gs = [] ∷ gs
more_given (Gives text) (g ∷ gs) = (g ++ text) ∷ gs
more_given step gs = gs

-- the texts taken after one more step: an ask begins a text, a take extends it
abbrev pub more_taken : Step → List (List Bool) → List (List Bool)
more_taken Asks_to_receive ts = [] ∷ ts
more_taken (Takes text) (t ∷ ts) = (t ++ text) ∷ ts
more_taken step ts = ts

abbrev pub given_after : List Step → List (List Bool) → List (List Bool)
given_after [] gs = gs
given_after (s ∷ steps) gs = given_after steps (more_given s gs)

abbrev pub taken_after : List Step → List (List Bool) → List (List Bool)
taken_after [] ts = ts
taken_after (s ∷ steps) ts = taken_after steps (more_taken s ts)

-- the texts given in these steps, the latest first
abbrev pub texts_given : List Step → List (List Bool)
texts_given steps = given_after steps ([] ∷ [])

-- the texts taken in these steps, the latest first
abbrev pub texts_taken : List Step → List (List Bool)
texts_taken steps = taken_after steps ([] ∷ [])

-- Each text taken is a prefix of a text given, and later texts taken belong to later texts given. An empty text taken
-- needs no partner, and a text given may have none.
pub data ArePrefixes : List (List Bool) → List (List Bool) → Type 0 where
  Over : {gs : List (List Bool)} → ArePrefixes [] gs
  Nothing_taken : {ts gs : List (List Bool)} → ArePrefixes ts gs → ArePrefixes ([] ∷ ts) gs
  Passed_over : {g : List Bool} {ts gs : List (List Bool)} → ArePrefixes ts gs → ArePrefixes ts (g ∷ gs)
  Prefix : {t g : List Bool} {ts gs : List (List Bool)} → (rest : List Bool) → g ≡ t ++ rest → ArePrefixes ts gs → ArePrefixes (t ∷ ts) (g ∷ gs)

-- the bits allowed and the bits returned since the receiver last asked
pub record Allowance : Type 0 where
  pub let_in : ℕ
  pub back : ℕ

abbrev pub no_allowance : Allowance
no_allowance = record { let_in = 0; back = 0 }

abbrev pub more_allowed : Step → Allowance → Allowance
more_allowed Asks_to_receive a = no_allowance
more_allowed (Allows bits) a = record a { let_in = a.let_in + bits }
more_allowed (Returns bits) a = record a { back = a.back + bits }
more_allowed step a = a

abbrev pub allowance_after : List Step → Allowance → Allowance
allowance_after [] a = a
allowance_after (s ∷ steps) a = allowance_after steps (more_allowed s a)

abbrev pub head_of : List (List Bool) → List Bool
head_of [] = []
head_of (t ∷ ts) = t

-- of each run from a new pipe
abbrev pub OfEachRun : (List Step → Pipe → Type 0) → Type 0
OfEachRun holds = (steps : List Step) (q : Pipe) → IsRun new_pipe steps q → holds steps q
