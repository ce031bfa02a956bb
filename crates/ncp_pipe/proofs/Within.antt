-- What was taken, is held, may come and was called back is no more than was allowed.
use Rattle.std.proofs.Common.{◌≤◌, ◌+◌, Bool, List, [], ◌∷◌, ◌++◌, length, sym, ap, subst, arith}
use Rattle.std.proofs.lemmas.List.{length-append}
use Rattle.ncp_pipe.specs.Pipe.{Pipe, new_pipe, Step, IsStep, IsRun, without_receiver, without_sender}
use Rattle.ncp_pipe.specs.Pipe as pipes
use Rattle.ncp_pipe.specs.Accounts.{more_taken, taken_after, Allowance, no_allowance, more_allowed, allowance_after, head_of}

abbrev Fits : Pipe → List (List Bool) → Allowance → Type 0
Fits p [] a = ⊥
Fits p (t ∷ ts) a = length t + length p.held + p.allowed + a.back ≤ a.let_in

one-step : (p : Pipe) (t : List Bool) (ts : List (List Bool)) (a : Allowance) → Fits p (t ∷ ts) a → (s : Step) (q : Pipe) → IsStep s p q → Fits q (more_taken s (t ∷ ts)) (more_allowed s a)
one-step p t ts a k pipes.Asks_to_send q (x, y, e) = subst (λ (z : Pipe). Fits z (t ∷ ts) a) (sym e) k
one-step p t ts a k pipes.Opens_sender q (x, e) = subst (λ (z : Pipe). Fits z (t ∷ ts) a) (sym e) k
one-step p t ts a k (pipes.Gives text) q (x, e) = subst (λ (z : Pipe). Fits z (t ∷ ts) a) (sym e) k
one-step p t ts a k pipes.Closes_sender q e = subst (λ (z : Pipe). Fits z (t ∷ ts) a) (sym e) k
one-step p t ts a k pipes.Leaves_sender q (x, e) = subst (λ (z : Pipe). Fits z (t ∷ ts) a) (sym e) k
one-step p t ts a k pipes.Ends_sender q (x, e) = subst (λ (z : Pipe). Fits z (t ∷ ts) a) (sym e) k
one-step p t ts a k pipes.Cuts_sender q e = subst (λ (z : Pipe). Fits z (t ∷ ts) a) (sym e) k
one-step p t ts a k pipes.Asks_to_receive q (x, e) = subst (λ (z : Pipe). Fits z ([] ∷ t ∷ ts) no_allowance) (sym e) (omega arith)
one-step p t ts a k pipes.Opens_receiver q (x, y, e) = subst (λ (z : Pipe). Fits z (t ∷ ts) a) (sym e) k
one-step p t ts a k (pipes.Takes text) q (rest, h, e) = subst (λ (z : Pipe). Fits z ((t ++ text) ∷ ts) a) (sym e) (omega (arith, k, ap length h, length-append t text, length-append text rest))
one-step p t ts a k (pipes.Allows bits) q (x, e) = subst (λ (z : Pipe). Fits z (t ∷ ts) (record a { let_in = a.let_in + bits })) (sym e) (omega (arith, k))
one-step p t ts a k pipes.Calls_back q (x, e) = subst (λ (z : Pipe). Fits z (t ∷ ts) a) (sym e) k
one-step p t ts a k (pipes.Returns bits) q (l, e) = subst (λ (z : Pipe). Fits z (t ∷ ts) (record a { back = a.back + bits })) (sym e) (omega (arith, k, l))
one-step p t ts a k pipes.Closes_receiver q e = subst (λ (z : Pipe). Fits z (t ∷ ts) a) (sym e) (omega (arith, k))
one-step p t ts a k pipes.Leaves_receiver q (x, e) = subst (λ (z : Pipe). Fits z (t ∷ ts) a) (sym e) (omega (arith, k))
one-step p t ts a k pipes.Ends_receiver q (x, e) = subst (λ (z : Pipe). Fits z (t ∷ ts) a) (sym e) (omega (arith, k))
one-step p t ts a k pipes.Cuts_receiver q e = subst (λ (z : Pipe). Fits z (t ∷ ts) a) (sym e) (omega (arith, k))
one-step p t ts a k (pipes.Sends bits) q (x, y, l, m, e) = subst (λ (z : Pipe). Fits z (t ∷ ts) a) (sym e) k
one-step p t ts a k pipes.Delivers q (x, l, e) = subst (λ (z : Pipe). Fits z (t ∷ ts) a) (sym e) (omega (arith, k, l, length-append p.held p.in_flight))

step-at : (p : Pipe) (ts : List (List Bool)) (a : Allowance) → Fits p ts a → (s : Step) (q : Pipe) → IsStep s p q → Fits q (more_taken s ts) (more_allowed s a)
step-at p [] a k s q i = absurd k
step-at p (t ∷ ts) a k s q i = one-step p t ts a k s q i

pub fits-run : (steps : List Step) (p q : Pipe) (ts : List (List Bool)) (a : Allowance) → Fits p ts a → IsRun p steps q → Fits q (taken_after steps ts) (allowance_after steps a)
fits-run [] p q ts a k r = subst (λ (z : Pipe). Fits z ts a) r k
fits-run (s ∷ steps) p q ts a k (m, i, r) = fits-run steps m q (more_taken s ts) (more_allowed s a) (step-at p ts a k s m i) r

pub within : (q : Pipe) (ts : List (List Bool)) (a : Allowance) → Fits q ts a → length (head_of ts) + a.back ≤ a.let_in
within q [] a k = absurd k
within q (t ∷ ts) a k = omega (arith, k)

pub fits-new : Fits new_pipe ([] ∷ []) no_allowance
fits-new = omega arith
