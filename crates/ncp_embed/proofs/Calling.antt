-- The host behind a handle was found, and called.
use Rattle.std.proofs.Common.{◌≡◌, ℕ, inl, inr, Option, Some, Result, sym, ap, ◌∙◌}
use Rattle.std.specs.Global.{Global}
use Rattle.std.specs.declared.boxed.Box.{Box}
use Rattle.ncp_model.specs.declared.call_fault.CallFault.{CallFault}
use Rattle.ncp_host.specs.Host.{Host}
use Rattle.ncp_peer.specs.PeerCalls as calls
use Rattle.ncp_embed.specs.declared.handle.held.BoxedHost.{BoxedHost}
use Rattle.ncp_results.specs.Codes.{code_of}
use Rattle.ncp_parts.specs.Owning.{value_of_box}
use Rattle.ncp_embed.specs.Exports.{held, code_in, host_changed_in, AnswersOrNoMemory}

module _ (taken : Option (Box BoxedHost Global)) (it : Box BoxedHost Global) (at : BoxedHost) (before : Option BoxedHost) (some : taken ≡ Some it) (was : value_of_box taken ≡ before) (same : at ≡ it.value) where
  pub found : Some at ≡ before
  found = ap (λ (x : BoxedHost). Some x) same ∙ ap value_of_box (sym some) ∙ was

  -- a call that takes memory
  pub done : (reply : Host → Result (Unit {0}) CallFault) (after : Host → Host) (result : Result (Unit {0}) CallFault) (host : Host) (now : Option BoxedHost) (code : ℕ) → code ≡ code_of result → now ≡ Some (held host)
      → calls.DoneOrNoMemory (reply at.host) (after at.host) result at.host host → AnswersOrNoMemory (code_in reply before) (host_changed_in after before) code before now
  done reply after result host now code coded put told = elim told [
    | inl w ↦ inl (coded ∙ ap code_of w.0 ∙ ap (code_in reply) found, put ∙ ap (λ (h : Host). Some (held h)) w.1 ∙ ap (host_changed_in after) found)
    | inr w ↦ inr (coded ∙ ap code_of w.0, sym (ap (code_in reply) found) ∙ ap code_of w.1, put ∙ ap (λ (h : Host). Some (held h)) w.2 ∙ found)
  ]
