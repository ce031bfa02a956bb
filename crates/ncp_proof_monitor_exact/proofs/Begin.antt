-- Where both interfaces are in a file from the beginning.
use Rattle.std.proofs.Common.{ℕ, ◌<◌, true, false, [], refl, sym, subst, arith}
use Rattle.std.proofs.lemmas.List.{length-replicate, get_or-replicate}
use Rattle.ncp_transcript_two.specs.Honest.{Clear}
use Rattle.ncp_monitor.specs.declared.view.View.{View}
use Rattle.ncp_monitor.specs.declared.views.TheConstants.{HOSTS, VIEWS}
use Rattle.ncp_monitor.specs.Tables.{index_of, view_in}
use Rattle.ncp_monitor.specs.Views.{new_view}
use Rattle.ncp_monitor.specs.Judged.{new_monitor}
use Rattle.ncp_proof_monitor_messages.proofs.OneWay.{Sound}
use Rattle.ncp_proof_monitor_exact.specs.Exact.{IsExact}
use Rattle.ncp_proof_monitor_exact.proofs.States.{State}
use Rattle.ncp_proof_monitor_exact.proofs.Fine.{Fine}
use Rattle.ncp_proof_monitor_exact.proofs.Walk.{Inv, walk}

abbrev nothing_yet : State
nothing_yet = record { p = Clear; last = []; fresh = true }

fine_new : (from to : ℕ) → from < 256 → to < 256 → Fine (view_in (new_monitor false).views from to)
fine_new from to f t =
    let inside : index_of from to < VIEWS = omega (arith, f, t) in
    subst (λ (v : View). Fine v) (sym (get_or-replicate VIEWS (index_of from to) (new_view false) (new_view false) inside)) (refl, refl)

sound_new : Sound (new_monitor false)
sound_new = record { part = refl; seen_long = length-replicate HOSTS false; long = length-replicate VIEWS (new_view false) }

begins : (from to : ℕ) → from < 256 → to < 256 → Inv from to false false (λ on. nothing_yet) (new_monitor false)
begins from to f t = record {
  sound = sound_new;
  full = refl;
  seen_from = get_or-replicate HOSTS from false false (omega (arith, f));
  seen_to = get_or-replicate HOSTS to false false (omega (arith, t));
  still = λ e on. refl;
  unlanded = λ e on x. absurd (cc);
  fine = fine_new from to f t;
  stands = λ on. (refl, refl);
}

pub exact : IsExact
exact from to file f t fit = walk from to false false (λ on. nothing_yet) (new_monitor false) file f t fit (begins from to f t)
