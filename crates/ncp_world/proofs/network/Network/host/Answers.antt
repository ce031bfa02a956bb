use Rattle.std.specs.Box.{boxed_slice_items}
use Rattle.std.proofs.Common.{◌≡◌, ℕ, ◌==◌, List, None, Some, sym, ap, ◌∙◌}
use Rattle.std.specs.List.{position}
use Rattle.std.specs.Option.{option_copied}
use Rattle.ncp_host.specs.Host.{Host}
use Rattle.ncp_transcript_many.specs.Numbered.{thing_in}
use Rattle.ncp_transcript_many.specs.Network.{Network}
use Rattle.ncp_transcript_many.proofs.Places.{place-none, place-some}
use Rattle.ncp_world.proofs.Members.{place-inside, host-read}
use Rattle.ncp_world.proofs.network.Network.host.Goals as goal

pub returns-in_err-place : goal.returns-in_err-place
returns-in_err-place g c =
    let items : List (ℕ × Host) = (boxed_slice_items c.self.inside.members) in
    let nowhere : None ≡ position (λ (x : ℕ × Host). x.0 == c.args.number) items = sym c.in_err-place.was ∙ c.first_index.ensures ∙ ap (position (λ (x : ℕ × Host). x.0 == c.args.number)) c.deref.ensures.value in
    ap option_copied c.from_residual.ensures ∙ sym (place-none items c.args.number nowhere).0 ∙ ap (λ (m : Network). thing_in m.hosts c.args.number) c.self.view_is

pub returns : goal.returns
returns g c =
    let items : List (ℕ × Host) = (boxed_slice_items c.self.inside.members) in
    let at : Some c.in_ok-place.place ≡ position (λ (x : ℕ × Host). x.0 == c.args.number) items = sym c.in_ok-place.was ∙ c.first_index.ensures ∙ ap (position (λ (x : ℕ × Host). x.0 == c.args.number)) c.deref.ensures.value in
    ap (λ (x : ℕ × Host). Some x.1) c.behind-self.view_is
    ∙ sym (host-read items c.args.number c.in_ok-place.place c.index.result.now (place-some items c.args.number c.in_ok-place.place at) (place-inside items c.args.number c.in_ok-place.place at) c.index.ensures)
    ∙ ap (λ (m : Network). thing_in m.hosts c.args.number) c.self.view_is
