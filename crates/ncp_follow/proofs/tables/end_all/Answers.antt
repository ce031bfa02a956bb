use Rattle.std.proofs.Common.{◌≡◌, ◌∙◌, ◌++◌, take, get_or, List, sym, ap}
use Rattle.std.proofs.Math.ListN.{drop_of_length-le}
use Rattle.std.proofs.lemmas.List.{take_more, take-append-drop, append-nil}
use Rattle.ncp_follow.specs.declared.followed_conn.FollowedConn.{FollowedConn}
use Rattle.ncp_follow.specs.Tracks.{new_track}
use Rattle.ncp_follow.specs.Tables.{end_one, end_all}
use Rattle.ncp_follow.proofs.Ending.{ended_more}
use Rattle.ncp_follow.proofs.tables.end_all.Goals as goal

pub loop-track-preserved : goal.loop-track-preserved
loop-track-preserved c =
    let tracks = c.args.tracks.now in let i = c.loop-track.track-index in let observation = c.args.observation.now in
    let none : FollowedConn = new_track 0 0 0 0 in
    record {
      told = c.end_one.ensures ∙ ap (end_one observation.number observation.at observation.peer c.args.end (get_or tracks i none)) c.loop-track.invariant.told
          ∙ sym (ended_more observation.number observation.at observation.peer c.args.end (take i tracks) (get_or tracks i none) c.args.told.now)
          ∙ ap (λ (xs : List FollowedConn). end_all observation.number observation.at observation.peer c.args.end xs c.args.told.now) (sym (take_more tracks i none c.loop-track-test.true));
    }

pub returns : goal.returns
returns c =
    let tracks = c.args.tracks.now in let i = c.loop-track.track-index in let observation = c.args.observation.now in
    let all : take i tracks ≡ tracks = sym (append-nil (take i tracks)) ∙ ap (λ (xs : List FollowedConn). take i tracks ++ xs) (sym (drop_of_length-le tracks c.loop-track-test.false)) ∙ take-append-drop i tracks in
    c.loop-track.invariant.told ∙ ap (λ (xs : List FollowedConn). end_all observation.number observation.at observation.peer c.args.end xs c.args.told.now) all
