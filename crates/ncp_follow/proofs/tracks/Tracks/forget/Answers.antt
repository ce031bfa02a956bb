use Rattle.std.proofs.Common.{◌∙◌, List, not, rules, ap}
use Rattle.std.specs.List.{filter}
use Rattle.std.proofs.lemmas.Fn.{filter_same}
use Rattle.ncp_follow.specs.declared.followed_conn.FollowedConn.{FollowedConn}
use Rattle.ncp_follow.specs.Tables.{is_track_of}
use Rattle.ncp_follow.proofs.tracks.Tracks.forget.Goals as goal

pub returns : goal.returns
returns c =
    filter_same _ (λ track. not (is_track_of c.args.at c.args.peer track)) _ (λ track r f k. search rules) _ _ c.retain.ensures.filtered
    ∙ ap (λ (tracks : List FollowedConn). filter (λ track. not (is_track_of c.args.at c.args.peer track)) tracks) c.self.view_is
