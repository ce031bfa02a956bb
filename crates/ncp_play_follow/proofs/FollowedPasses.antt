-- The pass of `follow`: the lines for a file.
use Rattle.std.proofs.Common.{◌≡◌, inl, inr, ℕ, Bool, List, [], ◌∷◌, ◌++◌, Option, Some, None, Ok, Err, refl, sym, ap, ◌∙◌}
use Rattle.std.proofs.lemmas.List.{append-nil}
use Rattle.ncp_play_files.specs.declared.file.FileFault.{FileFault}
use Rattle.ncp_play_files.specs.declared.file.FileFault.TheVariants.{BadHeader, Truncated, TooLong, SpareNotZero, ReadFailed, WriteFailed, BadDirection, Mixed}
use Rattle.ncp_play_files.specs.declared.version.Version.{Version}
use Rattle.ncp_play_files.specs.declared.version.Version.TheVariants.{One, Two}
use Rattle.ncp_play_files.specs.File.{version_of}
use Rattle.ncp_play_files.specs.Versions.{Recorded}
use Rattle.ncp_play_files.specs.Writing.{WritesAll}
use Rattle.ncp_play_files.specs.declared.pass.FileEnd.{FileEnd}
use Rattle.ncp_play_files.specs.declared.pass.FileEnd.TheVariants.{Whole, CutOff}
use Rattle.ncp_play_files.specs.Passes.{end_at, text_from, state_from, whole_text, PassHolds, PrintsAs, PrintsCut, PrintsPrefix, Passes}
use Rattle.ncp_play_buffer.specs.Lines.{number_after}
use Rattle.ncp_follow.specs.declared.follower.Follower.{Follower}
use Rattle.ncp_follow.specs.Followed.{follower_after_record}
use Rattle.ncp_play_follow.specs.ConnectionLines.{follow_lines}
use Rattle.ncp_play_follow.specs.FollowedFiles.{host_of, is_sent, after_seen, after_all, FollowState, follow_pass, ShowsFile, FollowedAs, FollowedCut, FollowsPrefix, Follows}

abbrev pub state_of : Bool → Follower → FollowState
state_of letters follower = record { letters = letters; follower = follower }

-- a record, as it was followed
pub heard : (follower after : Follower) (number : ℕ) (seen : Recorded) (n : ℕ) (sent : Bool) (at : ℕ) (message : List Bool) → after ≡ follower_after_record n sent at message follower
    → n ≡ number → sent ≡ is_sent seen.capture_point.direction → at ≡ host_of seen.capture_point.at → message ≡ seen.message → after ≡ after_seen follower number seen
heard follower after number seen n sent at message h e f k m =
    h ∙ ap (λ (x : ℕ). follower_after_record x sent at message follower) e ∙ ap (λ (x : Bool). follower_after_record number x at message follower) f
    ∙ ap (λ (x : ℕ). follower_after_record number (is_sent seen.capture_point.direction) x message follower) k
    ∙ ap (λ (x : List Bool). follower_after_record number (is_sent seen.capture_point.direction) (host_of seen.capture_point.at) x follower) m

module _ (letters : Bool) where
  state_is : (number : ℕ) (follower : Follower) (records : List Recorded) → state_from follow_pass number (state_of letters follower) records ≡ state_of letters (after_all follower number records)
  state_is number follower [] = refl
  state_is number follower (seen ∷ records) = state_is (number_after number) (after_seen follower number seen) records

  nothing_told : (number : ℕ) (follower : Follower) (records : List Recorded) → text_from follow_pass number (state_of letters follower) records ≡ []
  nothing_told number follower [] = refl
  nothing_told number follower (seen ∷ records) = nothing_told (number_after number) (after_seen follower number seen) records

  module _ (follower : Follower) where
    all_lines : (records : List Recorded) (ends : FileEnd) → whole_text follow_pass (state_of letters follower) records ends ≡ follow_lines letters (after_all follower 1 records)
    all_lines records ends =
        let last : FollowState = state_from follow_pass 1 (state_of letters follower) records in
        ap (λ (text : List ℕ). text ++ follow_lines last.letters last.follower) (nothing_told 1 follower records)
        ∙ ap (λ (state : FollowState). follow_lines state.letters state.follower) (state_is 1 follower records)

    shows_by : (bytes : List ℕ) (fault : Option FileFault) (records : List Recorded) (o : Option Version) → version_of bytes ≡ o → PassHolds follow_pass bytes records fault → ShowsFile follower bytes fault (after_all follower 1 records)
    shows_by bytes fault records None e h = let held = rw e at h in rw e (ap (after_all follower 1) held.0, held.1)
    shows_by bytes fault records (Some (One direction)) e h = let held = rw e at h in rw e (ap (after_all follower 1) held.0, held.1)
    shows_by bytes fault records (Some Two) e h = let held = rw e at h in rw e (records, held, refl)

    followed_as : (bytes text : List ℕ) (fault : Option FileFault) (ends : FileEnd) (records : List Recorded) → PassHolds follow_pass bytes records fault → text ≡ whole_text follow_pass (state_of letters follower) records ends → FollowedAs letters follower bytes text fault
    followed_as bytes text fault ends records h t = (after_all follower 1 records, shows_by bytes fault records (version_of bytes) refl h, t ∙ all_lines records ends)

    followed_cut : (given text : List ℕ) → PrintsCut follow_pass (state_of letters follower) given text → FollowedCut letters follower given text
    followed_cut given text h = (h.1, h.2, followed_as given text h.1 CutOff h.0 h.3 h.4)

    module _ (bytes was : List ℕ) (left written : Option (List ℕ)) where
      written_all : (fault : Option FileFault) → WritesAll (PrintsAs follow_pass (state_of letters follower)) bytes was written fault → WritesAll (FollowedAs letters follower) bytes was written fault
      written_all fault h = (h.0, followed_as bytes h.0 fault (end_at fault) h.1.0 h.1.1 h.1.2, h.2)

      written_part : PrintsPrefix follow_pass (state_of letters follower) bytes was written → FollowsPrefix letters follower bytes was written
      written_part (inl h) = (bytes, [], h.0, h.1, h.2, sym (append-nil bytes), followed_as bytes (h.0 ++ h.1) h.2 (end_at h.2) h.3.0 h.3.1 h.3.2, h.4)
      written_part (inr h) = (h.0, h.1, h.2, h.3, h.5.1, h.4, followed_as h.0 (h.2 ++ h.3) h.5.1 CutOff h.5.0 h.5.3 h.5.4, h.6)

      pub follows_ok : (good : Bool) → Passes follow_pass (state_of letters follower) bytes was left written (Ok good) → Follows letters follower bytes was left written (Ok tt)
      follows_ok good h = written_all None (whole_text follow_pass (state_of letters follower) h.0 Whole, (h.0, h.1, refl), h.2)

      pub follows_err : (fault : FileFault) → Passes follow_pass (state_of letters follower) bytes was left written (Err fault) → Follows letters follower bytes was left written (Err fault)
      follows_err BadHeader h = written_all _ h
      follows_err Truncated h = written_all _ h
      follows_err TooLong h = written_all _ h
      follows_err SpareNotZero h = written_all _ h
      follows_err BadDirection h = written_all _ h
      follows_err Mixed h = written_all _ h
      follows_err ReadFailed h = (h.0, h.1, h.2, h.3, h.4, followed_cut h.0 h.2 h.5, h.6)
      follows_err WriteFailed h = written_part h
