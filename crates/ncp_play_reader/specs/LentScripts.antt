-- The state of a script, its lines with their source, in terms of the source's ghosts.
use Rattle.std.specs.Prelude.{◌≡◌, ◌<◌, ℕ, Bool, List, Option}
use Rattle.ncp_play_stream.specs.Streams.{RemainingInput}
use Rattle.ncp_play_stream.specs.declared.source.Source.{Ghosts}
use Rattle.ncp_play_buffer.specs.InBuffers.{read_measure}
use Rattle.ncp_play_reader.specs.declared.script.Script.{Script}

-- the lines and the source are those that were borrowed
abbrev pub SameScript : {S : Type 0} → Script S → Script S → Type 0
SameScript script script' = (script'.lines.ghost_name ≡ script.lines.ghost_name) × (script'.source.ghost_name ≡ script.source.ghost_name)

module _ {S : Type 0} (source : Ghosts S) where
  -- the bytes that the source has left, if it reports them
  abbrev pub script_left : Script S → Option (List ℕ)
  script_left script = source.left script.source.now

  -- a read has failed, so the rest is never read
  abbrev pub is_cut_off : Script S → Bool
  is_cut_off script = source.has_failed script.source.now

  -- the remaining work of a reader
  abbrev pub script_work : Script S → ℕ
  script_work script = read_measure (source.reads script.source.now) script.lines.now.window

  -- the remaining work has decreased
  abbrev pub ReadsOn : Script S → Script S → Type 0
  ReadsOn script script' = script_work script' < script_work script

  -- these bytes are still to be read, in the buffer or from the source
  abbrev pub ScriptBrings : Script S → List ℕ → Type 0
  ScriptBrings script bytes = RemainingInput script.lines.now.window (script_left script) bytes
