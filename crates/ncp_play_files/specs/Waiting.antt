-- Whether more bytes have to arrive before the next record is complete. Until then a reader may have to
-- wait.
use Rattle.std.specs.Prelude.{ℕ, ◌+◌, ◌||◌, ◌&&◌, not, nat_lt, Bool, List, length, drop}
use Rattle.byteorder.specs.Endian.{big_number}
use Rattle.ncp_numbers.specs.Bytes.{bytes_for}
use Rattle.ncp_bits.specs.declared.bits.TheConstants.{MAX_BITS}
use Rattle.ncp_play_files.specs.declared.version.Version.{Version}
use Rattle.ncp_play_files.specs.declared.version.Version.TheVariants.{One, Two}

-- after `front` bytes the length of a message is incomplete; or it is within the limit, and the message
-- is incomplete
abbrev pub lacks_message : ℕ → List ℕ → Bool
lacks_message front bytes =
    let bits = big_number 2 (drop front bytes) in
    nat_lt (length bytes) (front + 2) || (not (nat_lt MAX_BITS bits) && nat_lt (length bytes) (front + 2 + bytes_for bits))

-- the first record of these bytes is incomplete; in version 2 two bytes precede its message
abbrev pub is_waiting : Version → List ℕ → Bool
is_waiting (One direction) bytes = lacks_message 0 bytes
is_waiting Two bytes = lacks_message 2 bytes
