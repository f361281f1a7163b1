-- A message within the limits, written into a buffer with room.
-- Assumes nothing.
use Rattle.std.specs.Prelude.{Ok}
use Rattle.std.proofs.Common.{◌≡◌, ℕ, ◌≤◌, true, List, ◌++◌, length, take, drop, arith, length-take, le-ltb, le-leb}
use Rattle.layout.specs.declared.SignatureType.{SignatureType}
use Rattle.layout.specs.Messages.{Message, nonce_request}
use Rattle.layout.specs.Encode.{encode}
use Rattle.layout.specs.Decode.{within}
use Rattle.layout.specs.Limits.{message_limit, answer_length}
use Rattle.framing.specs.Writing.{Wrote, writing, written, write_message, answer, buffer, Written}
use Rattle.state.specs.declared.fields.Coordinator.{Coordinator}
use Rattle.starts.specs.Starts.{request_from}

module _ (m : Message) (out : List ℕ) (room : answer_length ≤ length out) (fine : within m ≡ true) where
  whole : write_message (length out) m ≡ written (encode m)
  unfolding write_message writing
  whole = rw (le-ltb (length out) answer_length room, fine)

  module _ {r : Written} {after : List ℕ} (w : Wrote (write_message (length out) m) out r after) where
    pub wrote_length : r ≡ Ok (length (encode m))
    unfolding answer
    wrote_length = rw whole at w.answered

    pub wrote_bytes : after ≡ encode m ++ drop (length (encode m)) out
    unfolding buffer
    wrote_bytes = rw whole at w.buffered

pub request-within : (t : SignatureType) (root : List ℕ) (s : Coordinator) → s.message.len ≤ message_limit → within (nonce_request (request_from t root s)) ≡ true
unfolding within
request-within t root s few =
    let short : length (take s.message.len s.message.bytes) ≤ message_limit = rw length-take (omega arith) in
    le-leb _ _ short
