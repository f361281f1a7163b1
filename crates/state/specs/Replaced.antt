-- A message in the place of the last one, and no shares.
use Rattle.std.specs.Prelude.{ℕ, false, List, length, replicate}
use Rattle.wire.specs.Bytes.{put}
use Rattle.layout.specs.Limits.{list_limit, signer_limit}
use Rattle.state.specs.declared.fields.Message.{Message}
use Rattle.state.specs.declared.fields.ShareSlot.{ShareSlot}
use Rattle.state.specs.declared.fields.Shares.{Shares}

-- the message's bytes over the old ones; those past it stay
abbrev pub message_with : List ℕ → Message → Message
message_with message m = record { bytes = put m.bytes 0 message; len = length message }

abbrev pub empty_shares : ShareSlot
empty_shares = record { held = false; count = 0; key_counts = replicate list_limit 0 }

-- no signer's shares
abbrev pub none_held : Shares
none_held = record { slots = replicate signer_limit empty_shares }
