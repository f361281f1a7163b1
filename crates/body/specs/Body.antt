-- The root and the nonce request that a head says.
use Rattle.std.specs.Prelude.{ℕ, List, take}
use Rattle.layout.specs.Types.{type_number, root_length}
use Rattle.layout.specs.Messages.{NonceRequest}
use Rattle.body.specs.declared.RequestHead.{RequestHead}

-- the root's bytes: all 32 for type 3, else none
unfoldable pub root_of : RequestHead → List ℕ
root_of h = take (root_length (type_number h.signature_type)) h.root

unfoldable pub request_of : RequestHead → List ℕ → NonceRequest
request_of h message = record { ids = h.ids; message = message; signature_type = h.signature_type; root = root_of h }
