-- A packet's header and the places of its parts, as plain numbers.
use Rattle.std.specs.Prelude.{ℕ, ◌+◌, ◌*◌, cond, List, ltb}
use Rattle.wire.specs.Bytes.{number_at}
use Rattle.layout.specs.declared.Header.{Header}
use Rattle.layout.specs.Encode.{header}
use Rattle.layout.specs.Decode.{Decoded, taken, refused}
use Rattle.library_reader.specs.declared.RcPacket.{RcPacket}
use Rattle.library_reader.specs.declared.RcPart.{RcPart}

abbrev pub plain_header : Header → RcPacket
plain_header h =
    record {
      refusal = 0;
      kind = h.kind;
      signature_type = h.signature_type;
      pairs = h.pairs;
      signer_id = h.signer_id;
      reserved = 0;
      dkg_id = h.ids.dkg_id;
      sign_id = h.ids.sign_id;
      sign_iter_id = h.ids.sign_iter_id;
    }

abbrev pub refused_packet : ℕ → RcPacket
refused_packet n =
    record {
      refusal = n;
      kind = 0;
      signature_type = 0;
      pairs = 0;
      signer_id = 0;
      reserved = 0;
      dkg_id = 0;
      sign_id = 0;
      sign_iter_id = 0;
    }

-- the header of a packet that is taken; 8 or 9
unfoldable pub packet_of : Decoded → RcPacket
packet_of (taken m) = plain_header (header m)
packet_of (refused n) = refused_packet n

-- the place that pair i names, of so many; nothing where there is none
unfoldable pub place_in : List ℕ → ℕ → ℕ → RcPart
place_in s pairs i =
    cond (ltb i pairs) (record { at = number_at 4 (32 + 8 * i) s; length = number_at 4 (32 + 8 * i + 4) s }) (record { at = 0; length = 0 })
